-- `unit_turn::top_of` meets its contract.
use mir.Syntax.{w64}
use mathlib.Core.Path.{refl}
use mir.Facts.{to_z-of_z}
use Rattle.num_whole.proofs.Cases.{yes, no}
use Rattle.unit_turn.specs.Turning.{top_of}
use Rattle.unit_turn.proofs.top_of.Goals as goal

pub returns-then-row : goal.returns-then-row
unfolding top_of
returns-then-row c = yes _ _ _ c.if-row.true refl

pub returns-else-row : goal.returns-else-row
unfolding top_of
returns-else-row c = no _ _ _ c.if-row.false (to_z-of_z {w = w64} (record { sfits = c.struct_told-1.given.1.1.0.1 }))

-- `norm_gather::held_at` meets its contract: the sum that stands there, or 0 past the rows.
use mathlib.Core.Path.{◌∙◌}
use mir.Syntax.{w64}
use mir.ValLaws.{to_z-of_z}
use Rattle.norm_add.proofs.Held.{held_there, held_past}
use native.Mathlib.Omega.{arith}
use Rattle.norm_gather.proofs.held_at.Goals as goal

pub returns-then-i-c : goal.returns-then-i-c
returns-then-i-c c =
    held_there c.args.s.now c.args.c c.args.i c.if-i-c.true
    (to_z-of_z w64 c.sum_from.result (record { sfits = c.sum_from.type_inv }) ∙ c.sum_from.ensures)

pub returns-else-i-c : goal.returns-else-i-c
returns-else-i-c c = held_past c.args.s.now c.args.c c.args.i (omega arith)

-- `unit_turn::on_circle` meets its contract: T is known by its word.
use mathlib.Core.Path.{refl}
use mir.Facts.{to_z-of_z}
use Rattle.num_whole.proofs.Cases.{yes, no}
use Rattle.unit_turn.specs.Turning.{on_circle}
use Rattle.unit_turn.proofs.Words.{is_turn_lem, not_turn}
use Rattle.unit_turn.proofs.on_circle.Goals as goal

pub returns-then-q-eq-TURN : goal.returns-then-q-eq-TURN
unfolding on_circle
returns-then-q-eq-TURN c = yes _ _ _ c.if-row.true (yes _ _ _ (is_turn_lem c.args.q c.ranges.q c.if-q-eq-TURN.true) refl)

pub returns-else-q-eq-TURN : goal.returns-else-q-eq-TURN
unfolding on_circle
returns-else-q-eq-TURN c = yes _ _ _ c.if-row.true (no _ _ _ (not_turn c.args.q c.if-q-eq-TURN.false) (to_z-of_z c.ranges.q))

pub returns-else-row : goal.returns-else-row
unfolding on_circle
returns-else-row c = no _ _ _ c.if-row.false (to_z-of_z c.ranges.q)

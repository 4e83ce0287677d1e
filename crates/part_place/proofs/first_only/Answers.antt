-- `part_place::first_only` meets its contract.
use mathlib.Core.Path.{sym, ap, ◌∙◌}
use native.Mathlib.Omega.{arith}
use Rattle.num_whole.specs.Tests.{same}
use Rattle.num_whole.proofs.Cases.{holds, is_same, not_same, by_same}
use Rattle.part_place.proofs.Places.{stops}
use Rattle.part_place.proofs.first_only.Goals as goal

pub returns-then-number-eq1 : goal.returns-then-number-eq1
returns-then-number-eq1 c = holds _ _ (is_same _ _ (omega (arith, c.number.ensures))) (by_same _ _)

pub returns-else-number-eq1 : goal.returns-else-number-eq1
returns-else-number-eq1 c = stops _ (by_same _ _ ∙ ap (λ n. same n 1) c.number.ensures) (not_same _ _ (λ e. omega (arith, c.number.ensures)))

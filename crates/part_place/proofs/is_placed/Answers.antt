-- `part_place::is_placed` meets its contract.
use native.Mathlib.Omega.{arith}
use mathlib.Core.Path.{ap, ◌∙◌}
use Prim.Native.Nat.{◌+◌}
use Rattle.num_whole.specs.Tests.{less}
use Rattle.num_whole.proofs.Cases.{holds, is_up_to, not_up_to, by_less, by_up_to}
use Rattle.part_place.proofs.Places.{stops}
use Rattle.part_place.proofs.is_placed.Goals as goal

pub returns-then-taken-a : goal.returns-then-taken-a
returns-then-taken-a c =
    rw c.in-Ok.is
    (holds _ _ (is_up_to _ _ c.if-taken-a.true) (by_less _ _ ∙ ap (λ n. less c.args.length (c.in-Ok.a.start + n)) c.limit.ensures.0))

pub returns-else-taken-a : goal.returns-else-taken-a
returns-else-taken-a c = rw c.in-Ok.is (stops _ (by_up_to _ _) (not_up_to _ _ c.if-taken-a.false))

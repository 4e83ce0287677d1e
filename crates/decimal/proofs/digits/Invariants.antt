-- `decimal::digits` meets its contract. The loop's invariant: x's digits before those that stand from i on are the number's; x has at most i.
use Prim.Native.Nat.{◌-◌, ◌≤◌, ◌<◌, ◌^◌}
use mathlib.Core.Path.{◌≡◌}
use lib.ListN.{length, drop}
use Rattle.decimal.specs.Decimal.{digits_of, decimal}
use Rattle.decimal.proofs.digits.Given as goal

abbrev pub invariant-loop-x : goal.invariant-loop-x
invariant-loop-x l =
    (length l.last ≡ 20) × (1 ≤ l.i) × (l.i ≤ 20) × (l.x < 10 ^ l.i) × (digits_of l.i l.x (drop l.i l.last) ≡ decimal l.n)

abbrev pub decreases-loop-x : goal.decreases-loop-x
decreases-loop-x l = l.i

-- `days::months_days` meets its contract. The loop's invariant: the days of the first i months are added up.
use Prim.Native.Nat.{◌≤◌}
use mathlib.Core.Path.{◌≡◌}
use Rattle.days.specs.Calendar.{days_of_months}
use Rattle.days.proofs.months_days.Given as goal

abbrev pub invariant-loop-i : goal.invariant-loop-i
invariant-loop-i l = (l.i ≤ l.n) × (l.days ≡ days_of_months l.year l.i)

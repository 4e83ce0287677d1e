-- `merge_read::agree` meets its contract. The loop's invariant: every pair that was passed agrees.
use mathlib.Core.Path.{◌≡◌}
use mathlib.Core.Bool.{true}
use Prim.Native.Nat.{ℕ, ◌≤◌, ◌<◌}
use Rattle.merge_read.specs.Read.{agree_at}
use Rattle.merge_read.proofs.agree.Given as goal

abbrev pub invariant-loop-i : goal.invariant-loop-i
invariant-loop-i l = (l.i ≤ l.count) × ((k : ℕ) → k < l.i → agree_at l.a l.start l.n l.left l.b l.begin l.m l.right k ≡ true)

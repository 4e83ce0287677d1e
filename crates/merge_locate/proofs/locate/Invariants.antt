-- `merge_locate::locate` meets its contract. The loop's invariant: what is left to choose makes the whole.
use mathlib.Core.Path.{◌≡◌}
use Prim.Native.Nat.{◌≤◌, ◌+◌, ◌-◌}
use lib.ListN.{length}
use Rattle.byte_words.specs.Words.{lay}
use Rattle.merge_locate.specs.Locate.{stored_for, numbers_where}
use Rattle.merge_locate.proofs.locate.Given as goal

abbrev pub invariant-loop-i : goal.invariant-loop-i
invariant-loop-i l =
    (l.i ≤ l.n)
    × (l.m ≤ l.i)
    × (length l.t ≡ length l.initial.t)
    × (l.m + length (numbers_where (stored_for l.s l.labels l.p l.left) l.i (l.n - l.i)) ≡ length (numbers_where (stored_for l.s l.labels l.p l.left) 0 l.n))
    × (lay l.initial.t 0 (numbers_where (stored_for l.s l.labels l.p l.left) 0 l.n) ≡ lay l.t l.m (numbers_where (stored_for l.s l.labels l.p l.left) l.i (l.n - l.i)))

-- `norm_kinds::count_stored` meets its contract. The loop's invariant: what is left to count makes the whole.
use mathlib.Core.Path.{◌≡◌}
use Prim.Native.Nat.{◌≤◌, ◌+◌, ◌-◌, ◌*◌}
use lib.ListN.{length}
use Rattle.byte_words.specs.Stands.{stands}
use Rattle.norm_kinds.specs.Kinds.{fielded_at, stored_of}
use Rattle.norm_kinds.proofs.count_stored.Given as goal

abbrev pub invariant-loop-i : goal.invariant-loop-i
invariant-loop-i l =
    (l.n ≤ l.i) × (length (stored_of (stands (fielded_at l.s) 24 l.p l.labels)) ≡ l.n + length (stored_of (stands (fielded_at l.s) 24 (l.p - l.i) (l.labels + 24 * l.i))))

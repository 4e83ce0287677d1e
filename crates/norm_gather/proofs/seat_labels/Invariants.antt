-- `norm_gather::seat_labels` meets its contract. The loop's invariant: the places left, laid at the turn, make the whole.
use mathlib.Core.Path.{◌≡◌}
use Prim.Native.Nat.{◌≤◌, ◌+◌, ◌-◌, ◌*◌}
use lib.ListN.{length}
use Rattle.byte_words.specs.Words.{lay}
use Rattle.byte_words.specs.Stands.{stands}
use Rattle.norm_kinds.specs.Kinds.{fielded_at}
use Rattle.norm_gather.specs.Gather.{seats_from}
use Rattle.norm_gather.proofs.seat_labels.Given as goal

abbrev pub invariant-loop-i : goal.invariant-loop-i
invariant-loop-i l =
    (l.q ≤ l.i) × (length l.w ≡ length l.initial.w)
    × (lay l.initial.w 0 (seats_from l.n 0 (stands (fielded_at l.s) 24 l.p l.labels)) ≡ lay l.w l.i (seats_from l.n l.q (stands (fielded_at l.s) 24 (l.p - l.i) (l.labels + 24 * l.i))))

-- `norm_gather::keep_seats` meets its contract. The loop's invariant: what is left to keep makes the whole.
use mathlib.Core.Path.{◌≡◌}
use Prim.Native.Nat.{◌≤◌, ◌+◌}
use lib.ListN.{length, drop}
use Rattle.byte_words.specs.Words.{lay}
use Rattle.norm_gather.specs.Gather.{kept_seats, field_by_seat}
use Rattle.norm_gather.proofs.keep_seats.Given as goal

abbrev pub invariant-loop-i : goal.invariant-loop-i
invariant-loop-i l =
    (l.i ≤ length l.w) × (l.m ≤ l.i) × (length l.u ≡ length l.initial.u)
    × (l.m + length (kept_seats (field_by_seat l.is_small l.s l.start l.n) (drop l.i l.w)) ≡ length (kept_seats (field_by_seat l.is_small l.s l.start l.n) l.w))
    × (lay l.initial.u 0 (kept_seats (field_by_seat l.is_small l.s l.start l.n) l.w) ≡ lay l.u l.m (kept_seats (field_by_seat l.is_small l.s l.start l.n) (drop l.i l.w)))

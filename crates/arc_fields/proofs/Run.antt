-- Laws of the run of an arc file: how long it may be, and what is left to copy of it.
-- Assumes nothing.
use Prim.Native.Nat.{ℕ, suc, ◌+◌, ◌*◌, ◌/◌, ◌≤◌, ◌<◌}
use mathlib.Core.Path.{◌≡◌}
use mathlib.Core.List.{List}
use native.Mathlib.Omega.{arith}
use native.Mathlib.Numerals.{add-one}
use native.Mathlib.Nat.{div-lt_iff_lt-mul}
use lib.ListN.{length, drop, get_or, set, drop_of_length-le}
use lib.Seq.{drop-cons}
use Rattle.byte_words.specs.Words.{lay}
use Rattle.arc_kinds.specs.Kinds.{record_size}

-- ---- a run of so few records is short
pub run_short : (p n : ℕ) → p ≤ 50 → n / record_size p ≤ 65535 → n < 8650752
run_short p n few h =
    let some : 0 < record_size p = omega arith in
    let less : n < 65536 * record_size p = (div-lt_iff_lt-mul some).0 (omega arith) in
    omega arith

-- ---- a loop that copies a run: what is left at each turn
module _ (out run : List ℕ) (start i : ℕ) where
  pub run_end_lem : length run ≤ i → lay out (start + i) (drop i run) ≡ out
  unfolding lay
  run_end_lem e = rw (drop_of_length-le run e)

  pub run_turn : i < length run
      → lay out (start + i) (drop i run) ≡ lay (set out (start + i) (get_or run i 0)) (start + (i + 1)) (drop (i + 1) run)
  unfolding lay
  run_turn more =
      let next : start + (i + 1) ≡ suc (start + i) = omega arith in
      rw (drop-cons run i 0 more, next, add-one)

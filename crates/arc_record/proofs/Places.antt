-- A record's place is found by a division: nothing walks over the records.
-- Assumes nothing.
use Prim.Native.Nat.{ℕ, suc, ◌+◌, ◌-◌, ◌*◌, ◌/◌, ◌≤◌, ◌<◌}
use mathlib.Core.Path.{◌≡◌, refl, sym}
use mathlib.Core.List.{List, []}
use native.Mathlib.Omega.{arith}
use native.Mathlib.Nat.{suc-mul, le-div_iff_mul-le, div-lt_iff_lt-mul}
use lib.ListN.{length, take, drop}
use Rattle.num_whole.proofs.Cases.{yes, no, holds, fails, is_up_to, not_up_to}
use Rattle.arc_kinds.specs.Kinds.{record_size}
use Rattle.arc_record.specs.Record.{record_part}

-- of so many bytes after a start, how many are whole
module _ (long start size i left : ℕ) (some : 0 < size) (e : left ≡ long - start) where
  pub is_whole : i < left / size → start + i * size + size ≤ long
  is_whole h = omega (arith, (le-div_iff_mul-le some).0 h, suc-mul i size)

  pub not_whole : left / size ≤ i → long < start + i * size + size
  not_whole h = let less : left / size < suc i = omega arith in omega (arith, (div-lt_iff_lt-mul some).0 less, suc-mul i size)

module _ (s : List ℕ) (start p i : ℕ) where
  next_one : start + suc i * record_size p ≡ start + i * record_size p + record_size p
  next_one = omega (arith, suc-mul i (record_size p))

  -- the bytes from the record's first to the next one's
  pub part_here : p ≤ 50 → start + i * record_size p + record_size p ≤ length s
      → take (start + i * record_size p + record_size p - (start + i * record_size p)) (drop (start + i * record_size p) s) ≡ record_part s start p i
  unfolding record_part
  part_here few room =
      let size : start + i * record_size p + record_size p - (start + i * record_size p) ≡ record_size p = omega arith in
      rw (size, next_one) (yes _ _ _ (sym (holds _ _ (is_up_to _ _ few) (sym (is_up_to _ _ room)))) refl)

  pub part_past : p ≤ 50 → length s < start + i * record_size p + record_size p → [] ≡ record_part s start p i
  unfolding record_part
  part_past few past = rw next_one (no _ _ _ (sym (holds _ _ (is_up_to _ _ few) (sym (not_up_to _ _ past)))) refl)

  pub part_none : 50 < p → [] ≡ record_part s start p i
  unfolding record_part
  part_none many = no _ _ _ (sym (fails _ _ (not_up_to _ _ many))) refl

-- The position by value: a position's bytes with zeros after them, and back.
-- Assumes nothing.
use Prim.Native.Nat.{ℕ, zero, suc, ◌+◌, ◌-◌, ◌≤◌}
use mathlib.Core.Path.{◌≡◌, refl, sym, ap, ap₂, ◌∙◌}
use mathlib.Core.List.{List, [], ◌∷◌, ◌++◌}
use mathlib.Core.Bool.{Bool, true}
use native.Mathlib.Omega.{arith}
use lib.ListN.{length, take, drop, replicate, length-drop, take-append-drop}
use lib.Seq.{take_at, drop_at, take_all, length-take-le}
use Rattle.num_whole.specs.Tests.{same}
use Rattle.num_whole.specs.Lists.{all, rest, padded}
use Rattle.num_whole.proofs.Cases.{holds, is_same, is_up_to, same_true, up_to_true, both_first, both_second}
use Rattle.num_whole.proofs.Padded.{length_padded}
use Rattle.part_laws.specs.Feeding.{Position}
use Rattle.part_laws.specs.Entries.{position_most, position_of, held_of, tidy}
use Rattle.part_laws.specs.declared.Position as ByValue

-- ---- zeros
abbrev zero? : ℕ → Bool
zero? b = same b 0

all_zeros : (n : ℕ) → all zero? (replicate n 0) ≡ true
unfolding all
all_zeros zero = refl
all_zeros (suc n) = sym (holds _ _ (is_same 0 0 refl) (sym (all_zeros n)))

zeros : (l : List ℕ) → all zero? l ≡ true → l ≡ replicate (length l) 0
unfolding all
zeros [] e = refl
zeros (x ∷ l) e = ap₂ (λ y m. y ∷ m) (same_true x 0 (both_first _ _ e)) (zeros l (both_second _ _ e))

-- ---- a position by value, and back
module _ (p : Position) where
  pub position_back : position_of (held_of p) ≡ p
  position_back =
      ap (λ x. record { kept = x; taken = p.taken; over = p.over }) (take_at p.kept (replicate (position_most - length p.kept) 0) (length p.kept) refl)

  pub held_tidy : length p.kept ≤ position_most → tidy (held_of p) ≡ true
  unfolding tidy rest
  held_tidy fits =
      let n = position_most - length p.kept in
      let full : take position_most (padded position_most 0 p.kept) ≡ padded position_most 0 p.kept =
      take_all position_most (padded position_most 0 p.kept) (omega (arith, length_padded position_most 0 p.kept fits)) in
      let past : drop (length p.kept) (take position_most (padded position_most 0 p.kept)) ≡ replicate n 0 =
      ap (drop (length p.kept)) full ∙ drop_at p.kept (replicate n 0) (length p.kept) refl in
      sym (holds _ _ (is_up_to _ _ fits) (sym (ap (all zero?) past ∙ all_zeros n)))

-- ---- one handed in, whose room past its bytes is 0
module _ (p : ByValue.Position) (room : length p.kept ≡ position_most) (ok : tidy p ≡ true) where
  pub tidy_fits : p.length ≤ position_most
  unfolding tidy
  tidy_fits = up_to_true _ _ (both_first _ _ ok)

  pub tidy_long : length (position_of p).kept ≡ p.length
  tidy_long = length-take-le p.length p.kept (omega (arith, tidy_fits))

  pub held_back : held_of (position_of p) ≡ p
  unfolding tidy rest
  held_back =
      let k = p.length in
      let past : drop k p.kept ≡ replicate (position_most - k) 0 =
      ap (drop k) (sym (take_all position_most p.kept (omega arith)))
      ∙ zeros (drop k (take position_most p.kept)) (both_second _ _ ok)
      ∙ ap (λ n. replicate n 0) (length-drop k (take position_most p.kept) ∙ ap (λ l. length l - k) (take_all position_most p.kept (omega arith)) ∙ ap (λ n. n - k) room) in
      let whole : padded position_most 0 (take k p.kept) ≡ p.kept =
      ap (λ n. take k p.kept ++ replicate (position_most - n) 0) tidy_long
      ∙ ap (λ l. take k p.kept ++ l) (sym past)
      ∙ take-append-drop k p.kept in
      ap₂ (λ x n. record { kept = x; length = n; taken = p.taken; over = p.over }) whole tidy_long

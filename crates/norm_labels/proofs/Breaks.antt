-- What it says of one sum that it is not unsound: it keeps its bound, a diagonal is not negative, and beside a zero diagonal there is zero.
-- Assumes nothing.
use mathlib.Core.Path.{◌≡◌, sym, ap, ◌∙◌}
use mathlib.Core.List.{List}
use mathlib.Core.Bool.{Bool, true, false, cond}
use Prim.Native.Nat.{ℕ, ◌≤◌}
use borrow.Author.Tests.{eqb-true, eqb-false}
use lib.Dec.{eqb}
use lib.IntN.{ℤ, pos, neg_ℤ, nat_abs}
use lib.Signed.{lt_z}
use lib.ListN.{get_or}
use Rattle.num_whole.proofs.Cases.{apart, by_cases}
use Rattle.num_packed.specs.Sound.{entry, is_zero, breaks, breaks_side}
use Rattle.num_packed.proofs.Tests.{chosen, other, zero_true, zero_is, plain_of, plain_is, not_above, not_under}
use Rattle.norm_system.proofs.Sound.{cond_false, entry_within, side_within}

-- ---- a matrix sum
pub record Kept (b : ℕ) (m : List ℤ) (i j : ℕ) : Type 0 where
  pub small : nat_abs (entry m i j) ≤ b
  pub plain : i ≡ j → entry m i j ≡ pos (nat_abs (entry m i j))
  pub row : entry m i i ≡ pos 0 → entry m i j ≡ pos 0
  pub column : entry m j j ≡ pos 0 → entry m i j ≡ pos 0

module _ (b : ℕ) (m : List ℤ) (i j : ℕ) where
  abbrev beside : Bool
  beside = cond (is_zero (entry m i j)) false (cond (is_zero (entry m i i)) true (is_zero (entry m j j)))

  abbrev rest : Bool
  rest = cond (eqb i j) (lt_z (entry m i j) (pos 0)) beside

  off : beside ≡ false → (entry m i i ≡ pos 0 → entry m i j ≡ pos 0) × (entry m j j ≡ pos 0 → entry m i j ≡ pos 0)
  off e =
      by_cases (is_zero (entry m i j))
      (λ t. (λ d. zero_true _ t, λ d. zero_true _ t))
      (λ t. let z = cond_false _ _ (sym (other (is_zero (entry m i j)) false (cond (is_zero (entry m i i)) true (is_zero (entry m j j))) t) ∙ e) in
      (λ d. absurd (apart (sym (zero_is _ d) ∙ z.0)), λ d. absurd (apart (sym (zero_is _ d) ∙ z.1))))

  pub kept : breaks (pos b) m i j ≡ false → Kept b m i j
  unfolding breaks
  kept e =
      let x = cond_false (lt_z (pos b) (entry m i j)) (cond (lt_z (entry m i j) (neg_ℤ (pos b))) true rest) e in
      let y = cond_false (lt_z (entry m i j) (neg_ℤ (pos b))) rest x.1 in
      by_cases (eqb i j)
      (λ t. on (eqb-true i j t) (plain_of _ (sym (chosen (eqb i j) (lt_z (entry m i j) (pos 0)) beside t) ∙ y.1)))
      (λ t. let z = off (sym (other (eqb i j) (lt_z (entry m i j) (pos 0)) beside t) ∙ y.1) in
      record { small = entry_within b m i j e; plain = λ d. absurd (eqb-false i j t d); row = z.0; column = z.1 })
    where
      on : i ≡ j → entry m i j ≡ pos (nat_abs (entry m i j)) → Kept b m i j
      on d p =
          record {
            small = entry_within b m i j e;
            plain = λ d. p;
            row = λ z. ap (entry m i) (sym d) ∙ z;
            column = λ z. ap (λ n. entry m n j) d ∙ z;
          }

  pub unbroken : Kept b m i j → breaks (pos b) m i j ≡ false
  unfolding breaks
  unbroken k =
      other (lt_z (pos b) (entry m i j)) true (cond (lt_z (entry m i j) (neg_ℤ (pos b))) true rest) (not_above b (entry m i j) k.small)
      ∙ other (lt_z (entry m i j) (neg_ℤ (pos b))) true rest (not_under b (entry m i j) k.small)
      ∙ by_cases (eqb i j)
      (λ t. chosen (eqb i j) (lt_z (entry m i j) (pos 0)) beside t ∙ plain_is (entry m i j) (k.plain (eqb-true i j t)))
      (λ t. other (eqb i j) (lt_z (entry m i j) (pos 0)) beside t ∙ aside)
    where
      full : {z : ℤ} → (z ≡ pos 0 → entry m i j ≡ pos 0) → is_zero (entry m i j) ≡ false → is_zero z ≡ false
      full {z} h t = by_cases (is_zero z) (λ d. absurd (apart (sym (zero_is _ (h (zero_true z d))) ∙ t))) (λ d. d)

      aside : beside ≡ false
      aside =
          by_cases (is_zero (entry m i j))
          (λ t. chosen (is_zero (entry m i j)) false (cond (is_zero (entry m i i)) true (is_zero (entry m j j))) t)
          (λ t. other (is_zero (entry m i j)) false (cond (is_zero (entry m i i)) true (is_zero (entry m j j))) t
          ∙ other (is_zero (entry m i i)) true (is_zero (entry m j j)) (full k.row t) ∙ full k.column t)

-- ---- a right side
pub record KeptSide (b : ℕ) (m r : List ℤ) (i : ℕ) : Type 0 where
  pub small : nat_abs (get_or r i (pos 0)) ≤ b
  pub silent : entry m i i ≡ pos 0 → get_or r i (pos 0) ≡ pos 0

module _ (b : ℕ) (m r : List ℤ) (i : ℕ) where
  abbrev last : Bool
  last = cond (is_zero (get_or r i (pos 0))) false (is_zero (entry m i i))

  pub kept_side : breaks_side (pos b) m r i ≡ false → KeptSide b m r i
  unfolding breaks_side
  kept_side e =
      let x = cond_false (lt_z (pos b) (get_or r i (pos 0))) (cond (lt_z (get_or r i (pos 0)) (neg_ℤ (pos b))) true last) e in
      let y = cond_false (lt_z (get_or r i (pos 0)) (neg_ℤ (pos b))) last x.1 in
      record {
        small = side_within b m r i e;
        silent = λ d. by_cases (is_zero (get_or r i (pos 0)))
            (λ t. zero_true _ t)
            (λ t. absurd (apart (sym (zero_is _ d) ∙ sym (other (is_zero (get_or r i (pos 0))) false (is_zero (entry m i i)) t) ∙ y.1)));
      }

  pub unbroken_side : KeptSide b m r i → breaks_side (pos b) m r i ≡ false
  unfolding breaks_side
  unbroken_side k =
      other (lt_z (pos b) (get_or r i (pos 0))) true (cond (lt_z (get_or r i (pos 0)) (neg_ℤ (pos b))) true last) (not_above b (get_or r i (pos 0)) k.small)
      ∙ other (lt_z (get_or r i (pos 0)) (neg_ℤ (pos b))) true last (not_under b (get_or r i (pos 0)) k.small)
      ∙ by_cases (is_zero (get_or r i (pos 0)))
      (λ t. chosen (is_zero (get_or r i (pos 0))) false (is_zero (entry m i i)) t)
      (λ t. other (is_zero (get_or r i (pos 0))) false (is_zero (entry m i i)) t
      ∙ by_cases (is_zero (entry m i i)) (λ d. absurd (apart (sym (zero_is _ (k.silent (zero_true (entry m i i) d))) ∙ t))) (λ d. d))

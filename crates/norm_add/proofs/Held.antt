-- Sums where they stand in a file's bytes: the tests of the code, their size, and a column of a triangle.
-- Assumes nothing.
use mathlib.Core.Path.{◌≡◌, refl, sym, ap, ◌∙◌, subst}
use mathlib.Core.List.{List}
use mathlib.Core.Bool.{true}
use Prim.Native.Nat.{ℕ, suc, ◌+◌, ◌*◌, ◌≤◌, ◌<◌, zero-le}
use native.Mathlib.Numerals.{add-one}
use native.Mathlib.Omega.{arith}
use lib.IntN.{ℤ, pos, nat_abs}
use lib.ListN.{length, get_or, get_or-eq_default}
use mir.Syntax.{w64}
use Rattle.num_whole.specs.Tests.{less, up_to}
use Rattle.num_whole.proofs.Cases.{yes, no, is_less, not_less, less_true, less_false, up_to_true, up_to_false, by_cases}
use Rattle.byte_words.specs.Words.{signed_word}
use Rattle.byte_words.proofs.Stands.{length_stands, stands_at}
use Rattle.num_packed.specs.Triangle.{tri}
use Rattle.num_packed.specs.Sound.{entry}
use Rattle.num_packed.proofs.Places.{tri_within}
use Rattle.norm_labels.specs.Table.{sum_at}
use Rattle.norm_sum.specs.Sums.{sums_at}
use Rattle.norm_add.specs.Add.{held_at, column_at, SmallSums}
use Rattle.norm_add.specs.declared.Column.{Column}

module _ (s : List ℕ) (c : Column) (i : ℕ) where
  pub held_there : {z : ℤ} → i < c.rows → z ≡ signed_word w64 s (c.base + 8 * i) → z ≡ held_at s c i
  unfolding held_at
  held_there h e = yes _ _ _ (is_less i c.rows h) e

  pub held_past : c.rows ≤ i → pos 0 ≡ held_at s c i
  unfolding held_at
  held_past h = no _ _ _ (not_less i c.rows h) refl

  pub held_small : (m : ℕ) → SmallSums s c.base c.rows m → nat_abs (held_at s c i) ≤ m
  held_small m f =
      by_cases (less i c.rows)
      (λ t. subst (λ z. nat_abs z ≤ m) (held_there (less_true i c.rows t) refl) (f i (less_true i c.rows t)))
      (λ t. subst (λ z. nat_abs z ≤ m) (held_past (less_false i c.rows t)) zero-le)

-- sums as they stand
pub held_sum : (s : List ℕ) (start n i : ℕ) → held_at s (record { base = start; rows = n }) i ≡ get_or (sums_at s start n) i (pos 0)
held_sum s start n i =
    by_cases (less i n)
    (λ t. sym (held_there s (record { base = start; rows = n }) i (less_true i n t) refl) ∙ sym (stands_at (signed_word w64 s) 8 n start i (pos 0) (less_true i n t)))
    (λ t. let h : n ≤ i = less_false i n t in
    let long : length (sums_at s start n) ≡ n = length_stands (signed_word w64 s) 8 n start in
    sym (held_past s (record { base = start; rows = n }) i h) ∙ sym (get_or-eq_default (sums_at s start n) (pos 0) (omega arith)))

-- ---- a column
module _ (start n j : ℕ) where
  pub column_there : j < n → column_at start n j ≡ record { base = start + 8 * tri j; rows = suc j }
  unfolding column_at
  column_there h = sym (yes _ _ _ (is_less j n h) refl)

  -- as the code works it out
  pub column_is : (k : ℕ) → k ≡ tri j → j < n → record { base = start + 8 * k; rows = j + 1 } ≡ column_at start n j
  column_is k e h = (λ i. record { base = start + 8 * e i; rows = add-one j i }) ∙ sym (column_there h)

  pub column_none : n ≤ j → column_at start n j ≡ record { base = start; rows = 0 }
  unfolding column_at
  column_none h = sym (no _ _ _ (not_less j n h) refl)

  column_within : (long : ℕ) → start + 8 * tri n ≤ long → (column_at start n j).base + 8 * (column_at start n j).rows ≤ long
  column_within long h =
      by_cases (less j n)
      (λ t. let l : j < n = less_true j n t in
      subst (λ c. c.base + 8 * c.rows ≤ long) (sym (column_there l)) (omega (arith, tri_within j n l)))
      (λ t. subst (λ c. c.base + 8 * c.rows ≤ long) (sym (column_none (less_false j n t))) (omega arith))

  -- what the code has of it
  pub column_fits : (c : Column) (long : ℕ) → c ≡ column_at start n j → start + 8 * tri n ≤ long → c.base + 8 * c.rows ≤ long
  column_fits c long e h = subst (λ d. d.base + 8 * d.rows ≤ long) (sym e) (column_within long h)

  pub column_small : (s : List ℕ) (m : ℕ) → SmallSums s start (tri n) m → SmallSums s (column_at start n j).base (column_at start n j).rows m
  column_small s m f =
      by_cases (less j n)
      (λ t. let l : j < n = less_true j n t in subst (λ c. SmallSums s c.base c.rows m) (sym (column_there l)) (λ i h. within l i h))
      (λ t. subst (λ c. SmallSums s c.base c.rows m) (sym (column_none (less_false j n t))) (λ i h. absurd (omega arith)))
    where
      within : j < n → (i : ℕ) → i < suc j → nat_abs (signed_word w64 s (start + 8 * tri j + 8 * i)) ≤ m
      within l i h =
          let e : start + 8 * (tri j + i) ≡ start + 8 * tri j + 8 * i = omega arith in
          subst (λ p. nat_abs (signed_word w64 s p) ≤ m) e (f (tri j + i) (omega (arith, tri_within j n l)))

  -- its sums are those of the triangle
  pub column_sum : (s : List ℕ) (i : ℕ) → held_at s (column_at start n j) i ≡ sum_at (sums_at s start (tri n)) n i j
  unfolding sum_at
  column_sum s i =
      by_cases (less j n)
      (λ t. let l : j < n = less_true j n t in
      ap (λ c. held_at s c i) (column_there l)
      ∙ by_cases (up_to i j)
      (λ u. sym (held_there s (record { base = start + 8 * tri j; rows = suc j }) i (omega (arith, up_to_true i j u)) refl) ∙ place l u ∙ yes _ _ _ t (yes _ _ _ u refl))
      (λ u. sym (held_past s (record { base = start + 8 * tri j; rows = suc j }) i (omega (arith, up_to_false i j u))) ∙ yes _ _ _ t (no _ _ _ u refl)))
      (λ t. ap (λ c. held_at s c i) (column_none (less_false j n t)) ∙ sym (held_past s (record { base = start; rows = 0 }) i (omega arith)) ∙ no _ _ _ t refl)
    where
      place : j < n → up_to i j ≡ true → signed_word w64 s (start + 8 * tri j + 8 * i) ≡ entry (sums_at s start (tri n)) i j
      place l u =
          let e : start + 8 * tri j + 8 * i ≡ start + 8 * (tri j + i) = omega arith in
          let h : i ≤ j = up_to_true i j u in
          ap (signed_word w64 s) e ∙ sym (stands_at (signed_word w64 s) 8 (tri n) start (tri j + i) (pos 0) (omega (arith, tri_within j n l)))

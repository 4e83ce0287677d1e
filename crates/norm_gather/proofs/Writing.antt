-- Things laid over bytes one by one: what is left at each turn of a loop over rows, over columns, and over things that stand in bytes.
-- Assumes nothing.
use mathlib.Core.Path.{◌≡◌, refl, sym, ap, ◌∙◌}
use mathlib.Core.List.{List, [], ◌∷◌, ◌++◌, append_assoc}
use Prim.Native.Nat.{ℕ, suc, ◌+◌, ◌-◌, ◌*◌, ◌≤◌, ◌<◌}
use native.Mathlib.Numerals.{add-one}
use native.Mathlib.Omega.{arith}
use lib.IntN.{ℤ}
use lib.ListN.{length}
use Rattle.byte_words.specs.Words.{lay}
use Rattle.byte_words.specs.Stands.{stands}
use Rattle.byte_words.proofs.Words.{lay_append}
use Rattle.byte_words.proofs.Stands.{stands_done, stands_next}
use Rattle.byte_section.specs.Section.{encoded}
use Rattle.byte_section.proofs.Trips.{length_encoded}
use Rattle.norm_kinds.specs.Kinds.{sum_bytes}
use Rattle.norm_kinds.proofs.Records.{length_sum}
use Rattle.norm_labels.specs.Table.{rows_of, columns_of}
use Rattle.norm_labels.proofs.Tables.{length_rows}

encoded_append : {A : Type 0} (bytes : A → List ℕ) (l m : List A) → encoded bytes (l ++ m) ≡ encoded bytes l ++ encoded bytes m
unfolding encoded
encoded_append bytes [] m = refl
encoded_append bytes (a ∷ l) m = ap (λ t. bytes a ++ t) (encoded_append bytes l m) ∙ sym (append_assoc (bytes a) (encoded bytes l) (encoded bytes m))

-- ---- things of one size
module _ {A : Type 0} (bytes : A → List ℕ) (size : ℕ) (long : (a : A) → length (bytes a) ≡ size) (out : List ℕ) (at : ℕ) (f : ℕ → A) (n i : ℕ) where
  -- that a function gives
  pub rows_end : n ≤ i → lay out at (encoded bytes (rows_of f i (n - i))) ≡ out
  unfolding rows_of encoded lay
  rows_end h = let e : n - i ≡ 0 = omega arith in rw e

  pub rows_turn : i < n → lay out at (encoded bytes (rows_of f i (n - i))) ≡ lay (lay out at (bytes (f i))) (at + size) (encoded bytes (rows_of f (i + 1) (n - (i + 1))))
  unfolding rows_of encoded
  rows_turn h =
      let e : n - i ≡ suc (n - suc i) = omega arith in
      rw (e, add-one) (sym (lay_append _ _ _ _ _ (simp long)))

  -- that stand in other bytes from a place on
  pub stands_end : (step from : ℕ) → n ≤ i → lay out at (encoded bytes (stands f step (n - i) from)) ≡ out
  unfolding encoded lay
  stands_end step from h = ap (λ l. lay out at (encoded bytes l)) (stands_done f step n i from h)

  pub stands_turn : (step from : ℕ) → i < n
      → lay out at (encoded bytes (stands f step (n - i) from)) ≡ lay (lay out at (bytes (f from))) (at + size) (encoded bytes (stands f step (n - (i + 1)) (from + step)))
  unfolding encoded
  stands_turn step from h =
      ap (λ l. lay out at (encoded bytes l)) (stands_next f step n i from h)
      ∙ sym (lay_append out at (at + size) (bytes (f from)) (encoded bytes (stands f step (n - (i + 1)) (from + step))) (ap (λ m. at + m) (sym (long (f from)))))

-- ---- columns
module _ (out : List ℕ) (at : ℕ) (f : ℕ → ℕ → ℤ) (n j : ℕ) where
  pub columns_end : n ≤ j → lay out at (encoded sum_bytes (columns_of f j (n - j))) ≡ out
  unfolding columns_of encoded lay
  columns_end h = let e : n - j ≡ 0 = omega arith in rw e

  column_long : length (encoded sum_bytes (rows_of (λ i. f i j) 0 (j + 1))) ≡ 8 * (j + 1)
  column_long = length_encoded sum_bytes 8 length_sum (rows_of (λ i. f i j) 0 (j + 1)) ∙ omega (arith, length_rows (λ i. f i j) 0 (j + 1))

  pub columns_turn : j < n → lay out at (encoded sum_bytes (columns_of f j (n - j)))
      ≡ lay (lay out at (encoded sum_bytes (rows_of (λ i. f i j) 0 (j + 1)))) (at + 8 * (j + 1)) (encoded sum_bytes (columns_of f (j + 1) (n - (j + 1))))
  unfolding columns_of
  columns_turn h =
      let e : n - j ≡ suc (n - (j + 1)) = omega arith in
      rw (e, ← add-one)
      (ap (lay out at) (encoded_append sum_bytes (rows_of (λ i. f i j) 0 (j + 1)) (columns_of f (j + 1) (n - (j + 1))))
      ∙ sym (lay_append out at (at + 8 * (j + 1)) (encoded sum_bytes (rows_of (λ i. f i j) 0 (j + 1))) (encoded sum_bytes (columns_of f (j + 1) (n - (j + 1)))) (ap (λ m. at + m) (sym column_long))))

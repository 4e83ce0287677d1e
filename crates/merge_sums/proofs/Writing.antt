-- Sums laid over bytes one by one: what is left at each turn of a loop over rows and of one over columns.
-- Assumes nothing.
use mathlib.Core.Path.{◌≡◌, refl, sym, ap, ◌∙◌}
use mathlib.Core.List.{List, [], ◌∷◌, ◌++◌, append_assoc}
use Prim.Native.Nat.{ℕ, suc, ◌+◌, ◌-◌, ◌*◌, ◌≤◌, ◌<◌}
use native.Mathlib.Numerals.{add-one}
use native.Mathlib.Omega.{arith}
use lib.IntN.{ℤ}
use lib.ListN.{length}
use mir.Syntax.{w64}
use Rattle.byte_words.specs.Words.{lay, signed_bytes}
use Rattle.byte_words.proofs.Words.{length_bytes_of, lay_append}
use Rattle.byte_section.specs.Section.{encoded}
use Rattle.byte_section.proofs.Trips.{length_encoded}
use Rattle.norm_labels.specs.Table.{rows_of, columns_of}
use Rattle.norm_labels.proofs.Tables.{length_rows}

abbrev pub bytes_in : List ℤ → List ℕ
bytes_in l = encoded (signed_bytes w64) l

pub length_sum : (z : ℤ) → length (signed_bytes w64 z) ≡ 8
unfolding signed_bytes
length_sum z = length_bytes_of 8 _

encoded_append : {A : Type 0} (bytes : A → List ℕ) (l m : List A) → encoded bytes (l ++ m) ≡ encoded bytes l ++ encoded bytes m
unfolding encoded
encoded_append bytes [] m = refl
encoded_append bytes (a ∷ l) m = ap (λ t. bytes a ++ t) (encoded_append bytes l m) ∙ sym (append_assoc (bytes a) (encoded bytes l) (encoded bytes m))

-- a loop that writes things of one size, one after the other
module _ {A : Type 0} (bytes : A → List ℕ) (size : ℕ) (long : (a : A) → length (bytes a) ≡ size) (out : List ℕ) (at : ℕ) (f : ℕ → A) (n i : ℕ) where
  pub rows_end : n ≤ i → lay out at (encoded bytes (rows_of f i (n - i))) ≡ out
  unfolding rows_of encoded lay
  rows_end h = let e : n - i ≡ 0 = omega arith in rw e

  pub rows_turn : i < n → lay out at (encoded bytes (rows_of f i (n - i))) ≡ lay (lay out at (bytes (f i))) (at + size) (encoded bytes (rows_of f (i + 1) (n - (i + 1))))
  unfolding rows_of encoded
  rows_turn h =
      let e : n - i ≡ suc (n - suc i) = omega arith in
      rw (e, add-one) (sym (lay_append _ _ _ _ _ (simp long)))

module _ (out : List ℕ) (at : ℕ) where
  module _ (f : ℕ → ℕ → ℤ) (n j : ℕ) where
    pub columns_end : n ≤ j → lay out at (bytes_in (columns_of f j (n - j))) ≡ out
    unfolding columns_of encoded lay
    columns_end h = let e : n - j ≡ 0 = omega arith in rw e

    long : length (bytes_in (rows_of (λ i. f i j) 0 (j + 1))) ≡ 8 * (j + 1)
    long = length_encoded (signed_bytes w64) 8 length_sum (rows_of (λ i. f i j) 0 (j + 1)) ∙ omega (arith, length_rows (λ i. f i j) 0 (j + 1))

    pub columns_turn : j < n → lay out at (bytes_in (columns_of f j (n - j)))
        ≡ lay (lay out at (bytes_in (rows_of (λ i. f i j) 0 (j + 1)))) (at + 8 * (j + 1)) (bytes_in (columns_of f (j + 1) (n - (j + 1))))
    unfolding columns_of
    columns_turn h =
        let e : n - j ≡ suc (n - (j + 1)) = omega arith in
        rw (e, ← add-one)
        (ap (lay out at) (encoded_append (signed_bytes w64) (rows_of (λ i. f i j) 0 (j + 1)) (columns_of f (j + 1) (n - (j + 1))))
        ∙ sym (lay_append out at (at + 8 * (j + 1)) (bytes_in (rows_of (λ i. f i j) 0 (j + 1))) (bytes_in (columns_of f (j + 1) (n - (j + 1)))) (ap (λ m. at + m) (sym long))))

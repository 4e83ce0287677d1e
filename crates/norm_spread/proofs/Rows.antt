-- What is left of the loops that put sums into room, and how many labels have their sums stored before one.
-- Assumes nothing.
use Prim.Native.Nat.{ℕ, zero, suc, ◌+◌, ◌-◌, ◌*◌, ◌≤◌, ◌<◌}
use mathlib.Core.Path.{◌≡◌, refl, sym, ap, ap₂, ◌∙◌}
use mathlib.Core.List.{List, [], ◌∷◌, ◌++◌}
use native.Mathlib.Omega.{arith}
use native.Mathlib.Nat.{add-zero, add-suc, suc-add, sub-zero}
use native.Mathlib.Numerals.{add-one}
use lib.IntN.{ℤ, pos}
use lib.ListN.{length, set}
use lib.Seq.{sets}
use mir.Syntax.{w64}
use Rattle.num_whole.specs.Tests.{same, pick}
use Rattle.num_whole.proofs.Cases.{yes, no, is_same, not_same, by_cases}
use Rattle.byte_words.specs.Words.{word, signed_word}
use Rattle.byte_words.specs.Stands.{stands}
use Rattle.num_packed.specs.Triangle.{tri}
use Rattle.norm_labels.specs.Table.{rows_of, columns_of}
use Rattle.norm_labels.proofs.Tables.{length_rows, rows_alike}
use Rattle.norm_kinds.specs.Kinds.{Fielded, fielded_at, stored_of}
use Rattle.norm_kinds.proofs.Stored.{stored_on, stored_off}
use Rattle.norm_spread.specs.Spread.{stored_before, unless_two, field_at, spread_row_at, spread_column_at}

-- ---- n values from place k on, i of them done
pub rows_start : (f : ℕ → ℤ) (l : List ℤ) (n k : ℕ) → sets l k (rows_of f 0 n) ≡ sets l (k + 0) (rows_of f 0 (n - 0))
rows_start f l n k = ap₂ (λ a b. sets l a (rows_of f 0 b)) (sym (add-zero k)) (sym (sub-zero n))

module _ (f : ℕ → ℤ) (l : List ℤ) (n i k : ℕ) where
  pub rows_end : n ≤ i → sets l k (rows_of f i (n - i)) ≡ l
  unfolding rows_of
  rows_end e = let z : n - i ≡ zero = omega arith in rw z

  pub rows_turn : i < n → sets l (k + i) (rows_of f i (n - i)) ≡ sets (set l (k + i) (f i)) (k + (i + 1)) (rows_of f (i + 1) (n - (i + 1)))
  unfolding rows_of
  rows_turn more =
      let one : n - i ≡ suc (n - (i + 1)) = omega arith in
      let next : suc (k + i) ≡ k + (i + 1) = omega arith in
      ap (λ m. sets l (k + i) (rows_of f i m)) one
      ∙ ap₂ (λ u v. sets (set l (k + i) (f i)) u (rows_of f v (n - (i + 1)))) next (sym (add-one i))

-- ---- columns from the jth on: the first of m, then the others
sets_append : (xs ys s : List ℤ) (i : ℕ) → sets (sets s i xs) (i + length xs) ys ≡ sets s i (xs ++ ys)
sets_append [] ys s i = rw add-zero
sets_append (a ∷ xs) ys s i = rw (add-suc i (length xs), ← suc-add i (length xs)) (sets_append xs ys (set s i a) (suc i))

module _ (f : ℕ → ℕ → ℤ) (l : List ℤ) (p j k : ℕ) where
  pub columns_done : p ≤ j → sets l k (columns_of f j (p - j)) ≡ l
  unfolding columns_of
  columns_done e = let z : p - j ≡ zero = omega arith in rw z

  pub columns_turn : j < p → sets l k (columns_of f j (p - j)) ≡ sets (sets l k (rows_of (λ i. f i j) 0 (j + 1))) (k + (j + 1)) (columns_of f (j + 1) (p - (j + 1)))
  unfolding columns_of
  columns_turn more =
      let one : p - j ≡ suc (p - (j + 1)) = omega arith in
      let next : suc j ≡ j + 1 = omega arith in
      let long : length (rows_of (λ i. f i j) 0 (j + 1)) ≡ j + 1 = length_rows (λ i. f i j) 0 (j + 1) in
      ap (λ m. sets l k (columns_of f j m)) one
      ∙ sym (sets_append (rows_of (λ i. f i j) 0 (suc j)) (columns_of f (suc j) (p - (j + 1))) l k)
      ∙ ap (λ q. sets (sets l k (rows_of (λ i. f i j) 0 q)) (k + length (rows_of (λ i. f i j) 0 q)) (columns_of f q (p - (j + 1)))) next
      ∙ ap (λ q. sets (sets l k (rows_of (λ i. f i j) 0 (j + 1))) (k + q) (columns_of f (j + 1) (p - (j + 1)))) long

-- ---- one label more
unfoldable one_of : List ℕ → ℕ → ℕ
one_of s at = pick (same (word 4 s (at + 12)) 2) 0 1

stored_one : (m : Fielded) (l : List Fielded) → length (stored_of (m ∷ l)) ≡ pick (same m.field 2) 0 1 + length (stored_of l)
stored_one m l =
    by_cases (same m.field 2)
    (λ e. let a : length (stored_of (m ∷ l)) ≡ length (stored_of l) = ap length (stored_off m l e) in
    let b : ◌≡◌ {A = ℕ} 0 (pick (same m.field 2) 0 1) = yes _ _ _ e refl in
    omega (arith, a, b))
    (λ e. let a : length (stored_of (m ∷ l)) ≡ suc (length (stored_of l)) = ap length (stored_on m l e) in
    let b : ◌≡◌ {A = ℕ} 1 (pick (same m.field 2) 0 1) = no _ _ _ e refl in
    omega (arith, a, b))

before_first : (s : List ℕ) (labels i : ℕ) → stored_before s labels (suc i) ≡ one_of s labels + stored_before s (labels + 24) i
unfolding stored_before stands fielded_at one_of
before_first s labels i = stored_one (fielded_at s labels) (stands (fielded_at s) 24 i (labels + 24))

before_none : (s : List ℕ) (labels : ℕ) → stored_before s labels 0 ≡ 0
unfolding stored_before stands stored_of
before_none s labels = refl

before_suc : (s : List ℕ) (labels i : ℕ) → stored_before s labels (suc i) ≡ stored_before s labels i + one_of s (labels + 24 * i)
before_suc s labels zero =
    let a = before_first s labels 0 in
    let b = before_none s (labels + 24) in
    let c = before_none s labels in
    let here : labels ≡ labels + 24 * 0 = omega arith in
    let d : one_of s labels ≡ one_of s (labels + 24 * 0) = ap (one_of s) here in
    omega (arith, a, b, c, d)
before_suc s labels (suc i) =
    let a = before_first s labels (suc i) in
    let b = before_suc s (labels + 24) i in
    let c = before_first s labels i in
    let here : labels + 24 + 24 * i ≡ labels + 24 * suc i = omega arith in
    let d : one_of s (labels + 24 + 24 * i) ≡ one_of s (labels + 24 * suc i) = ap (one_of s) here in
    omega (arith, a, b, c, d)

module _ (s : List ℕ) (labels i : ℕ) where
  pub before_next : stored_before s labels (i + 1) ≡ stored_before s labels i + pick (same (field_at s labels i) 2) 0 1
  unfolding one_of
  before_next = ap (stored_before s labels) (add-one i) ∙ before_suc s labels i

  pub before_start : stored_before s labels 0 ≡ 0
  before_start = before_none s labels

-- ---- a whole column, by the field of its label
module _ (f : ℕ → ℤ) (l : List ℤ) (k n field : ℕ) where
  pub zeros_are : field ≡ 2 → sets l k (rows_of (λ i. pos 0) 0 n) ≡ sets l k (rows_of (λ i. unless_two field (f i)) 0 n)
  unfolding unless_two
  zeros_are e = ap (sets l k) (rows_alike (λ i. pos 0) (λ i. unless_two field (f i)) n 0 (λ i h. yes _ _ _ (is_same field 2 e) refl))

  pub sums_are : (field ≡ 2 → ⊥) → sets l k (rows_of f 0 n) ≡ sets l k (rows_of (λ i. unless_two field (f i)) 0 n)
  unfolding unless_two
  sums_are e = ap (sets l k) (rows_alike f (λ i. unless_two field (f i)) n 0 (λ i h. no _ _ _ (not_same field 2 e) refl))

pub column_is : (s : List ℕ) (labels start j first field : ℕ) (l : List ℤ) (k : ℕ) → field ≡ word 4 s (labels + 24 * j + 12) → first ≡ start + 8 * tri (stored_before s labels j)
    → sets l k (rows_of (λ i. unless_two field (spread_row_at s labels first i)) 0 (j + 1)) ≡ sets l k (rows_of (λ i. spread_column_at s labels start i j) 0 (j + 1))
unfolding spread_column_at
column_is s labels start j first field l k f a = ap₂ (λ n q. sets l k (rows_of (λ i. unless_two n (spread_row_at s labels q i)) 0 (j + 1))) f a

-- ---- what the code reads is the label's value
pub row_is : (s : List ℕ) (labels start i at label field : ℕ) → field ≡ word 4 s (label + 12) → label ≡ labels + 24 * i → at ≡ start + 8 * stored_before s labels i
    → unless_two field (signed_word w64 s at) ≡ spread_row_at s labels start i
unfolding spread_row_at
row_is s labels start i at label field f l a =
    ap₂ (λ n q. unless_two n (signed_word w64 s q)) (f ∙ ap (λ q. word 4 s (q + 12)) l) a

pub one_more : (s : List ℕ) (labels i n field label : ℕ) → field ≡ word 4 s (label + 12) → label ≡ labels + 24 * i → n ≡ pick (same field 2) 0 1
    → stored_before s labels (i + 1) ≡ stored_before s labels i + n
one_more s labels i n field label f l e =
    before_next s labels i ∙ ap (λ q. stored_before s labels i + pick (same q 2) 0 1) (sym (f ∙ ap (λ q. word 4 s (q + 12)) l)) ∙ ap (λ q. stored_before s labels i + q) (sym e)

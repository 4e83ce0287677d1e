-- The marks of one parameter: a station's mark is set and kept, the others' are untouched; marks of two stations set in any order are the same;
-- no mark is the word 0; and the count is the number of the stations that have one.
-- Assumes nothing.
use Prim.Native.Nat.{ℕ, zero, suc, ◌+◌, ◌-◌, ◌/◌, ◌%◌, ◌^◌, ◌≤◌, ◌<◌, max}
use mathlib.Core.Path.{◌≡◌, refl, sym, ap, ap₂, ◌∙◌, subst}
use mathlib.Core.Bool.{Bool, true, false}
use native.Mathlib.Omega.{arith}
use native.Mathlib.Nat.{pow-suc, max-zero, div-one, div-div-eq-div-mul}
use native.Mathlib.Numerals.{add-one}
use lib.Pow.{pow-lt}
use lib.Bits.{or_lt}
use lib.Count.{ones, ones_in, ones_step}
use Rattle.num_whole.specs.Tests.{same, pick}
use Rattle.num_whole.proofs.Cases.{yes, no, is_same, not_same, same_true, same_false, by_cases, apart}
use Rattle.take_marks.specs.Marks.{digit, has_mark, with_mark, mark_count, one_if, rows_from}
use Rattle.take_marks.proofs.Digits.{digit_small, digit_join, digit_power, digit_others, digit_first, digit_half, same_digits}

-- ---- digits with a mark more
digit_set : (w k : ℕ) → digit (with_mark w k) k ≡ 1
unfolding with_mark
digit_set w k = digit_join w (2 ^ k) k ∙ ap (max (digit w k)) (digit_power k) ∙ one_of (digit w k) (digit_small w k)
  where
    one_of : (x : ℕ) → x < 2 → max x 1 ≡ 1
    one_of zero h = refl
    one_of (suc zero) h = refl
    one_of (suc (suc x)) h = absurd (omega arith)

digit_kept : (w k j : ℕ) → (j ≡ k → ⊥) → digit (with_mark w k) j ≡ digit w j
unfolding with_mark
digit_kept w k j h = digit_join w (2 ^ k) j ∙ ap (max (digit w j)) (digit_others k j h) ∙ max-zero (digit w j)

-- ---- a station's mark, and the others'
pub mark_set : (w k : ℕ) → has_mark (with_mark w k) k ≡ true
unfolding has_mark
mark_set w k = is_same _ _ (digit_set w k)

pub mark_kept : (w k j : ℕ) → (j ≡ k → ⊥) → has_mark (with_mark w k) j ≡ has_mark w j
unfolding has_mark
mark_kept w k j h = ap (λ d. same d 1) (digit_kept w k j h)

-- a word of n stations stays one
pub mark_small : (n w k : ℕ) → w < 2 ^ n → k < n → with_mark w k < 2 ^ n
unfolding with_mark
mark_small n w k h l = or_lt n w (2 ^ k) h (pow-lt l)

-- ---- two marks, in any order
below_power : (n : ℕ) → n < 2 ^ n
below_power zero = omega arith
below_power (suc n) = omega (arith, pow-suc 2 n, below_power n)

module _ (w j k : ℕ) where
  many : ℕ
  many = w + j + k + 1

  wide : w < 2 ^ many
  unfolding many
  wide = omega (arith, below_power (w + j + k + 1))

  both_digits : (i : ℕ) → digit (with_mark (with_mark w j) k) i ≡ digit (with_mark (with_mark w k) j) i
  both_digits i =
      by_cases (same i k)
      (λ t. let e = same_true _ _ t in
      subst (λ n. digit (with_mark (with_mark w j) k) n ≡ digit (with_mark (with_mark w k) j) n) (sym e)
      (digit_set (with_mark w j) k ∙ by_cases (same k j)
      (λ u. sym (subst (λ n. digit (with_mark (with_mark w k) j) n ≡ 1) (sym (same_true _ _ u)) (digit_set (with_mark w k) j)))
      (λ u. sym (digit_kept (with_mark w k) j k (same_false _ _ u) ∙ digit_set w k))))
      (λ t. digit_kept (with_mark w j) k i (same_false _ _ t) ∙ by_cases (same i j)
      (λ u. subst (λ n. digit (with_mark w j) n ≡ digit (with_mark (with_mark w k) j) n) (sym (same_true _ _ u)) (digit_set w j ∙ sym (digit_set (with_mark w k) j)))
      (λ u. digit_kept w j i (same_false _ _ u) ∙ sym (digit_kept (with_mark w k) j i (same_false _ _ u) ∙ digit_kept w k i (same_false _ _ t))))

  pub marks_swap : with_mark (with_mark w j) k ≡ with_mark (with_mark w k) j
  unfolding many
  marks_swap =
      same_digits many _ _ (mark_small many (with_mark w j) k (mark_small many w j wide (omega arith)) (omega arith))
      (mark_small many (with_mark w k) j (mark_small many w k wide (omega arith)) (omega arith)) (λ i l. both_digits i)

-- ---- no mark
pub zero_marks : (k : ℕ) → has_mark 0 k ≡ false
unfolding has_mark
zero_marks k = not_same _ _ (λ e. omega (arith, zero_digit k, e))
  where
    zero_digit : (j : ℕ) → digit 0 j ≡ 0
    zero_digit zero = digit_first 0
    zero_digit (suc j) = sym (digit_half 0 j) ∙ zero_digit j

pub marked_some : (w k : ℕ) → with_mark w k ≡ 0 → ⊥
marked_some w k e = apart (sym (mark_set w k) ∙ ap (λ n. has_mark n k) e ∙ zero_marks k)

pub digit_none : (w k : ℕ) → has_mark w k ≡ false → digit w k ≡ 0
unfolding has_mark
digit_none w k e = let d = digit_small w k in let n = same_false _ _ e in not_one (digit w k) d n
  where
    not_one : (x : ℕ) → x < 2 → (x ≡ 1 → ⊥) → x ≡ 0
    not_one zero h n = refl
    not_one (suc zero) h n = absurd (n refl)
    not_one (suc (suc x)) h n = absurd (omega arith)

pub none_marked : (n w : ℕ) → w < 2 ^ n → ((k : ℕ) → k < n → has_mark w k ≡ false) → w ≡ 0
none_marked n w small h =
    same_digits n w 0 small (omega (arith, below_power n)) (λ k l. digit_none w k (h k l) ∙ sym (digit_none 0 k (zero_marks k)))

-- ---- how many stations have a mark
pub digit_one : (w k : ℕ) → has_mark w k ≡ true → digit w k ≡ 1
unfolding has_mark
digit_one w k e = same_true _ _ e

one_digit : (w k : ℕ) → one_if (has_mark w k) ≡ digit w k
one_digit w k =
    by_cases (has_mark w k)
    (λ e. sym (yes _ 1 0 e refl) ∙ sym (digit_one w k e))
    (λ e. sym (no _ 1 0 e refl) ∙ sym (digit_none w k e))

one_digit_is : (w k : ℕ) → one_if (has_mark w k) ≡ w / 2 ^ k % 2
unfolding digit
one_digit_is w k = one_digit w k

no_ones : ones 0 ≡ 0
unfolding ones ones_in
no_ones = refl

count_from : (n w k : ℕ) → w / 2 ^ k < 2 ^ n → ones (w / 2 ^ k) ≡ rows_from (has_mark w) k n
unfolding rows_from
count_from zero w k h = ap ones (none (w / 2 ^ k) h) ∙ no_ones
  where
    none : (x : ℕ) → x < 1 → x ≡ 0
    none x l = omega arith
count_from (suc n) w k h =
    let next : w / 2 ^ k / 2 ≡ w / 2 ^ (k + 1) = div-div-eq-div-mul w (2 ^ k) 2 ∙ ap (λ m. w / m) (sym (pow-suc 2 k) ∙ ap (λ m. 2 ^ m) (sym (add-one k))) in
    let small : w / 2 ^ (k + 1) < 2 ^ n = subst (λ m. m < 2 ^ n) next (omega (arith, h, pow-suc 2 n)) in
    ones_step (w / 2 ^ k) ∙ ap₂ (λ x y. x + y) (sym (one_digit_is w k)) (ap ones next ∙ count_from n w (k + 1) small)

-- a word of n stations has as many ones as stations with a mark
pub count_so : (n w : ℕ) → w < 2 ^ n → mark_count w ≡ rows_from (has_mark w) 0 n
unfolding mark_count
count_so n w h =
    let whole : w / 2 ^ 0 ≡ w = div-one w in
    sym (ap ones whole) ∙ count_from n w 0 (subst (λ m. m < 2 ^ n) (sym whole) h)

-- two tests that agree on the rows find as many
pub rows_ext : (t u : ℕ → Bool) (k n : ℕ) → ((j : ℕ) → j < k + n → t j ≡ u j) → rows_from t k n ≡ rows_from u k n
unfolding rows_from
rows_ext t u k zero h = refl
rows_ext t u k (suc n) h = ap₂ (λ b x. one_if b + x) (h k (omega arith)) (rows_ext t u (k + 1) n (λ j l. h j (omega (arith, l))))

-- where no row is found, each row fails the test
none_of : (b : Bool) → one_if b ≡ 0 → b ≡ false
unfolding pick
none_of true e = absurd (omega (arith, e))
none_of false e = refl

rows_none : (t : ℕ → Bool) (k n : ℕ) → rows_from t k n ≡ 0 → (j : ℕ) → k ≤ j → j < k + n → t j ≡ false
unfolding rows_from
rows_none t k zero e j a b = absurd (omega (arith, a, b))
rows_none t k (suc n) e j a b =
    by_cases (same j k)
    (λ c. ap t (same_true _ _ c) ∙ none_of (t k) (omega (arith, e)))
    (λ c. let more : k + 1 ≤ j = omega (arith, a, same_false _ _ c) in rows_none t (k + 1) n (omega (arith, e)) j more (omega (arith, b)))

-- the count is 0 exactly where there is no mark
pub count_none : (w : ℕ) → mark_count w ≡ 0 → w ≡ 0
count_none w e =
    none_marked w w (below_power w) (λ k l. rows_none (has_mark w) 0 w (sym (count_so w w (below_power w)) ∙ e) k (omega arith) (omega (arith, l)))

pub none_count : (w : ℕ) → w ≡ 0 → mark_count w ≡ 0
unfolding mark_count
none_count w e = ap ones e ∙ no_ones

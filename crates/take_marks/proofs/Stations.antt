-- Marks of stations that have records: judged at once by a word of those stations, and judged one by one, it is the same.
-- Assumes nothing.
use Prim.Native.Nat.{ℕ, zero, suc, ◌^◌, ◌≤◌, ◌<◌, min}
use mathlib.Core.Path.{◌≡◌, refl, sym, ap, ◌∙◌, subst}
use mathlib.Core.Bool.{Bool, true, false, not}
use mathlib.Core.List.{List}
use native.Mathlib.Omega.{arith}
use native.Mathlib.Nat.{eq-or-lt_of_le, le_of_suc-le-suc, not-suc-le-zero, min-zero, zero-min}
use lib.Pow.{pow_pos}
use mathlib.Core.Logic.{⊎_elim}
use lib.Bits.{bit_and, and_lt}
use lib.ListN.{get_or}
use Rattle.num_limits.specs.Capacities.{stations_most}
use Rattle.num_whole.specs.Tests.{less, same, either, below}
use Rattle.num_whole.proofs.Cases.{apart, yes, no, by_cases, at_once, at_last, is_same, same_true}
use Rattle.num_whole.proofs.Tables.{below_at, below_every}
use Rattle.take_marks.specs.Marks.{digit, has_mark, with_mark, marks_heard}
use Rattle.take_marks.specs.Parts.{heard_word, among_marks}
use Rattle.take_marks.proofs.Digits.{digit_meet, same_digits}
use Rattle.take_marks.proofs.Marks.{mark_set, mark_kept, mark_small, zero_marks, digit_one, digit_none}

one_not : ◌≡◌ {A = ℕ} 1 0 → ⊥
one_not z = omega arith

last_of : (a b : Bool) → a ≡ false → either a b ≡ true → b ≡ true
last_of a b p q = at_last a b p refl ∙ q

module _ (counts : List ℕ) where
  abbrev count : ℕ → Bool
  count k = less 0 (get_or counts k 0)

  -- ---- the word of the stations that have records
  pub word_none : heard_word counts 0 ≡ 0
  unfolding heard_word
  word_none = refl

  pub word_more : (k : ℕ) → count k ≡ true → heard_word counts (suc k) ≡ with_mark (heard_word counts k) k
  unfolding heard_word
  word_more k e = sym (yes _ _ _ e refl)

  pub word_same : (k : ℕ) → count k ≡ false → heard_word counts (suc k) ≡ heard_word counts k
  unfolding heard_word
  word_same k e = sym (no _ _ _ e refl)

  pub word_small : (n k : ℕ) → k ≤ n → heard_word counts k < 2 ^ n
  word_small n zero h = subst (λ w. w < 2 ^ n) (sym word_none) (positive n)
    where
      positive : (m : ℕ) → 0 < 2 ^ m
      positive m = pow_pos m
  word_small n (suc k) h =
      by_cases (count k)
      (λ e. subst (λ w. w < 2 ^ n) (sym (word_more k e)) (mark_small n (heard_word counts k) k (word_small n k (omega arith)) (omega arith)))
      (λ e. subst (λ w. w < 2 ^ n) (sym (word_same k e)) (word_small n k (omega arith)))

  -- a row below n has its mark where it has records, and no other row has one
  past : (n k : ℕ) → n ≤ k → has_mark (heard_word counts n) k ≡ false
  past zero k h = ap (λ w. has_mark w k) word_none ∙ zero_marks k
  past (suc n) k h =
      by_cases (count n)
      (λ e. ap (λ w. has_mark w k) (word_more n e) ∙ mark_kept (heard_word counts n) n k (λ q. omega arith) ∙ past n k (omega arith))
      (λ e. ap (λ w. has_mark w k) (word_same n e) ∙ past n k (omega arith))

  pub word_marks : (n k : ℕ) → k < n → has_mark (heard_word counts n) k ≡ count k
  word_marks zero k h = absurd (not-suc-le-zero h)
  word_marks (suc n) k h =
      ⊎_elim
      (λ q. here (sym q))
      (λ l. by_cases (count n)
      (λ e. ap (λ w. has_mark w k) (word_more n e) ∙ mark_kept (heard_word counts n) n k (λ q. omega (arith, l, q)) ∙ word_marks n k l)
      (λ e. ap (λ w. has_mark w k) (word_same n e) ∙ word_marks n k l))
      (eq-or-lt_of_le (le_of_suc-le-suc h))
    where
      here : n ≡ k → has_mark (heard_word counts (suc n)) k ≡ count k
      here q =
          subst (λ m. has_mark (heard_word counts (suc n)) m ≡ count m) q
          (by_cases (count n)
          (λ e. ap (λ w. has_mark w n) (word_more n e) ∙ mark_set (heard_word counts n) n ∙ sym e)
          (λ e. ap (λ w. has_mark w n) (word_same n e) ∙ past n n (omega arith) ∙ sym e))

  -- ---- marks judged at once
  module _ (word : ℕ) (small : word < 2 ^ 16) where
    abbrev all : ℕ
    all = heard_word counts stations_most

    -- each mark by itself, from the word of all, and the other way
    one_by_one : bit_and word all ≡ word → (k : ℕ) → k < 16 → either (not (has_mark word k)) (count k) ≡ true
    one_by_one e k h =
        by_cases (has_mark word k)
        (λ t. sym (at_last _ _ (ap not t) (sym (sym (word_marks 16 k h) ∙ there t))))
        (λ t. sym (at_once _ _ (ap not t)))
      where
        there : has_mark word k ≡ true → has_mark all k ≡ true
        there t =
            by_cases (has_mark all k) (λ u. u)
            (λ u. absurd (one_not (sym (digit_one word k t) ∙ ap (λ w. digit w k) (sym e) ∙ digit_meet word all k ∙ ap (min (digit word k)) (digit_none all k u) ∙ min-zero (digit word k))))

    at_once_all : ((k : ℕ) → k < 16 → either (not (has_mark word k)) (count k) ≡ true) → bit_and word all ≡ word
    at_once_all h =
        same_digits 16 (bit_and word all) word (and_lt 16 word all small (word_small 16 16 (omega arith))) small
        (λ k l. digit_meet word all k ∙ by_cases (has_mark word k)
        (λ t. ap (λ d. min d (digit all k)) (digit_one word k t) ∙ ap (min 1) (digit_one all k (word_marks 16 k l ∙ counted k l t)) ∙ sym (digit_one word k t))
        (λ t. ap (λ d. min d (digit all k)) (digit_none word k t) ∙ zero-min (digit all k) ∙ sym (digit_none word k t)))
      where
        counted : (k : ℕ) → k < 16 → has_mark word k ≡ true → count k ≡ true
        counted k l t = last_of (not (has_mark word k)) (count k) (ap not t) (h k l)

    pub heard_so : among_marks word all ≡ marks_heard counts word
    unfolding among_marks marks_heard
    heard_so =
        by_cases (same (bit_and word all) word)
        (λ t. t ∙ sym (below_every _ 16 (one_by_one (same_true _ _ t))))
        (λ t. by_cases (below (λ k. either (not (has_mark word k)) (count k)) 16)
        (λ u. absurd (apart (sym (is_same _ _ (at_once_all (below_at _ 16 u))) ∙ t)))
        (λ u. t ∙ sym u))

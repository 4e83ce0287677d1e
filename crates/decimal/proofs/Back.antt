-- The digits of a number: it is read back from them, each byte is a digit, there are one to twenty, and the first is 0 only in '0'.
-- Assumes nothing.
use Prim.Native.Nat.{ℕ, zero, suc, ◌+◌, ◌-◌, ◌*◌, ◌/◌, ◌%◌, ◌^◌, ◌≤◌, ◌<◌}
use mathlib.Core.Path.{◌≡◌, refl, sym, ap, ap₂, ◌∙◌, subst}
use mathlib.Core.Bool.{Bool, true, false}
use mathlib.Core.List.{List, [], ◌∷◌}
use native.Mathlib.Nat.{pow-suc, pow-zero, not-suc-le-zero}
use native.Mathlib.Omega.{arith}
use borrow.Author.Tests.{ltb-true}
use lib.IntN.{ℤ, pos, negsuc, nat_abs}
use lib.Signed.{lt_z}
use lib.ListN.{length, get_or, set, drop, drop_of_length-le}
use lib.Seq.{drop-cons, get_or-set_same, drop-set-lt, lt-length-set}
use Rattle.num_whole.specs.Tests.{less, pick, between}
use Rattle.num_whole.specs.Lists.{all}
use Rattle.num_whole.proofs.Cases.{apart, by_cases, less_true, less_false, is_less, not_less, is_between, holds}
use Rattle.decimal.specs.Decimal.{digits_of, decimal, signed_decimal, number_behind}

-- ---- one digit, and more than one
module _ (k n : ℕ) (rest : List ℕ) where
  pub digits_last : n < 10 → digits_of (suc k) n rest ≡ (48 + n) ∷ rest
  unfolding digits_of pick
  digits_last h = rw (is_less n 10 h)

  pub digits_more : 10 ≤ n → digits_of (suc k) n rest ≡ digits_of k (n / 10) ((48 + n % 10) ∷ rest)
  unfolding digits_of pick
  digits_more h = rw (not_less n 10 h)

-- what holds of one digit before the rest, and of more, holds
digits_cases : (P : List ℕ → Type 0) (k n : ℕ) (rest : List ℕ)
    → (n < 10 → P ((48 + n) ∷ rest)) → (10 ≤ n → P (digits_of k (n / 10) ((48 + n % 10) ∷ rest))) → P (digits_of (suc k) n rest)
digits_cases P k n rest one more =
    by_cases (less n 10)
    (λ t. subst P (sym (digits_last k n rest (less_true n 10 t))) (one (less_true n 10 t)))
    (λ t. subst P (sym (digits_more k n rest (less_false n 10 t))) (more (less_false n 10 t)))

-- ---- the number is read back
behind : (k n : ℕ) (rest : List ℕ) → n < 10 ^ k → number_behind 0 (digits_of k n rest) ≡ number_behind n rest
unfolding digits_of number_behind
behind zero n rest h = let z : n ≡ 0 = omega (arith, pow-zero 10) in rw z
behind (suc k) n rest h =
    digits_cases (λ l. number_behind 0 l ≡ number_behind n rest) k n rest
    (λ t. let e : 0 * 10 + (48 + n - 48) ≡ n = omega arith in ap (λ x. number_behind x rest) e)
    (λ t. let e : n / 10 * 10 + (48 + n % 10 - 48) ≡ n = omega arith in
    behind k (n / 10) ((48 + n % 10) ∷ rest) (omega (arith, pow-suc 10 k)) ∙ ap (λ x. number_behind x rest) e)

pub decimal_back : (n : ℕ) → n < 10 ^ 20 → number_behind 0 (decimal n) ≡ n
unfolding decimal number_behind
decimal_back n h = behind 20 n [] h

-- ---- each byte is a digit
abbrev is_digit : ℕ → Bool
is_digit b = between 48 b 57

all_digits : (k n : ℕ) (rest : List ℕ) → all is_digit rest ≡ true → all is_digit (digits_of k n rest) ≡ true
unfolding digits_of all
all_digits zero n rest h = h
all_digits (suc k) n rest h =
    digits_cases (λ l. all is_digit l ≡ true) k n rest
    (λ t. sym (holds _ _ (is_between 48 (48 + n) 57 (omega arith) (omega arith)) (sym h)))
    (λ t. all_digits k (n / 10) ((48 + n % 10) ∷ rest)
    (sym (holds _ _ (is_between 48 (48 + n % 10) 57 (omega arith) (omega arith)) (sym h))))

pub decimal_digits : (n : ℕ) → all is_digit (decimal n) ≡ true
unfolding decimal all
decimal_digits n = all_digits 20 n [] refl

-- ---- one to twenty of them
digits_many : (k n : ℕ) (rest : List ℕ) → length (digits_of k n rest) ≤ k + length rest
unfolding digits_of
digits_many zero n rest = omega arith
digits_many (suc k) n rest =
    digits_cases (λ l. length l ≤ suc k + length rest) k n rest
    (λ t. omega arith)
    (λ t. omega (arith, digits_many k (n / 10) ((48 + n % 10) ∷ rest)))

digits_some : (k n : ℕ) (rest : List ℕ) → 1 ≤ length rest → 1 ≤ length (digits_of k n rest)
unfolding digits_of
digits_some zero n rest h = h
digits_some (suc k) n rest h =
    digits_cases (λ l. 1 ≤ length l) k n rest (λ t. omega arith) (λ t. digits_some k (n / 10) ((48 + n % 10) ∷ rest) (omega arith))

pub decimal_length : (n : ℕ) → (1 ≤ length (decimal n)) × (length (decimal n) ≤ 20)
unfolding decimal
decimal_length n = (
  digits_cases (λ l. 1 ≤ length l) 19 n [] (λ t. omega arith) (λ t. digits_some 19 (n / 10) ((48 + n % 10) ∷ []) (omega arith)),
  digits_many 20 n [],
)

pub signed_length : (z : ℤ) → length (signed_decimal z) ≤ 21
unfolding signed_decimal
signed_length (pos n) = omega (arith, (decimal_length n).1)
signed_length (negsuc n) = omega (arith, (decimal_length (suc n)).1)

-- a minus before the size, where the number is below 0
pub signed_below : (z : ℤ) → lt_z z (pos 0) ≡ true → 45 ∷ decimal (nat_abs z) ≡ signed_decimal z
unfolding signed_decimal
signed_below (pos n) e = absurd (not-suc-le-zero (ltb-true n 0 e))
signed_below (negsuc n) e = refl

pub signed_above : (z : ℤ) → lt_z z (pos 0) ≡ false → decimal (nat_abs z) ≡ signed_decimal z
unfolding signed_decimal
signed_above (pos n) e = refl
signed_above (negsuc n) e = absurd (apart e)

-- ---- no leading zero
digits_first : (k n : ℕ) (rest : List ℕ) → 0 < n → n < 10 ^ k → 48 < get_or (digits_of k n rest) 0 0
unfolding digits_of
digits_first zero n rest p h = absurd (omega (arith, pow-zero 10))
digits_first (suc k) n rest p h =
    digits_cases (λ l. 48 < get_or l 0 0) k n rest
    (λ t. omega arith)
    (λ t. digits_first k (n / 10) ((48 + n % 10) ∷ rest) (omega arith) (omega (arith, pow-suc 10 k)))

pub decimal_first : (n : ℕ) → 0 < n → n < 10 ^ 20 → 48 < get_or (decimal n) 0 0
unfolding decimal
decimal_first n p h = digits_first 20 n [] p h

-- ---- the loop that writes them from the last to the first: i places are left, and x before the digits that stand there
drop_set_here : (l : List ℕ) (i v : ℕ) → 0 < i → i ≤ length l → drop (i - 1) (set l (i - 1) v) ≡ v ∷ drop i l
drop_set_here l i v p h =
    let one : suc (i - 1) ≡ i = omega arith in
    drop-cons (set l (i - 1) v) (i - 1) 0 (lt-length-set l (i - 1) v (omega arith))
    ∙ ap₂ (λ a b. a ∷ b) (get_or-set_same l (i - 1) v 0 (omega arith)) (drop-set-lt (suc (i - 1)) l (i - 1) v (omega arith) ∙ ap (λ k. drop k l) one)

pub write_start : (n : ℕ) (l : List ℕ) → length l ≡ 20 → digits_of 20 n (drop 20 l) ≡ decimal n
unfolding decimal
write_start n l e = let h : length l ≤ 20 = omega arith in rw (drop_of_length-le l h)

-- x of more than one digit wants two places or more, and one less for what is before its last digit
pub place_left : (x i : ℕ) → 9 < x → x < 10 ^ i → (1 ≤ i - 1) × (x / 10 < 10 ^ (i - 1))
place_left x zero h p = absurd (omega (arith, pow-zero 10))
place_left x (suc zero) h p = absurd (omega arith)
place_left x (suc (suc i)) h p = (omega arith, let one : suc (suc i) - 1 ≡ suc i = omega arith in rw one (omega (arith, pow-suc 10 (suc i))))

module _ (l : List ℕ) (n x i : ℕ) (inside : i ≤ length l) (e : digits_of i x (drop i l) ≡ decimal n) where
  pub write_turn : 0 < i → 9 < x → digits_of (i - 1) (x / 10) (drop (i - 1) (set l (i - 1) (48 + x % 10))) ≡ decimal n
  write_turn p h =
      let one : i ≡ suc (i - 1) = omega arith in
      let cut : drop (i - 1) (set l (i - 1) (48 + x % 10)) ≡ (48 + x % 10) ∷ drop i l = drop_set_here l i _ p inside in
      rw cut (sym (ap (λ k. digits_of k x (drop i l)) one ∙ digits_more (i - 1) x (drop i l) (omega arith)) ∙ e)

  pub write_last : 0 < i → x ≤ 9 → drop (i - 1) (set l (i - 1) (48 + x)) ≡ decimal n
  write_last p h =
      let one : i ≡ suc (i - 1) = omega arith in
      drop_set_here l i _ p inside ∙ sym (ap (λ k. digits_of k x (drop i l)) one ∙ digits_last (i - 1) x (drop i l) (omega arith)) ∙ e

-- Words by their digits: of two words joined, of a power of two, and that digits tell a word.
-- Assumes nothing.
use Prim.Native.Nat.{ℕ, zero, suc, ◌+◌, ◌-◌, ◌*◌, ◌/◌, ◌%◌, ◌^◌, ◌≤◌, ◌<◌, max, min}
use mathlib.Core.Path.{◌≡◌, refl, sym, ap, ap₂, ◌∙◌}
use native.Mathlib.Omega.{arith}
use native.Mathlib.Nat.{div-add-mod', mod-lt, pow-suc, mul_comm, div-one, div_self, div-eq_of_lt, div-div-eq-div-mul, mul-div_cancel, mul-mod_left, eq-or-lt_of_le}
use mathlib.Core.Logic.{⊎_elim}
use lib.Pow.{pow_pos, pow-lt, pow-add}
use lib.Bits.{bit_or, or_shr, or_mod, bit_and, and_shr, and_mod}
use Rattle.num_whole.specs.Tests.{less}
use Rattle.num_whole.proofs.Cases.{by_cases, less_true, less_false}
use Rattle.take_marks.specs.Marks.{digit}

-- ---- digits are 0 or 1
pub digit_small : (w k : ℕ) → digit w k < 2
unfolding digit
digit_small w k = mod-lt (w / 2 ^ k) (omega arith)

-- ---- two words joined
join_small : (a b : ℕ) → a < 2 → b < 2 → bit_or a b ≡ max a b
join_small zero zero p q = refl
join_small zero (suc zero) p q = refl
join_small (suc zero) zero p q = refl
join_small (suc zero) (suc zero) p q = refl
join_small zero (suc (suc b)) p q = absurd (omega arith)
join_small (suc zero) (suc (suc b)) p q = absurd (omega arith)
join_small (suc (suc a)) b p q = absurd (omega arith)

pub digit_join : (a b k : ℕ) → digit (bit_or a b) k ≡ max (digit a k) (digit b k)
unfolding digit
digit_join a b k =
    ap (λ n. n % 2) (or_shr a b k) ∙ or_mod (a / 2 ^ k) (b / 2 ^ k) 1
    ∙ join_small (a / 2 ^ k % 2) (b / 2 ^ k % 2) (mod-lt (a / 2 ^ k) (omega arith)) (mod-lt (b / 2 ^ k) (omega arith))

-- ---- what two words have in common
meet_small : (a b : ℕ) → a < 2 → b < 2 → bit_and a b ≡ min a b
meet_small zero zero p q = refl
meet_small zero (suc zero) p q = refl
meet_small (suc zero) zero p q = refl
meet_small (suc zero) (suc zero) p q = refl
meet_small zero (suc (suc b)) p q = absurd (omega arith)
meet_small (suc zero) (suc (suc b)) p q = absurd (omega arith)
meet_small (suc (suc a)) b p q = absurd (omega arith)

pub digit_meet : (a b k : ℕ) → digit (bit_and a b) k ≡ min (digit a k) (digit b k)
unfolding digit
digit_meet a b k =
    ap (λ n. n % 2) (and_shr a b k) ∙ and_mod (a / 2 ^ k) (b / 2 ^ k) 1
    ∙ meet_small (a / 2 ^ k % 2) (b / 2 ^ k % 2) (mod-lt (a / 2 ^ k) (omega arith)) (mod-lt (b / 2 ^ k) (omega arith))

-- ---- a power of two has one digit that is not 0
pub digit_power : (k : ℕ) → digit (2 ^ k) k ≡ 1
unfolding digit
digit_power k = ap (λ n. n % 2) (div_self (pow_pos k))

pub digit_others : (k j : ℕ) → (j ≡ k → ⊥) → digit (2 ^ k) j ≡ 0
unfolding digit
digit_others k j h =
    by_cases (less j k)
    (λ t. below (less_true _ _ t))
    (λ t. ap (λ n. n % 2) (div-eq_of_lt (pow-lt (above (less_false _ _ t)))))
  where
    above : k ≤ j → k < j
    above l = ⊎_elim (λ e. absurd (h (sym e))) (λ p. p) (eq-or-lt_of_le l)

    split : j < k → 2 ^ k ≡ 2 ^ (k - j - 1) * 2 * 2 ^ j
    split l =
        let e : k ≡ k - j - 1 + 1 + j = omega arith in
        ap (λ n. 2 ^ n) e ∙ pow-add 2 (k - j - 1 + 1) j ∙ ap (λ n. n * 2 ^ j) (pow-add 2 (k - j - 1) 1)

    below : j < k → 2 ^ k / 2 ^ j % 2 ≡ 0
    below l =
        ap (λ n. n / 2 ^ j % 2) (split l) ∙ ap (λ n. n % 2) (mul-div_cancel (2 ^ (k - j - 1) * 2) (pow_pos j))
        ∙ mul-mod_left (2 ^ (k - j - 1)) 2

-- ---- digits tell a word
pub digit_first : (w : ℕ) → digit w 0 ≡ w % 2
unfolding digit
digit_first w = ap (λ n. n % 2) (div-one w)

pub digit_half : (w k : ℕ) → digit (w / 2) k ≡ digit w (suc k)
unfolding digit
digit_half w k = ap (λ n. n % 2) (div-div-eq-div-mul w 2 (2 ^ k) ∙ ap (λ n. w / n) (mul_comm 2 (2 ^ k) ∙ sym (pow-suc 2 k)))

half_small : (n w : ℕ) → w < 2 ^ suc n → w / 2 < 2 ^ n
half_small n w h = omega (arith, pow-suc 2 n)

pub same_digits : (n a b : ℕ) → a < 2 ^ n → b < 2 ^ n → ((k : ℕ) → k < n → digit a k ≡ digit b k) → a ≡ b
same_digits zero a b p q h = omega arith
same_digits (suc n) a b p q h =
    let low : a % 2 ≡ b % 2 = sym (digit_first a) ∙ h 0 (omega arith) ∙ digit_first b in
    let high : a / 2 ≡ b / 2 = same_digits n (a / 2) (b / 2) (half_small n a p) (half_small n b q) (λ k l. digit_half a k ∙ h (suc k) (omega arith) ∙ sym (digit_half b k)) in
    sym (div-add-mod' a 2) ∙ ap₂ (λ x y. x * 2 + y) high low ∙ div-add-mod' b 2

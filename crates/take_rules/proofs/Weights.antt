-- The weight: the whole number nearest to 65,536/s², and the only one; no tie; its span; what rounding down gave where the fraction is below
-- one half. Assumes nothing.
use Prim.Native.Nat.{ℕ, zero, suc, ◌+◌, ◌*◌, ◌/◌, ◌%◌, ◌≤◌, ◌<◌}
use mathlib.Core.Path.{◌≡◌, refl, sym, subst}
use mathlib.Core.Bool.{Bool, true}
use mathlib.Core.Logic.{⊎_elim}
use native.Mathlib.Nat.{div-add-mod', mod-lt, mul-le-mul, mul-le-mul_right, mul-pos, le_antisymm, eq-or-lt_of_le}
use native.Mathlib.Omega.{arith}
use Rattle.num_limits.specs.Capacities.{sigma_most, weight_top}
use Rattle.num_whole.specs.Tests.{less, up_to, pick, both, either, between, below}
use Rattle.num_whole.proofs.Cases.{yes, no, by_cases, is_less, not_less, less_true, less_false, both_first, both_second, between_true}
use Rattle.num_whole.proofs.Tables.{below_at}
use Rattle.take_rules.specs.Rules.{nearest_quotient, weight_of}

-- ---- a number nearest to a/b, said in whole numbers times b: twice the distance is below b
pub record Nearest (a b q : ℕ) : Type 0 where
  pub above : 2 * (q * b) < 2 * a + b
  pub under : 2 * a < 2 * (q * b) + b

-- the fraction is not one half
abbrev pub NoTie : ℕ → ℕ → Type 0
NoTie a b = 2 * (a % b) ≡ b → ⊥

strict : {m n : ℕ} → m ≤ n → (m ≡ n → ⊥) → m < n
strict h t = ⊎_elim (λ e. absurd (t e)) (λ l. l) (eq-or-lt_of_le h)

module _ (a b : ℕ) where
  -- rounding down, where the fraction is at most one half; it is no nearer then
  pub rounds_down : 2 * (a % b) ≤ b → nearest_quotient a b ≡ a / b
  rounds_down h = sym (no _ _ _ (not_less b (2 * (a % b)) h) refl)

  pub rounds_up : b < 2 * (a % b) → nearest_quotient a b ≡ a / b + 1
  rounds_up h = sym (yes _ _ _ (is_less b (2 * (a % b)) h) refl)

  pub is_nearest : 0 < b → NoTie a b → Nearest a b (nearest_quotient a b)
  is_nearest some t =
      by_cases (less b (2 * (a % b)))
      (λ e. let h = less_true b (2 * (a % b)) e in subst (λ q. Nearest a b q) (sym (rounds_up h)) (record { above = omega (arith, div-add-mod' a b); under = omega (arith, div-add-mod' a b, mod-lt a some) }))
      (λ e. let h = less_false b (2 * (a % b)) e in
      let l : 2 * (a % b) < b = strict h t in
      subst (λ q. Nearest a b q) (sym (rounds_down h)) (record { above = omega (arith, div-add-mod' a b); under = omega (arith, div-add-mod' a b) }))

  -- only one number is nearest
  not_above : (p q : ℕ) → Nearest a b p → Nearest a b q → p ≤ q
  not_above p q x y = by_cases (less q p) (λ e. let h : suc q * b ≤ p * b = mul-le-mul_right b (less_true q p e) in omega (arith, x.above, y.under)) (λ e. less_false q p e)

  pub only_nearest : (p q : ℕ) → Nearest a b p → Nearest a b q → p ≡ q
  only_nearest p q x y = le_antisymm (not_above p q x y) (not_above q p y x)

-- ---- of every s from 1 to 256, by one test that is computed: "no tie can occur, and 1 to 65,536 stays the span"
sigma_test : ℕ → Bool
sigma_test k =
    both (between 1 (weight_of (suc k)) weight_top)
    (either (less (2 * (weight_top % (suc k * suc k))) (suc k * suc k)) (less (suc k * suc k) (2 * (weight_top % (suc k * suc k)))))

tested : below sigma_test sigma_most ≡ true
unfolding below sigma_test both either between less up_to pick weight_of
tested = refl

apart : (m n : ℕ) → either (less m n) (less n m) ≡ true → m ≡ n → ⊥
unfolding either
apart m n e h =
    by_cases (less m n) (λ l. omega (arith, less_true m n l)) (λ l. omega (arith, less_true n m (subst (λ b. either b (less n m) ≡ true) l e)))

at : (s : ℕ) → 1 ≤ s → s ≤ sigma_most → (between 1 (weight_of s) weight_top ≡ true) × NoTie weight_top (s * s)
unfolding sigma_test
at zero some few = absurd (omega arith)
at (suc k) some few = let h = below_at sigma_test sigma_most tested k (omega arith) in (both_first _ _ h, apart _ _ (both_second _ _ h))

module _ (s : ℕ) (some : 1 ≤ s) (few : s ≤ sigma_most) where
  pub no_tie : NoTie weight_top (s * s)
  no_tie = (at s some few).1

  pub weight_low : 1 ≤ weight_of s
  weight_low = (between_true _ _ _ (at s some few).0).0

  pub weight_high : weight_of s ≤ weight_top
  weight_high = (between_true _ _ _ (at s some few).0).1

  -- "65,536/s² rounded to nearest": twice the distance, times s², is below s²; no other number is so near
  pub weight_nearest : Nearest weight_top (s * s) (weight_of s)
  unfolding weight_of
  weight_nearest = is_nearest weight_top (s * s) (mul-pos some some) no_tie

  pub weight_only : (w : ℕ) → Nearest weight_top (s * s) w → w ≡ weight_of s
  weight_only w h = only_nearest weight_top (s * s) w (weight_of s) h weight_nearest

  -- the weight times the square of s is at most one and a half times 65,536
  pub weight_square : weight_of s * (s * s) ≤ 98304
  weight_square = omega (arith, weight_nearest.above, mul-le-mul few few)

-- "rounding down turns 1.64 into 1": where the fraction is below one half the weight is what rounding down gave
pub weight_down : (s : ℕ) → 2 * (weight_top % (s * s)) < s * s → weight_of s ≡ weight_top / (s * s)
unfolding weight_of
weight_down s h = rounds_down weight_top (s * s) (omega arith)

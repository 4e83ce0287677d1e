-- The numbers at which a test holds: one turn of a loop over them, that they ascend, and which they are.
-- Assumes nothing.
use mathlib.Core.Path.{◌≡◌, refl, sym, ap, ◌∙◌, subst}
use mathlib.Core.List.{[], ◌∷◌}
use mathlib.Core.Bool.{Bool, true, false}
use Prim.Native.Nat.{ℕ, zero, suc, ◌+◌, ◌-◌, ◌≤◌, ◌<◌}
use native.Mathlib.Numerals.{add-one}
use native.Mathlib.Nat.{le_refl}
use native.Mathlib.Omega.{arith}
use lib.ListN.{length}
use Rattle.num_whole.specs.Tests.{less, same, both}
use Rattle.num_whole.proofs.Cases.{yes, no, holds, fails, less_true, less_false, same_true, same_false, by_cases}
use Rattle.norm_system.specs.System.{has}
use Rattle.norm_labels.specs.Seats.{ascending}
use Rattle.norm_labels.proofs.Ascending.{Asc, asc_to, asc_down, has_head, has_below}
use Rattle.norm_labels.proofs.Seats.{has_later}
use Rattle.merge_locate.specs.Locate.{numbers_where}

module _ (f : ℕ → Bool) where
  module _ (i m : ℕ) where
    pub numbers_on : f i ≡ true → numbers_where f i (suc m) ≡ i ∷ numbers_where f (suc i) m
    unfolding numbers_where
    numbers_on e = sym (yes _ _ _ e refl)

    pub numbers_off : f i ≡ false → numbers_where f i (suc m) ≡ numbers_where f (suc i) m
    unfolding numbers_where
    numbers_off e = sym (no _ _ _ e refl)

  pub numbers_few : (i m : ℕ) → length (numbers_where f i m) ≤ m
  unfolding numbers_where
  numbers_few i zero = le_refl 0
  numbers_few i (suc m) =
      let rest : length (numbers_where f (suc i) m) ≤ m = numbers_few (suc i) m in
      by_cases (f i)
      (λ e. let z : length (numbers_where f i (suc m)) ≡ suc (length (numbers_where f (suc i) m)) = ap length (numbers_on i m e) in omega arith)
      (λ e. let z : length (numbers_where f i (suc m)) ≡ length (numbers_where f (suc i) m) = ap length (numbers_off i m e) in omega arith)

  -- ---- a loop over n numbers, i done, k of them numbers_where
  module _ (n i : ℕ) where
    pub numbers_end : n ≤ i → numbers_where f i (n - i) ≡ []
    unfolding numbers_where
    numbers_end h = let z : n - i ≡ 0 = omega arith in rw z

    pub numbers_next : i < n → f i ≡ true → numbers_where f i (n - i) ≡ i ∷ numbers_where f (i + 1) (n - (i + 1))
    numbers_next h e =
        let z : n - i ≡ suc (n - (i + 1)) = omega arith in
        ap (numbers_where f i) z ∙ numbers_on i (n - (i + 1)) e ∙ ap (λ j. i ∷ numbers_where f j (n - (i + 1))) (sym (add-one i))

    pub numbers_skip : i < n → f i ≡ false → numbers_where f i (n - i) ≡ numbers_where f (i + 1) (n - (i + 1))
    numbers_skip h e =
        let z : n - i ≡ suc (n - (i + 1)) = omega arith in
        ap (numbers_where f i) z ∙ numbers_off i (n - (i + 1)) e ∙ ap (λ j. numbers_where f j (n - (i + 1))) (sym (add-one i))

  -- ---- they ascend
  numbers_asc : (i m : ℕ) → Asc i (numbers_where f i m)
  unfolding numbers_where
  numbers_asc i zero = tt
  numbers_asc i (suc m) =
      let rest = numbers_asc (suc i) m in
      by_cases (f i)
      (λ e. subst (Asc i) (sym (numbers_on i m e)) (le_refl i, rest))
      (λ e. subst (Asc i) (sym (numbers_off i m e)) (asc_down i (suc i) (numbers_where f (suc i) m) (omega arith) rest))

  pub numbers_ascend : (m : ℕ) → ascending (numbers_where f 0 m) ≡ true
  numbers_ascend m = asc_to (numbers_where f 0 m) (numbers_asc 0 m)

  -- ---- and are those at which the test holds
  numbers_has : (i m k : ℕ) → i ≤ k → k < i + m → has k (numbers_where f i m) ≡ f k
  unfolding numbers_where
  numbers_has i zero k h g = absurd (out h g)
    where
      out : i ≤ k → k < i + 0 → ⊥
      out h g = omega arith
  numbers_has i (suc m) k h g =
      let rest = numbers_has (suc i) m k in
      by_cases (same i k)
      (λ e. let d : i ≡ k = same_true i k e in
      subst (λ j. has j (numbers_where f i (suc m)) ≡ f j) d
      (by_cases (f i)
      (λ a. ap (has i) (numbers_on i m a) ∙ has_head i (numbers_where f (suc i) m) ∙ sym a)
      (λ a. ap (has i) (numbers_off i m a) ∙ has_below i (numbers_where f (suc i) m) (numbers_asc (suc i) m) ∙ sym a)))
      (λ e. let off : i ≡ k → ⊥ = same_false i k e in
      let r : has k (numbers_where f (suc i) m) ≡ f k = rest (omega arith) (omega arith) in
      by_cases (f i)
      (λ a. ap (has k) (numbers_on i m a) ∙ has_later i k (numbers_where f (suc i) m) off ∙ r)
      (λ a. ap (has k) (numbers_off i m a) ∙ r))

  numbers_past : (i m k : ℕ) → i + m ≤ k → has k (numbers_where f i m) ≡ false
  unfolding numbers_where has
  numbers_past i zero k h = refl
  numbers_past i (suc m) k h =
      let rest = numbers_past (suc i) m k in
      let r : has k (numbers_where f (suc i) m) ≡ false = rest (omega arith) in
      by_cases (f i)
      (λ a. ap (has k) (numbers_on i m a) ∙ has_later i k (numbers_where f (suc i) m) (λ d. level d h) ∙ r)
      (λ a. ap (has k) (numbers_off i m a) ∙ r)
    where
      level : i ≡ k → i + suc m ≤ k → ⊥
      level d h = omega arith

  pub numbers_are : (n k : ℕ) → has k (numbers_where f 0 n) ≡ both (less k n) (f k)
  numbers_are n k =
      by_cases (less k n)
      (λ e. let h : k < n = less_true k n e in numbers_has 0 n k (omega arith) (omega arith) ∙ holds _ _ e refl)
      (λ e. let h : n ≤ k = less_false k n e in numbers_past 0 n k (omega arith) ∙ fails _ _ e)

-- Where a number stands in a list: within it exactly where the list has it, and in an ascending list as the numbers rise.
-- Assumes nothing.
use mathlib.Core.Path.{◌≡◌, refl, sym, ap, ◌∙◌}
use mathlib.Core.List.{List, [], ◌∷◌}
use mathlib.Core.Bool.{true, false}
use Prim.Native.Nat.{ℕ, zero, suc, ◌≤◌, ◌<◌}
use native.Mathlib.Nat.{not-suc-le-zero, le_of_suc-le-suc}
use native.Mathlib.Omega.{arith}
use lib.ListN.{length, get_or}
use Rattle.num_whole.specs.Tests.{less, same, pick, either}
use Rattle.num_whole.proofs.Cases.{apart, is_less, not_less, is_same, not_same, same_true, same_false, by_cases}
use Rattle.norm_system.specs.System.{has}
use Rattle.norm_labels.specs.Seats.{ascending, seat}
use Rattle.norm_labels.proofs.Ascending.{Asc, asc_from, has_below, either_second}

module _ (x k : ℕ) (l : List ℕ) where
  pub seat_first : x ≡ k → seat (x ∷ l) k ≡ 0
  unfolding seat pick
  seat_first e = rw (is_same x k e)

  pub seat_later : (x ≡ k → ⊥) → seat (x ∷ l) k ≡ suc (seat l k)
  unfolding seat pick
  seat_later e = rw (not_same x k e)

  has_first : x ≡ k → has k (x ∷ l) ≡ true
  unfolding has either
  has_first e = rw (is_same x k e)

  pub has_later : (x ≡ k → ⊥) → has k (x ∷ l) ≡ has k l
  unfolding has either
  has_later e = rw (not_same x k e)

-- ---- a number that the list has, and one that it lacks
pub record Seated (l : List ℕ) (k : ℕ) : Type 0 where
  pub inside : seat l k < length l
  pub is : get_or l (seat l k) 0 ≡ k

pub seated : (l : List ℕ) (k : ℕ) → has k l ≡ true → Seated l k
unfolding has
seated [] k h = absurd (apart (sym h))
seated (x ∷ l) k h =
    by_cases (same x k) (λ e. here (same_true x k e))
    (λ e. there (same_false x k e) (seated l k (sym (has_later x k l (same_false x k e)) ∙ h)))
  where
    here : x ≡ k → Seated (x ∷ l) k
    here e =
        let s : seat (x ∷ l) k ≡ 0 = seat_first x k l e in
        record { inside = omega arith; is = ap (λ i. get_or (x ∷ l) i 0) s ∙ e }

    there : (x ≡ k → ⊥) → Seated l k → Seated (x ∷ l) k
    there e r =
        let s : seat (x ∷ l) k ≡ suc (seat l k) = seat_later x k l e in
        record { inside = omega (arith, r.inside); is = ap (λ i. get_or (x ∷ l) i 0) s ∙ r.is }

pub unseated : (l : List ℕ) (k : ℕ) → has k l ≡ false → seat l k ≡ length l
unfolding has seat
unseated [] k h = refl
unseated (x ∷ l) k h =
    by_cases (same x k)
    (λ e. absurd (apart (sym (has_first x k l (same_true x k e)) ∙ h)))
    (λ e. seat_later x k l (same_false x k e) ∙ ap suc (unseated l k (sym (has_later x k l (same_false x k e)) ∙ h)))

pub seat_within : (l : List ℕ) (k : ℕ) → less (seat l k) (length l) ≡ has k l
seat_within l k =
    by_cases (has k l)
    (λ e. is_less (seat l k) (length l) (seated l k e).inside ∙ sym e)
    (λ e. let s : seat l k ≡ length l = unseated l k e in not_less (seat l k) (length l) (omega arith) ∙ sym e)

-- ---- in an ascending list
floor_at_lem : (floor : ℕ) (l : List ℕ) (i : ℕ) → Asc floor l → i < length l → floor ≤ get_or l i 0
floor_at_lem floor [] i p h = absurd (not-suc-le-zero h)
floor_at_lem floor (x ∷ l) zero p h = p.0
floor_at_lem floor (x ∷ l) (suc i) p h =
    let b : suc x ≤ get_or l i 0 = floor_at_lem (suc x) l i p.1 (le_of_suc-le-suc h) in
    let a : floor ≤ x = p.0 in
    omega arith

rises : (floor : ℕ) (l : List ℕ) (i j : ℕ) → Asc floor l → i < j → j < length l → get_or l i 0 < get_or l j 0
rises floor [] i j p h g = absurd (not-suc-le-zero g)
rises floor (x ∷ l) i zero p h g = absurd (not-suc-le-zero h)
rises floor (x ∷ l) zero (suc j) p h g = floor_at_lem (suc x) l j p.1 (le_of_suc-le-suc g)
rises floor (x ∷ l) (suc i) (suc j) p h g = rises (suc x) l i j p.1 (le_of_suc-le-suc h) (le_of_suc-le-suc g)

at : (floor : ℕ) (l : List ℕ) (i : ℕ) → Asc floor l → i < length l → seat l (get_or l i 0) ≡ i
at floor [] i p h = absurd (not-suc-le-zero h)
at floor (x ∷ l) zero p h = seat_first x x l refl
at floor (x ∷ l) (suc i) p h =
    seat_later x (get_or l i 0) l (λ e. under e (floor_at_lem (suc x) l i p.1 (le_of_suc-le-suc h))) ∙ ap suc (at (suc x) l i p.1 (le_of_suc-le-suc h))
  where
    under : {y : ℕ} → x ≡ y → suc x ≤ y → ⊥
    under e h = omega arith

module _ (l : List ℕ) (p : ascending l ≡ true) where
  pub seat_at : (i : ℕ) → i < length l → seat l (get_or l i 0) ≡ i
  seat_at i h = at 0 l i (asc_from l p) h

  pub rise : (i j : ℕ) → i < j → j < length l → get_or l i 0 < get_or l j 0
  rise i j h g = rises 0 l i j (asc_from l p) h g

  module _ (j k : ℕ) (hj : has j l ≡ true) (hk : has k l ≡ true) where
    pub seats_rise : j < k → seat l j < seat l k
    seats_rise h =
        let a = seated l j hj in
        let b = seated l k hk in
        let down : seat l k < seat l j → ⊥ = λ g. wrong a.is b.is (rise (seat l k) (seat l j) g a.inside) in
        let same : seat l j ≡ seat l k → ⊥ = λ e. level (sym a.is ∙ ap (λ i. get_or l i 0) e ∙ b.is) in
        omega arith
      where
        wrong : {a b : ℕ} → a ≡ j → b ≡ k → b < a → ⊥
        wrong x y z = omega arith

        level : j ≡ k → ⊥
        level e = omega arith

    pub seats_order : j ≤ k → seat l j ≤ seat l k
    seats_order h =
        let a = seated l j hj in
        let b = seated l k hk in
        let down : seat l k < seat l j → ⊥ = λ g. wrong a.is b.is (rise (seat l k) (seat l j) g a.inside) in
        omega arith
      where
        wrong : {a b : ℕ} → a ≡ j → b ≡ k → b < a → ⊥
        wrong x y z = omega arith

-- below an ascending list stands nothing
pub seat_below : (k : ℕ) (l : List ℕ) → Asc (suc k) l → seat l k ≡ length l
seat_below k l p = unseated l k (has_below k l p)

-- a list has what stands in it
pub has_at : (l : List ℕ) (i : ℕ) → i < length l → has (get_or l i 0) l ≡ true
unfolding has either
has_at [] i h = absurd (not-suc-le-zero h)
has_at (x ∷ l) zero h = rw (is_same x x refl)
has_at (x ∷ l) (suc i) h = either_second (same x (get_or l i 0)) (has_at l i (le_of_suc-le-suc h))

-- The places of some numbers in an ascending list: they ascend, which they are, and what a place among them stands for.
-- Assumes nothing.
use mathlib.Core.Path.{◌≡◌, refl, sym, ap, ap₂, ◌∙◌, subst}
use mathlib.Core.List.{List, [], ◌∷◌, map}
use mathlib.Core.Bool.{true}
use Prim.Native.Nat.{ℕ, suc, ◌≤◌, ◌<◌}
use native.Mathlib.Omega.{arith}
use lib.ListN.{length, get_or, length-map}
use Rattle.num_whole.specs.Tests.{less, same, both, either}
use Rattle.num_whole.proofs.Cases.{apart, holds, fails, same_true, same_false, less_true, less_false, by_cases}
use Rattle.norm_system.specs.System.{has}
use Rattle.norm_labels.specs.Seats.{ascending, seat, seats}
use Rattle.norm_labels.proofs.Ascending.{Asc, asc_from, asc_to, has_head, either_second}
use Rattle.norm_labels.proofs.Seats.{seat_first, seat_later, Seated, seated, seat_within, seat_at, seats_rise, has_at}
use Rattle.norm_labels.proofs.Values.{map_at}

above : (floor : ℕ) (l : List ℕ) (y : ℕ) → Asc floor l → has y l ≡ true → floor ≤ y
unfolding has either
above floor [] y p h = absurd (apart (sym h))
above floor (x ∷ l) y p h =
    let rest = above (suc x) l y p.1 in
    by_cases (same x y)
    (λ e. let d : x ≡ y = same_true x y e in omega (arith, p.0))
    (λ e. let r : suc x ≤ y = rest (sym (ap (λ t. either t (has y l)) e) ∙ h) in omega (arith, p.0))

module _ (u : List ℕ) (up : ascending u ≡ true) where
  asc_seats : (floor low : ℕ) (ks : List ℕ) → Asc low ks → ((x : ℕ) → has x ks ≡ true → (has x u ≡ true) × (floor ≤ seat u x)) → Asc floor (map (seat u) ks)
  unfolding has
  asc_seats floor low [] p h = tt
  asc_seats floor low (x ∷ ks) p h = (
    (h x (has_head x ks)).1,
    asc_seats (suc (seat u x)) (suc x) ks p.1
        (λ y m. let d = (h y (either_second (same x y) m)).0 in
        (d, seats_rise u up x y (h x (has_head x ks)).0 d (above (suc x) ks y p.1 m))),
  )

  through : (ks : List ℕ) → ((x : ℕ) → has x ks ≡ true → has x u ≡ true) → (k : ℕ) → k < length u → seat (map (seat u) ks) k ≡ seat ks (get_or u k 0)
  unfolding seat has
  through [] sub k g = refl
  through (x ∷ ks) sub k g =
      let rest = through ks (λ y h. sub y (either_second (same x y) h)) k g in
      let d = seated u x (sub x (has_head x ks)) in
      by_cases (same (seat u x) k)
      (λ e. let i : seat u x ≡ k = same_true (seat u x) k e in
      seat_first (seat u x) k (map (seat u) ks) i ∙ sym (seat_first x (get_or u k 0) ks (sym (ap (λ n. get_or u n 0) (sym i) ∙ d.is))))
      (λ e. let off : seat u x ≡ k → ⊥ = same_false (seat u x) k e in
      seat_later (seat u x) k (map (seat u) ks) off ∙ ap suc rest
      ∙ sym (seat_later x (get_or u k 0) ks (λ z. off (ap (seat u) z ∙ seat_at u up k g))))

  -- ---- numbers that the list has
  module _ (ks : List ℕ) (sub : (x : ℕ) → has x ks ≡ true → has x u ≡ true) where
    pub places_ascend : ascending ks ≡ true → ascending (seats u ks) ≡ true
    unfolding seats
    places_ascend p = asc_to (map (seat u) ks) (asc_seats 0 0 ks (asc_from ks p) (λ x h. (sub x h, omega arith)))

    pub places_inside : (i : ℕ) → i < length ks → get_or (seats u ks) i 0 < length u
    unfolding seats
    places_inside i h = subst (λ n. n < length u) (sym (map_at (seat u) 0 ks i h)) (seated u (get_or ks i 0) (sub (get_or ks i 0) (has_at ks i h))).inside

    -- a place of the list, looked up among those of the numbers, is its number looked up among the numbers
    pub place_through : (k : ℕ) → k < length u → seat (seats u ks) k ≡ seat ks (get_or u k 0)
    unfolding seats
    place_through = through ks sub

    pub places_have : (k : ℕ) → has k (seats u ks) ≡ both (less k (length u)) (has (get_or u k 0) ks)
    unfolding seats
    places_have k =
        by_cases (less k (length u))
        (λ e. let h : k < length u = less_true k (length u) e in
        sym (seat_within (map (seat u) ks) k) ∙ ap₂ less (through ks sub k h) (length-map ks (seat u)) ∙ seat_within ks (get_or u k 0) ∙ holds _ _ e refl)
        (λ e. by_cases (has k (map (seat u) ks)) (λ d. absurd (out (less_false k (length u) e) (seated (map (seat u) ks) k d))) (λ d. d) ∙ fails _ _ e)
      where
        out : length u ≤ k → Seated (map (seat u) ks) k → ⊥
        out h d =
            let i = seat (map (seat u) ks) k in
            let inside : i < length ks = subst (λ n. i < n) (length-map ks (seat u)) d.inside in
            let low : seat u (get_or ks i 0) < length u = (seated u (get_or ks i 0) (sub (get_or ks i 0) (has_at ks i inside))).inside in
            let is : seat u (get_or ks i 0) ≡ k = sym (map_at (seat u) 0 ks i inside) ∙ d.is in
            omega arith

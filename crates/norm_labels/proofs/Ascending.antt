-- Ascending lists: each number in turn, what such a list has, and that it is the one ascending list that has it.
-- Assumes nothing.
use mathlib.Core.Path.{◌≡◌, refl, sym, ap, ◌∙◌, subst}
use mathlib.Core.List.{List, [], ◌∷◌, map}
use mathlib.Core.Bool.{Bool, true, false}
use Prim.Native.Nat.{ℕ, suc, ◌+◌, ◌≤◌, ◌<◌}
use native.Mathlib.Nat.{le_trans}
use native.Mathlib.Numerals.{add-one}
use native.Mathlib.Omega.{arith}
use Rattle.num_whole.specs.Tests.{same, either}
use Rattle.num_whole.specs.Lists.{ascend}
use Rattle.num_whole.proofs.Cases.{apart, holds, is_up_to, up_to_true, is_same, not_same, same_true, both_first, both_second, by_cases}
use Rattle.norm_system.specs.System.{has}
use Rattle.norm_labels.specs.Seats.{ascending}

-- ---- ascending, said of each number in turn
abbrev pub Asc : ℕ → List ℕ → Type 0
Asc floor [] = Unit {0}
Asc floor (x ∷ l) = (floor ≤ x) × Asc (suc x) l

pub asc_of : {A : Type 0} (key : A → ℕ) (floor : ℕ) (l : List A) → ascend key floor l ≡ true → Asc floor (map key l)
unfolding ascend
asc_of key floor [] e = tt
asc_of key floor (x ∷ l) e = (
  up_to_true floor (key x) (both_first _ _ e),
  subst (λ f. Asc f (map key l)) (add-one (key x)) (asc_of key (key x + 1) l (both_second _ _ e)),
)

pub asc_is : {A : Type 0} (key : A → ℕ) (floor : ℕ) (l : List A) → Asc floor (map key l) → ascend key floor l ≡ true
unfolding ascend
asc_is key floor [] p = refl
asc_is key floor (x ∷ l) p =
    sym (holds _ _ (is_up_to floor (key x) p.0) (sym (asc_is key (key x + 1) l (subst (λ f. Asc f (map key l)) (sym (add-one (key x))) p.1))))

pub map_own : (l : List ℕ) → map (λ k. k) l ≡ l
map_own [] = refl
map_own (x ∷ l) = ap (λ t. x ∷ t) (map_own l)

pub asc_from : (l : List ℕ) → ascending l ≡ true → Asc 0 l
unfolding ascending
asc_from l e = subst (Asc 0) (map_own l) (asc_of (λ k. k) 0 l e)

pub asc_to : (l : List ℕ) → Asc 0 l → ascending l ≡ true
unfolding ascending
asc_to l p = asc_is (λ k. k) 0 l (subst (Asc 0) (sym (map_own l)) p)

pub asc_down : (f g : ℕ) (l : List ℕ) → f ≤ g → Asc g l → Asc f l
asc_down f g [] h p = tt
asc_down f g (x ∷ l) h p = (le_trans h p.0, p.1)

-- ---- what a list has
pub either_second : (a : Bool) {b : Bool} → b ≡ true → either a b ≡ true
unfolding either
either_second true e = refl
either_second false e = e

-- ---- an ascending list is what it has
pub has_below : (k : ℕ) (l : List ℕ) → Asc (suc k) l → has k l ≡ false
unfolding has either
has_below k [] p = refl
has_below k (x ∷ l) p =
    rw (not_same x k (λ e. differ p.0 e), has_below k l (asc_down (suc k) (suc x) l (more p.0) p.1))
  where
    differ : suc k ≤ x → x ≡ k → ⊥
    differ h e = omega arith

    more : suc k ≤ x → suc k ≤ suc x
    more h = omega arith

pub has_head : (x : ℕ) (l : List ℕ) → has x (x ∷ l) ≡ true
unfolding has either
has_head x l = rw (is_same x x refl)

not_first : (x y : ℕ) (l m : List ℕ) → Asc (suc y) m → ((k : ℕ) → has k (x ∷ l) ≡ has k (y ∷ m)) → x < y → ⊥
not_first x y l m q h t = apart (sym (has_head x l) ∙ h x ∙ has_below x (y ∷ m) (t, q))

heads : (x y : ℕ) (l m : List ℕ) → Asc (suc x) l → Asc (suc y) m → ((k : ℕ) → has k (x ∷ l) ≡ has k (y ∷ m)) → x ≡ y
heads x y l m p q h =
    let a : x < y → ⊥ = not_first x y l m q h in
    let b : y < x → ⊥ = not_first y x m l p (λ k. sym (h k)) in
    omega arith

tails : (x : ℕ) (l m : List ℕ) → Asc (suc x) l → Asc (suc x) m → (k : ℕ) → has k (x ∷ l) ≡ has k (x ∷ m) → has k l ≡ has k m
unfolding has either
tails x l m p q k h =
    by_cases (same x k)
    (λ e. let i : x ≡ k = same_true x k e in
    has_below k l (subst (λ z. Asc (suc z) l) i p) ∙ sym (has_below k m (subst (λ z. Asc (suc z) m) i q)))
    (λ e. let g : either (same x k) (has k l) ≡ either (same x k) (has k m) = h in rw e at g)

pub only : (floor : ℕ) (l m : List ℕ) → Asc floor l → Asc floor m → ((k : ℕ) → has k l ≡ has k m) → l ≡ m
unfolding has
only floor [] [] p q h = refl
only floor [] (y ∷ m) p q h = absurd (apart (sym (has_head y m) ∙ sym (h y)))
only floor (x ∷ l) [] p q h = absurd (apart (sym (has_head x l) ∙ h x))
only floor (x ∷ l) (y ∷ m) p q h =
    let e : x ≡ y = heads x y l m p.1 q.1 h in
    let q' : Asc (suc x) m = subst (λ z. Asc (suc z) m) (sym e) q.1 in
    let h' : (k : ℕ) → has k (x ∷ l) ≡ has k (x ∷ m) = subst (λ z. (k : ℕ) → has k (x ∷ l) ≡ has k (z ∷ m)) (sym e) h in
    ap (λ t. x ∷ t) (only (suc x) l m p.1 q' (λ k. tails x l m p.1 q' k (h' k))) ∙ ap (λ z. z ∷ m) e

pub determined : (l m : List ℕ) → ascending l ≡ true → ascending m ≡ true → ((k : ℕ) → has k l ≡ has k m) → l ≡ m
determined l m p q h = only 0 l m (asc_from l p) (asc_from m q) h

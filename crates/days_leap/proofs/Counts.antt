-- Days of an ascending list counted: those before a day, and those before the next day; and of a list in parts.
-- Assumes nothing.
use Prim.Native.Nat.{ℕ, ◌+◌, ◌≤◌, ◌<◌}
use mathlib.Core.Path.{◌≡◌, refl, sym, ap}
use mathlib.Core.Bool.{Bool, true, false}
use mathlib.Core.List.{List, [], ◌∷◌, ◌++◌}
use native.Mathlib.Omega.{arith}
use native.Mathlib.Nat.{zero-add}
use lib.ListN.{length}
use Rattle.num_whole.specs.Tests.{less, up_to, pick}
use Rattle.num_whole.specs.Lists.{Each, ascend}
use Rattle.num_whole.proofs.Cases.{yes, no, is_less, not_less, less_true, less_false, up_to_true, is_same, not_same, both_first, both_second, at_once, at_last, by_cases}
use Rattle.days_leap.specs.Leap.{stands_in, days_before}

-- a list of days, each after the one before it, the first not before a floor
abbrev pub Rises : ℕ → List ℕ → Type 0
Rises floor l = ascend (λ n. n) floor l ≡ true

module _ (floor x : ℕ) (l : List ℕ) (up : Rises floor (x ∷ l)) where
  floor_first : floor ≤ x
  unfolding ascend
  floor_first = up_to_true _ _ (both_first _ _ up)

  later : Rises (x + 1) l
  unfolding ascend
  later = both_second (up_to floor x) _ up

-- ---- one day counted, or not
abbrev pub one_if : Bool → ℕ
one_if b = pick b 1 0

pub one : (x d : ℕ) → x < d → one_if (less x d) ≡ 1
one x d h = sym (yes _ _ _ (is_less x d h) refl)

pub none : (x d : ℕ) → d ≤ x → one_if (less x d) ≡ 0
none x d h = sym (no _ _ _ (not_less x d h) refl)

few : (b : Bool) → one_if b ≤ 1
unfolding pick
few true = omega arith
few false = omega arith

one_rises : (x d e : ℕ) → d ≤ e → one_if (less x d) ≤ one_if (less x e)
one_rises x d e h =
    by_cases (less x d)
    (λ t. let p = less_true _ _ t in omega (arith, one x d p, one x e (omega arith)))
    (λ t. let p = less_false _ _ t in omega (arith, none x d p))

-- ---- all of a list
pub before_most : (d : ℕ) (l : List ℕ) → days_before d l ≤ length l
unfolding days_before
before_most d [] = omega arith
before_most d (x ∷ l) = omega (arith, few (less x d), before_most d l)

pub before_rises : (d e : ℕ) → d ≤ e → (l : List ℕ) → days_before d l ≤ days_before e l
unfolding days_before
before_rises d e h [] = omega arith
before_rises d e h (x ∷ l) = omega (arith, one_rises x d e h, before_rises d e h l)

-- no day of the list lies before its floor
pub before_none : (d floor : ℕ) → d ≤ floor → (l : List ℕ) → Rises floor l → days_before d l ≡ 0
unfolding days_before
before_none d floor h [] up = refl
before_none d floor h (x ∷ l) up =
    let p = floor_first floor x l up in
    omega (arith, none x d (omega arith), before_none d (x + 1) (omega arith) l (later floor x l up))

-- ---- the day itself: it counts for the next day, and once
stands : (d x : ℕ) (l : List ℕ) → x ≡ d → stands_in d (x ∷ l) ≡ true
unfolding stands_in
stands d x l e = sym (at_once _ _ (is_same x d e))

stands_later : (d x : ℕ) (l : List ℕ) → (x ≡ d → ⊥) → stands_in d (x ∷ l) ≡ stands_in d l
unfolding stands_in
stands_later d x l e = sym (at_last _ _ (not_same x d e) refl)

nowhere : (d : ℕ) → ◌≡◌ {A = ℕ} 0 (0 + one_if (stands_in d []))
unfolding stands_in pick
nowhere d = refl

pub before_next : (d floor : ℕ) (l : List ℕ) → Rises floor l → days_before (d + 1) l ≡ days_before d l + one_if (stands_in d l)
unfolding days_before
before_next d floor [] up = nowhere d
before_next d floor (x ∷ l) up =
    let next = before_next d (x + 1) l (later floor x l up) in
    by_cases (less x d)
    (λ t. before next (less_true _ _ t))
    (λ t. by_cases (less d x) (λ u. after next (less_true _ _ u)) (λ u. here (omega (arith, less_false _ _ t, less_false _ _ u))))
  where
    rest : Rises (x + 1) l
    rest = later floor x l up

    passing : (x ≡ d → ⊥) → one_if (stands_in d (x ∷ l)) ≡ one_if (stands_in d l)
    passing e = ap one_if (stands_later d x l e)

    before : days_before (d + 1) l ≡ days_before d l + one_if (stands_in d l) → x < d → days_before (d + 1) (x ∷ l) ≡ days_before d (x ∷ l) + one_if (stands_in d (x ∷ l))
    before next h = omega (arith, passing (λ e. omega arith), next, one x (d + 1) (omega arith), one x d h)

    after : days_before (d + 1) l ≡ days_before d l + one_if (stands_in d l) → d < x → days_before (d + 1) (x ∷ l) ≡ days_before d (x ∷ l) + one_if (stands_in d (x ∷ l))
    after next h = omega (arith, passing (λ e. omega arith), next, none x (d + 1) (omega arith), none x d (omega arith))

    here : x ≡ d → days_before (d + 1) (x ∷ l) ≡ days_before d (x ∷ l) + one_if (stands_in d (x ∷ l))
    here e =
        let s : ◌≡◌ {A = ℕ} 1 (one_if (stands_in d (x ∷ l))) = yes _ _ _ (stands d x l e) refl in
        omega (arith, s, one x (d + 1) (omega arith), none x d (omega arith), before_none (d + 1) (x + 1) (omega arith) l rest, before_none d (x + 1) (omega arith) l rest)

-- ---- a list in parts
pub before_append : (d : ℕ) (a b : List ℕ) → days_before d (a ++ b) ≡ days_before d a + days_before d b
unfolding days_before
before_append d [] b = sym (zero-add (days_before d b))
before_append d (x ∷ a) b = omega (arith, before_append d a b)

-- the first day of a list, where it lies before
pub before_one : (d x : ℕ) (l : List ℕ) → x < d → days_before d (x ∷ l) ≡ 1 + days_before d l
unfolding days_before
before_one d x l h = omega (arith, one x d h)

-- and where all of them do
pub before_all : (d : ℕ) (l : List ℕ) → Each (λ x. x < d) l → days_before d l ≡ length l
unfolding days_before
before_all d [] h = refl
before_all d (x ∷ l) h = omega (arith, one x d h.0, before_all d l h.1)

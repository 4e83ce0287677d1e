-- The union of two ascending lists: it ascends and has the numbers of both; an ascending list is what it has, so the union goes by no order and
-- no grouping.
-- Assumes nothing.
use mathlib.Core.Path.{◌≡◌, refl, sym, ap, ◌∙◌, subst}
use mathlib.Core.List.{List, [], ◌∷◌}
use mathlib.Core.Bool.{Bool, true, false}
use Prim.Native.Nat.{ℕ, suc, ◌≤◌, ◌<◌}
use native.Mathlib.Omega.{arith}
use Rattle.num_whole.specs.Tests.{less, same, pick, either}
use Rattle.num_whole.proofs.Cases.{apart, less_true, less_false}
use Rattle.norm_system.specs.System.{has}
use Rattle.norm_labels.specs.Seats.{ascending}
use Rattle.norm_labels.proofs.Ascending.{Asc, asc_from, asc_to, determined}
use Rattle.merge_join.specs.Join.{union}

-- ---- a choice by the order of two numbers, on two sides alike
pick_by : {A B : Type 0} (P : A → B → Type 0) (t : Bool) (a b : A) (a' b' : B) → (t ≡ true → P a a') → (t ≡ false → P b b')
    → P (pick t a b) (pick t a' b')
unfolding pick
pick_by P true a b a' b' f g = f refl
pick_by P false a b a' b' f g = g refl

pub three : {A B : Type 0} (P : A → B → Type 0) (x y : ℕ) (a b c : A) (a' b' c' : B) → (x < y → P a a') → (y < x → P b b') → (x ≡ y → P c c')
    → P (pick (less x y) a (pick (less y x) b c)) (pick (less x y) a' (pick (less y x) b' c'))
three P x y a b c a' b' c' f g h =
    pick_by P (less x y) a (pick (less y x) b c) a' (pick (less y x) b' c') (λ t. f (less_true x y t))
    (λ s. pick_by P (less y x) b c b' c' (λ t. g (less_true y x t)) (λ t. h (level (less_false x y s) (less_false y x t))))
  where
    level : y ≤ x → x ≤ y → x ≡ y
    level p q = omega arith

-- the union by the order of the two first numbers
pub by_order : (P : List ℕ → Type 0) (x y : ℕ) (xs ys : List ℕ) → (x < y → P (x ∷ union xs (y ∷ ys))) → (y < x → P (y ∷ union (x ∷ xs) ys))
    → (x ≡ y → P (x ∷ union xs ys)) → P (union (x ∷ xs) (y ∷ ys))
unfolding union
by_order P x y xs ys =
    three (λ (l m : List ℕ). P l) x y (x ∷ union xs (y ∷ ys)) (y ∷ union (x ∷ xs) ys) (x ∷ union xs ys) [] [] []

-- ---- it ascends
pub union_asc : (floor : ℕ) (xs ys : List ℕ) → Asc floor xs → Asc floor ys → Asc floor (union xs ys)
unfolding union
union_asc floor [] ys p q = q
union_asc floor (x ∷ xs) [] p q = p
union_asc floor (x ∷ xs) (y ∷ ys) p q =
    by_order (Asc floor) x y xs ys
    (λ t. (p.0, union_asc (suc x) xs (y ∷ ys) p.1 (t, q.1)))
    (λ t. (q.0, union_asc (suc y) (x ∷ xs) ys (t, p.1) q.1))
    (λ e. (p.0, union_asc (suc x) xs ys p.1 (subst (λ k. Asc (suc k) ys) (sym e) q.1)))

-- ---- it has the numbers of both
either_swap : (a b c : Bool) → either a (either b c) ≡ either b (either a c)
unfolding either
either_swap true true c = refl
either_swap true false c = refl
either_swap false b c = refl

pub either_assoc : (a b c : Bool) → either (either a b) c ≡ either a (either b c)
unfolding either
either_assoc true b c = refl
either_assoc false b c = refl

pub either_comm : (a b : Bool) → either a b ≡ either b a
unfolding either
either_comm true true = refl
either_comm true false = refl
either_comm false true = refl
either_comm false false = refl

either_same : (a b : Bool) → either a (either a b) ≡ either a b
unfolding either
either_same true b = refl
either_same false b = refl

pub either_no : (a : Bool) → either a false ≡ a
unfolding either
either_no true = refl
either_no false = refl

pub either_false : (a b : Bool) → either a b ≡ false → (a ≡ false) × (b ≡ false)
unfolding either
either_false true b e = absurd (apart e)
either_false false b e = (refl, e)

pub either_none : {a b : Bool} → a ≡ false → b ≡ false → either a b ≡ false
unfolding either
either_none e f = rw (e, f)

-- one of the numbers passes a test
module _ (f : ℕ → Bool) (some : List ℕ → Bool) (none : some [] ≡ false) (more : (x : ℕ) (l : List ℕ) → some (x ∷ l) ≡ either (f x) (some l)) where
  pub some_union : (xs ys : List ℕ) → some (union xs ys) ≡ either (some xs) (some ys)
  unfolding union either
  some_union [] ys = sym (ap (λ b. either b (some ys)) none)
  some_union (x ∷ xs) [] = sym (ap (either (some (x ∷ xs))) none ∙ either_no (some (x ∷ xs)))
  some_union (x ∷ xs) (y ∷ ys) =
      by_order (λ l. some l ≡ either (some (x ∷ xs)) (some (y ∷ ys))) x y xs ys
      (λ t. more x (union xs (y ∷ ys)) ∙ ap (either (f x)) (some_union xs (y ∷ ys)) ∙ sym (either_assoc (f x) (some xs) (some (y ∷ ys)))
      ∙ ap (λ b. either b (some (y ∷ ys))) (sym (more x xs)))
      (λ t. more y (union (x ∷ xs) ys) ∙ ap (either (f y)) (some_union (x ∷ xs) ys) ∙ either_swap (f y) (some (x ∷ xs)) (some ys)
      ∙ ap (either (some (x ∷ xs))) (sym (more y ys)))
      (λ e. more x (union xs ys) ∙ ap (either (f x)) (some_union xs ys) ∙ sym (either_same (f x) (either (some xs) (some ys)))
      ∙ ap (either (f x)) (either_swap (f x) (some xs) (some ys) ∙ ap (λ z. either (some xs) (either (f z) (some ys))) e)
      ∙ sym (either_assoc (f x) (some xs) (either (f y) (some ys)))
      ∙ (λ i. either (sym (more x xs) i) (sym (more y ys) i)))

pub has_union : (k : ℕ) (xs ys : List ℕ) → has k (union xs ys) ≡ either (has k xs) (has k ys)
unfolding has
has_union k = some_union (λ x. same x k) (has k) refl (λ x l. refl)

-- ---- the laws in the definitions' words
module _ (xs ys : List ℕ) (p : ascending xs ≡ true) (q : ascending ys ≡ true) where
  pub union_ascends : ascending (union xs ys) ≡ true
  union_ascends = asc_to (union xs ys) (union_asc 0 xs ys (asc_from xs p) (asc_from ys q))

pub union_comm : (xs ys : List ℕ) → ascending xs ≡ true → ascending ys ≡ true → union xs ys ≡ union ys xs
union_comm xs ys p q =
    determined (union xs ys) (union ys xs) (union_ascends xs ys p q) (union_ascends ys xs q p)
    (λ k. has_union k xs ys ∙ either_comm (has k xs) (has k ys) ∙ sym (has_union k ys xs))

pub union_assoc : (xs ys zs : List ℕ) → ascending xs ≡ true → ascending ys ≡ true → ascending zs ≡ true
    → union (union xs ys) zs ≡ union xs (union ys zs)
union_assoc xs ys zs p q r =
    determined (union (union xs ys) zs) (union xs (union ys zs))
    (union_ascends (union xs ys) zs (union_ascends xs ys p q) r)
    (union_ascends xs (union ys zs) p (union_ascends ys zs q r))
    (λ k. has_union k (union xs ys) zs ∙ ap (λ b. either b (has k zs)) (has_union k xs ys)
    ∙ either_assoc (has k xs) (has k ys) (has k zs)
    ∙ ap (either (has k xs)) (sym (has_union k ys zs)) ∙ sym (has_union k xs (union ys zs)))

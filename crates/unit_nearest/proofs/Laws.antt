-- Laws of `closest`, a fraction to the nearest whole number, and of tests on signed numbers. Assumes nothing.
use mathlib.Core.Path.{◌≡◌, refl, ap, subst}
use Prim.Native.Nat.{ℕ, suc, ◌+◌, ◌*◌, ◌/◌, ◌%◌, ◌≤◌, ◌<◌, compare, Ordering}
use native.Mathlib.Nat.{le_of_lt, ne_of_lt}
use mathlib.Core.Bool.{Bool, true, false, not, true≢false, false≢true}
use lib.Dec.{T, is_le, compare_is_eq, ltb, ltb→lt, nltb→le}
use lib.IntN.{ℤ}
use lib.Signed.{le_z}
use lib.Ieee.{nearest}
use lib.Ieee.Nearest.{closest}
use borrow.Author.Tests.{le-leb, lt-leb, eq-eqb, ne_eqb}
use mir.Syntax.{w64}
use mir.Val.{SFits, of_z, to_z}
use mir.Facts.{to_z-of_z}

-- the machine compares two signed numbers by their bits
pub tested : (a b : ℤ) (t : Bool) → SFits w64 a → SFits w64 b → le_z (to_z w64 (of_z w64 a)) (to_z w64 (of_z w64 b)) ≡ t → le_z a b ≡ t
tested a b t fa fb h =
    subst (λ (z : ℤ). le_z z b ≡ t) (to_z-of_z fa) (subst (λ (z : ℤ). le_z (to_z w64 (of_z w64 a)) z ≡ t) (to_z-of_z fb) h)

cmp_lt : (m n : ℕ) → m < n → compare m n ≡ Ordering.lt
cmp_lt m n h = go (compare m n) (le-leb m n (le_of_lt h)) (ne_eqb m n (ne_of_lt h))
  where
    go : (o : Ordering) → is_le o ≡ true → compare_is_eq o ≡ false → o ≡ Ordering.lt
    go Ordering.lt p q = refl
    go Ordering.eq p q = absurd (true≢false q)
    go Ordering.gt p q = absurd (false≢true p)

cmp_gt : (m n : ℕ) → n < m → compare m n ≡ Ordering.gt
cmp_gt m n h = go (compare m n) (lt-leb m n h)
  where
    go : (o : Ordering) → is_le o ≡ false → o ≡ Ordering.gt
    go Ordering.lt p = absurd (true≢false p)
    go Ordering.eq p = absurd (true≢false p)
    go Ordering.gt p = refl

cmp_eq : (m n : ℕ) → m ≡ n → compare m n ≡ Ordering.eq
cmp_eq m n h = go (compare m n) (eq-eqb m n h)
  where
    go : (o : Ordering) → compare_is_eq o ≡ true → o ≡ Ordering.eq
    go Ordering.lt p = absurd (false≢true p)
    go Ordering.eq p = refl
    go Ordering.gt p = absurd (false≢true p)

-- by the remainder: below a half, above it, and at it
pub closest_lt : (a b : ℕ) → a % b * 2 < b → closest a b ≡ a / b
closest_lt a b h = ap (λ (o : Ordering). nearest (a / b) o) (cmp_lt (a % b * 2) b h)

pub closest_gt : (a b : ℕ) → b < a % b * 2 → closest a b ≡ suc (a / b)
closest_gt a b h = ap (λ (o : Ordering). nearest (a / b) o) (cmp_gt (a % b * 2) b h)

pub closest_eq : (a b : ℕ) → a % b * 2 ≡ b → closest a b ≡ a / b + a / b % 2
closest_eq a b h = ap (λ (o : Ordering). nearest (a / b) o) (cmp_eq (a % b * 2) b h)

-- one of two ways
pub either : {X : Type 0} (m n : ℕ) → (m < n → X) → (n ≤ m → X) → X
either {X} m n f g = go (ltb m n) (ltb→lt m n) (nltb→le m n)
  where
    go : (s : Bool) → (T s → m < n) → (T (not s) → n ≤ m) → X
    go true a b = f (a tt)
    go false a b = g (b tt)

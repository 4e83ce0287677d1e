-- What `closest` is: `Near a b n` says that n is a whole number nearest to a / b, and even at a tie. There is one such n, and it is `closest a b`. Assumes nothing.
use mathlib.Core.Path.{◌≡◌, refl, sym, ap, ◌∙◌, subst}
use Prim.Native.Nat.{ℕ, zero, suc, ◌+◌, ◌*◌, ◌/◌, ◌%◌, ◌≤◌, ◌<◌}
use native.Mathlib.Nat.{le_antisymm, suc-mul, mul-le-mul_right, div-add-mod', mod-lt, eq_of_mul-eq-mul_right}
use native.Mathlib.Omega.{arith}
use mathlib.Core.Bool.{Bool, true, false, not}
use lib.Dec.{T, ltb, ltb→lt, nltb→le}
use lib.Ieee.Nearest.{closest}
use Rattle.unit_nearest.proofs.Laws.{closest_lt, closest_gt, closest_eq}

pub record Near (a b n : ℕ) : Type 0 where
  pub lo : n * b * 2 ≤ a * 2 + b
  pub hi : a * 2 ≤ n * b * 2 + b
  pub even_lo : n * b * 2 ≡ a * 2 + b → n % 2 ≡ 0
  pub even_hi : a * 2 ≡ n * b * 2 + b → n % 2 ≡ 0

-- with the quotient q and the remainder r
module _ (a b q r : ℕ) (e : q * b + r ≡ a) (l : r < b) where
  down : r * 2 < b → Near a b q
  down h = record { lo = omega arith; hi = omega arith; even_lo = λ t. absurd (omega arith); even_hi = λ t. absurd (omega arith) }

  over : b < r * 2 → Near a b (suc q)
  over h =
      let m : suc q * b ≡ q * b + b = suc-mul q b in
      record { lo = omega arith; hi = omega arith; even_lo = λ t. absurd (omega arith); even_hi = λ t. absurd (omega arith) }

  tied : r * 2 ≡ b → (p : ℕ) → q % 2 ≡ p → Near a b (q + p)
  tied h zero o =
      let m : (q + 0) * b ≡ q * b = ap (λ (x : ℕ). x * b) (omega arith) in
      record { lo = omega arith; hi = omega arith; even_lo = λ t. omega arith; even_hi = λ t. omega arith }
  tied h (suc zero) o =
      let m : (q + 1) * b ≡ q * b + b = ap (λ (x : ℕ). x * b) (omega arith) ∙ suc-mul q b in
      record { lo = omega arith; hi = omega arith; even_lo = λ t. omega arith; even_hi = λ t. omega arith }
  tied h (suc (suc p)) o = absurd (omega arith)

pub cases : {X : Type 0} (m n : ℕ) → (m < n → X) → (m ≡ n → X) → (n < m → X) → X
cases {X} m n f g h = go (ltb m n) (ltb n m) (ltb→lt m n) (nltb→le m n) (ltb→lt n m) (nltb→le n m)
  where
    go : (s t : Bool) → (T s → m < n) → (T (not s) → n ≤ m) → (T t → n < m) → (T (not t) → m ≤ n) → X
    go true t a b c d = f (a tt)
    go false true a b c d = h (c tt)
    go false false a b c d = g (le_antisymm (d tt) (b tt))

pub near : (a b : ℕ) → 0 < b → Near a b (closest a b)
near a b B =
    let q = a / b in
    let r = a % b in
    let e : q * b + r ≡ a = div-add-mod' a b in
    let l : r < b = mod-lt a B in
    cases {X = Near a b (closest a b)} (r * 2) b
    (λ h. subst (λ (n : ℕ). Near a b n) (sym (closest_lt a b h)) (down a b q r e l h))
    (λ h. subst (λ (n : ℕ). Near a b n) (sym (closest_eq a b h)) (tied a b q r e l h (q % 2) refl))
    (λ h. subst (λ (n : ℕ). Near a b n) (sym (closest_gt a b h)) (over a b q r e l h))

-- a smaller one and a larger one are both half a unit away, and next to each other
apart : (a b n m : ℕ) → 0 < b → Near a b n → Near a b m → n < m → ⊥
apart a b n m B x y h =
    let s : suc n * b ≤ m * b = mul-le-mul_right b h in
    let t : suc n * b ≡ n * b + b = suc-mul n b in
    let i : m * b ≡ suc n * b = le_antisymm (omega (arith, y.lo, x.hi)) s in
    let j : m ≡ suc n = eq_of_mul-eq-mul_right b B m (suc n) i in
    let u : n % 2 ≡ 0 = x.even_hi (omega (arith, y.lo, x.hi)) in
    let v : m % 2 ≡ 0 = y.even_lo (omega (arith, y.lo, x.hi)) in
    omega arith

pub unique : (a b n m : ℕ) → 0 < b → Near a b n → Near a b m → n ≡ m
unique a b n m B x y = cases {X = n ≡ m} n m (λ h. absurd (apart a b n m B x y h)) (λ h. h) (λ h. absurd (apart a b m n B y x h))

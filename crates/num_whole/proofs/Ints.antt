-- Laws of ℤ that the kit lacks: products, magnitudes, squares, and the machine's signed numbers.
-- Assumes nothing.
use mathlib.Core.Path.{◌≡◌, refl, sym, ap, ◌∙◌, subst}
use mathlib.Core.Bool.{Bool, true, false, not, cond}
use Prim.Native.Nat.{ℕ, zero, suc, ◌+◌, ◌*◌, ◌-◌, ◌^◌, ◌<◌, ◌≤◌}
use native.Mathlib.Nat.{mul-zero, mul_assoc, le_refl, mul-le-mul, lt_of_le_of_lt, le-suc}
use native.Mathlib.Omega.{arith}
use lib.Dec.{T, ltb, ltb→lt}
use lib.IntN.{ℤ, pos, negsuc, neg_ℤ, nat_abs, sub_ℕ, pred_ℤ, ◌+ℤ◌, ◌-ℤ◌, ◌*ℤ◌, neg_ℤ-neg_ℤ, suc_ℤ-+ℤ, pred_ℤ-+ℤ, suc_ℤ-*ℤ, pred_ℤ-*ℤ, +ℤ_assoc, +ℤ_comm, +ℤ_idl, zero-*ℤ, *ℤ_comm}
use lib.Signed.{mag}
use mir.Syntax.{Width}
use mir.Val.{SFits, hbits}

-- ---- the product
pub *-neg : (m k : ℤ) → m *ℤ neg_ℤ k ≡ neg_ℤ (m *ℤ k)
*-neg (pos a) (pos zero) = rw mul-zero
*-neg (pos a) (pos (suc b)) = refl
*-neg (pos a) (negsuc b) = sym (neg_ℤ-neg_ℤ (pos (a * suc b)))
*-neg (negsuc a) (pos zero) = rw mul-zero
*-neg (negsuc a) (pos (suc b)) = sym (neg_ℤ-neg_ℤ (pos (suc a * suc b)))
*-neg (negsuc a) (negsuc b) = refl

pub neg_* : (m k : ℤ) → neg_ℤ m *ℤ k ≡ neg_ℤ (m *ℤ k)
neg_* m k = *ℤ_comm (neg_ℤ m) k ∙ *-neg k m ∙ ap neg_ℤ (*ℤ_comm k m)

-- what holds of each natural number, and of -z where of z, holds of every whole number
pub by_sign : (P : ℤ → Type 0) → ((n : ℕ) → P (pos n)) → ((z : ℤ) → P z → P (neg_ℤ z)) → (z : ℤ) → P z
by_sign P p n (pos k) = p k
by_sign P p n (negsuc k) = n (pos (suc k)) (p (suc k))

pub *-assoc : (a b c : ℤ) → (a *ℤ b) *ℤ c ≡ a *ℤ (b *ℤ c)
*-assoc a b c =
    by_sign (λ c. (a *ℤ b) *ℤ c ≡ a *ℤ (b *ℤ c))
    (λ k. by_sign (λ b. (a *ℤ b) *ℤ pos k ≡ a *ℤ (b *ℤ pos k))
    (λ m. by_sign (λ a. (a *ℤ pos m) *ℤ pos k ≡ a *ℤ (pos m *ℤ pos k))
    (λ n. ap pos (mul_assoc n m k))
    (λ a e. ap (λ x. x *ℤ pos k) (neg_* a (pos m)) ∙ neg_* (a *ℤ pos m) (pos k) ∙ ap neg_ℤ e ∙ sym (neg_* a (pos (m * k)))) a)
    (λ b e. ap (λ x. x *ℤ pos k) (*-neg a b) ∙ neg_* (a *ℤ b) (pos k) ∙ ap neg_ℤ e ∙ sym (*-neg a (b *ℤ pos k)) ∙ ap (λ x. a *ℤ x) (sym (neg_* b (pos k)))) b)
    (λ c e. *-neg (a *ℤ b) c ∙ ap neg_ℤ e ∙ sym (*-neg a (b *ℤ c)) ∙ ap (λ x. a *ℤ x) (sym (*-neg b c))) c

-- x + (y + z) with the last two the other way round
pub swap_last : (x y z : ℤ) → (x +ℤ y) +ℤ z ≡ (x +ℤ z) +ℤ y
swap_last x y z = +ℤ_assoc x y z ∙ ap (λ v. x +ℤ v) (+ℤ_comm y z) ∙ sym (+ℤ_assoc x z y)

pub +-* : (a b c : ℤ) → (a +ℤ b) *ℤ c ≡ a *ℤ c +ℤ b *ℤ c
+-* (pos zero) b c = ap (λ x. x *ℤ c) (+ℤ_idl b) ∙ sym (ap (λ x. x +ℤ b *ℤ c) (zero-*ℤ c) ∙ +ℤ_idl (b *ℤ c))
+-* (pos (suc n)) b c =
    ap (λ x. x *ℤ c) (suc_ℤ-+ℤ (pos n) b) ∙ suc_ℤ-*ℤ (pos n +ℤ b) c ∙ ap (λ x. x +ℤ c) (+-* (pos n) b c)
    ∙ swap_last (pos n *ℤ c) (b *ℤ c) c ∙ ap (λ x. x +ℤ b *ℤ c) (sym (suc_ℤ-*ℤ (pos n) c))
+-* (negsuc zero) b c =
    ap (λ x. x *ℤ c) (pred_ℤ-+ℤ (pos zero) b ∙ ap pred_ℤ (+ℤ_idl b)) ∙ pred_ℤ-*ℤ b c
    ∙ +ℤ_comm (b *ℤ c) (neg_ℤ c) ∙ ap (λ x. x +ℤ b *ℤ c) (sym (pred_ℤ-*ℤ (pos zero) c ∙ ap (λ x. x -ℤ c) (zero-*ℤ c) ∙ +ℤ_idl (neg_ℤ c)))
+-* (negsuc (suc n)) b c =
    ap (λ x. x *ℤ c) (pred_ℤ-+ℤ (negsuc n) b) ∙ pred_ℤ-*ℤ (negsuc n +ℤ b) c ∙ ap (λ x. x -ℤ c) (+-* (negsuc n) b c)
    ∙ swap_last (negsuc n *ℤ c) (b *ℤ c) (neg_ℤ c) ∙ ap (λ x. x +ℤ b *ℤ c) (sym (pred_ℤ-*ℤ (negsuc n) c))

pub *-+ : (a b c : ℤ) → a *ℤ (b +ℤ c) ≡ a *ℤ b +ℤ a *ℤ c
*-+ a b c = *ℤ_comm a (b +ℤ c) ∙ +-* b c a ∙ (λ i. *ℤ_comm b a i +ℤ *ℤ_comm c a i)

-- ---- magnitudes
pub nat_abs_neg : (z : ℤ) → nat_abs (neg_ℤ z) ≡ nat_abs z
nat_abs_neg (pos zero) = refl
nat_abs_neg (pos (suc n)) = refl
nat_abs_neg (negsuc n) = refl

pub nat_abs_* : (a b : ℤ) → nat_abs (a *ℤ b) ≡ nat_abs a * nat_abs b
nat_abs_* (pos a) (pos b) = refl
nat_abs_* (pos a) (negsuc b) = nat_abs_neg (pos (a * suc b))
nat_abs_* (negsuc a) (pos b) = nat_abs_neg (pos (suc a * b))
nat_abs_* (negsuc a) (negsuc b) = refl

by_test : (c : Bool) (x y : ℤ) (P : ℤ → Type 0) → (T c → P x) → (T (not c) → P y) → P (cond c x y)
by_test true x y P f g = f tt
by_test false x y P f g = g tt

sub_abs : (a b : ℕ) → nat_abs (sub_ℕ a b) ≤ a + b
sub_abs a b = by_test (ltb a b) (negsuc (b - suc a)) (pos (a - b)) (λ z. nat_abs z ≤ a + b) (λ t. less a b (ltb→lt a b t)) (λ t. more a b)
  where
    less : (a b : ℕ) → a < b → suc (b - suc a) ≤ a + b
    less a b h = omega arith

    more : (a b : ℕ) → a - b ≤ a + b
    more a b = omega arith

pub nat_abs_+ : (a b : ℤ) → nat_abs (a +ℤ b) ≤ nat_abs a + nat_abs b
nat_abs_+ (pos a) (pos b) = le_refl (a + b)
nat_abs_+ (pos a) (negsuc b) = sub_abs a (suc b)
nat_abs_+ (negsuc a) (pos b) = let h : nat_abs (sub_ℕ b (suc a)) ≤ b + suc a = sub_abs b (suc a) in omega arith
nat_abs_+ (negsuc a) (negsuc b) = omega arith

-- a product of bounded numbers, and a sum
pub *-within : (a b : ℤ) {m n : ℕ} → nat_abs a ≤ m → nat_abs b ≤ n → nat_abs (a *ℤ b) ≤ m * n
*-within a b {m} {n} p q = subst (λ (k : ℕ). k ≤ m * n) (sym (nat_abs_* a b)) (mul-le-mul p q)

pub +-within : (a b : ℤ) {m n : ℕ} → nat_abs a ≤ m → nat_abs b ≤ n → nat_abs (a +ℤ b) ≤ m + n
+-within a b {m} {n} p q = let h : nat_abs (a +ℤ b) ≤ nat_abs a + nat_abs b = nat_abs_+ a b in omega arith

mag_abs : (z : ℤ) → mag z ≤ nat_abs z
mag_abs (pos n) = le_refl n
mag_abs (negsuc n) = le-suc n

-- a number within m, which is below half the width's power, fits
pub within_fits : (w : Width) (z : ℤ) {m : ℕ} → nat_abs z ≤ m → T (ltb m (2 ^ hbits w)) → SFits w z
within_fits w z {m} p t = record { sfits = lt_of_le_of_lt (mag_abs z) (lt_of_le_of_lt p (ltb→lt m (2 ^ hbits w) t)) }

-- and a number that fits is within that power
abs_mag : (z : ℤ) {m : ℕ} → mag z < m → nat_abs z ≤ m
abs_mag (pos n) h = omega arith
abs_mag (negsuc n) h = h

pub fits_within : (w : Width) (z : ℤ) → SFits w z → nat_abs z ≤ 2 ^ hbits w
fits_within w z f = abs_mag z f.sfits

-- ---- a square is that of the magnitude
pub square : (z : ℤ) → z *ℤ z ≡ pos (nat_abs z * nat_abs z)
square (pos n) = refl
square (negsuc n) = refl

-- The machine's tests of signed numbers.
-- Assumes nothing.
use mathlib.Core.Path.{◌≡◌, refl, sym, ap, ap₂, ◌∙◌, subst}
use mathlib.Core.Bool.{Bool, true, false, not, cond}
use Prim.Native.Nat.{ℕ, zero, suc, ◌-◌, ◌^◌, ◌<◌, ◌≤◌, zero-le}
use native.Mathlib.Omega.{arith}
use borrow.Author.Tests.{eq-eqb, ne_eqb, eqb-true, le-ltb, ltb-false}
use lib.Dec.{eqb, le→leb}
use lib.IntN.{ℤ, pos, negsuc, neg_ℤ, ◌-ℤ◌, nat_abs, +ℤ_idl}
use lib.Signed.{◌≤ℤ◌, lt_z, le_z_yes}
use mir.Syntax.{w64}
use mir.Val.{SFits, to_z, of_z}
use mir.ValLaws.{to_z-of_z}
use Rattle.num_whole.proofs.Cases.{apart}
use Rattle.num_packed.specs.Sound.{is_zero}

-- a number is 0 where its bits are
pub zero_bits : (z : ℤ) → SFits w64 z → eqb (of_z w64 z) 0 ≡ is_zero z
zero_bits (pos n) f = refl
zero_bits (negsuc n) f = ne_eqb (2 ^ 64 - suc n) 0 (λ e. never n f.sfits e)
  where
    never : (n : ℕ) → n < 2 ^ 63 → 2 ^ 64 - suc n ≡ 0 → ⊥
    never n h e = omega arith

pub is_zero_lem : (z : ℤ) → SFits w64 z → of_z w64 z ≡ 0 → is_zero z ≡ true
is_zero_lem z f e = sym (zero_bits z f) ∙ eq-eqb (of_z w64 z) 0 e

pub not_zero : (z : ℤ) → SFits w64 z → (of_z w64 z ≡ 0 → ⊥) → is_zero z ≡ false
not_zero z f e = sym (zero_bits z f) ∙ ne_eqb (of_z w64 z) 0 e

-- 0 - b, of a b that is not negative
pub neg_fits : (b : ℤ) → pos 0 ≤ℤ b → SFits w64 b → SFits w64 (neg_ℤ b)
neg_fits (pos zero) p f = f
neg_fits (pos (suc n)) p f = record { sfits = omega (arith, f.sfits) }
neg_fits (negsuc n) p f = absurd p.le

pub lower : (b : ℤ) → SFits w64 b → pos 0 -ℤ to_z w64 (of_z w64 b) ≡ neg_ℤ b
lower b f = ap (λ z. pos 0 -ℤ z) (to_z-of_z w64 b f) ∙ +ℤ_idl (neg_ℤ b)

pub lower_back : (b : ℤ) → pos 0 ≤ℤ b → SFits w64 b → to_z w64 (of_z w64 (pos 0 -ℤ to_z w64 (of_z w64 b))) ≡ neg_ℤ b
lower_back b p f = ap (λ z. to_z w64 (of_z w64 z)) (lower b f) ∙ to_z-of_z w64 (neg_ℤ b) (neg_fits b p f)

-- a test of two numbers, from the machine's test of what it reads back
pub test_of : (x y a b : ℤ) (t : Bool) → x ≡ a → y ≡ b → lt_z x y ≡ t → lt_z a b ≡ t
test_of x y a b t p q e = subst (λ z. lt_z z b ≡ t) p (subst (λ z. lt_z x z ≡ t) q e)

-- ---- a choice by a test
pub chosen : {A : Type 0} (t : Bool) (x y : A) → t ≡ true → cond t x y ≡ x
chosen true x y e = refl
chosen false x y e = absurd (apart (sym e))

pub other : {A : Type 0} (t : Bool) (x y : A) → t ≡ false → cond t x y ≡ y
other true x y e = absurd (apart e)
other false x y e = refl

-- what is past a bound, from the machine's numbers
pub past_is : (b x b' x' : ℤ) (r : Bool) → b' ≡ b → x' ≡ x → r ≡ cond (lt_z b' x') true (lt_z x' (neg_ℤ b')) → r ≡ cond (lt_z b x) true (lt_z x (neg_ℤ b))
past_is b x b' x' r p q e = e ∙ ap₂ (λ u v. cond (lt_z u v) true (lt_z v (neg_ℤ u))) p q

-- what is past a bound breaks it, and what is not is judged on
pub past_true : (a b r : Bool) → cond a true b ≡ true → true ≡ cond a true (cond b true r)
past_true true b r e = refl
past_true false true r e = refl
past_true false false r e = absurd (apart (sym e))

pub past_false : (a b r : Bool) → cond a true b ≡ false → r ≡ cond a true (cond b true r)
past_false true b r e = absurd (apart e)
past_false false true r e = absurd (apart e)
past_false false false r e = refl

pub not_past : (a b : Bool) → not (cond a true b) ≡ cond a false (not b)
not_past true b = refl
not_past false b = refl

-- ---- zero, and not below it
pub zero_true : (z : ℤ) → is_zero z ≡ true → z ≡ pos 0
zero_true (pos n) e = ap pos (eqb-true n 0 e)
zero_true (negsuc n) e = absurd (apart (sym e))

pub zero_is : (z : ℤ) → z ≡ pos 0 → is_zero z ≡ true
zero_is z e = ap is_zero e

pub plain_of : (z : ℤ) → lt_z z (pos 0) ≡ false → z ≡ pos (nat_abs z)
plain_of (pos n) e = refl
plain_of (negsuc n) e = absurd (apart e)

pub plain_is : (z : ℤ) → z ≡ pos (nat_abs z) → lt_z z (pos 0) ≡ false
plain_is (pos n) e = le-ltb n 0 (omega arith)
plain_is (negsuc n) e = ap (λ z. lt_z z (pos 0)) e ∙ le-ltb (suc n) 0 (omega arith)

pub not_below : (n : ℕ) → pos 0 ≤ℤ pos n
not_below n = le_z_yes (le→leb 0 n zero-le)

-- ---- a bound
-- a number that is neither above b nor below -b
pub between_bounds : (b : ℕ) (x : ℤ) → lt_z (pos b) x ≡ false → lt_z x (neg_ℤ (pos b)) ≡ false → nat_abs x ≤ b
between_bounds b (pos n) h l = ltb-false b n h
between_bounds zero (negsuc n) h l = absurd (apart l)
between_bounds (suc b) (negsuc n) h l = omega (arith, ltb-false b n l)

-- and one within b is neither
pub not_above : (b : ℕ) (z : ℤ) → nat_abs z ≤ b → lt_z (pos b) z ≡ false
not_above b (pos n) h = le-ltb b n h
not_above b (negsuc n) h = refl

pub not_under : (b : ℕ) (z : ℤ) → nat_abs z ≤ b → lt_z z (neg_ℤ (pos b)) ≡ false
not_under zero (pos n) h = le-ltb n 0 (omega arith)
not_under (suc b) (pos n) h = refl
not_under zero (negsuc n) h = absurd (omega arith)
not_under (suc b) (negsuc n) h = le-ltb b n (omega arith)

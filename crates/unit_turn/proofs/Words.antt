-- Signed numbers as the machine holds them: a test of the words is the test of the numbers.
-- Assumes nothing.
use Prim.Native.Nat.{ℕ, suc, ◌+◌, ◌-◌, ◌^◌, ◌<◌, ◌≤◌}
use native.Mathlib.Omega.{arith}
use mathlib.Core.Path.{◌≡◌, refl, sym, ap₂, ◌∙◌, subst}
use mathlib.Core.Bool.{true, false}
use lib.IntN.{ℤ, pos, negsuc, neg_ℤ, nat_abs, ◌-ℤ◌}
use mir.Syntax.{w64}
use mir.Val.{SFits, of_z, to_z}
use mir.Facts.{to_z-of_z}
use Rattle.num_whole.proofs.Cases.{is_same, not_same}
use Rattle.num_whole.proofs.Ints.{nat_abs_neg, +-within, within_fits}
use Rattle.unit_types.specs.Types.{turn}
use Rattle.unit_turn.specs.Turning.{is_turn}

-- T is known by its word
pub is_turn_lem : (q : ℤ) → SFits w64 q → of_z w64 q ≡ turn → is_turn q ≡ true
unfolding is_turn
is_turn_lem (pos n) f e = is_same n turn e
is_turn_lem (negsuc n) f e = absurd (far n f.sfits e)
  where
    far : (n : ℕ) → n < 2 ^ 63 → 2 ^ 64 - suc n ≡ turn → ⊥
    far n h e = omega arith

pub not_turn : (q : ℤ) → (of_z w64 q ≡ turn → ⊥) → is_turn q ≡ false
unfolding is_turn
not_turn (pos n) e = not_same n turn e
not_turn (negsuc n) e = refl

-- ---- the difference of two words
abbrev word : ℤ → ℤ
word z = to_z w64 (of_z w64 z)

pub word_within : (z : ℤ) → nat_abs z ≤ 2 ^ 40 → nat_abs (word z) ≤ 2 ^ 40
word_within z h = subst (λ x. nat_abs x ≤ 2 ^ 40) (sym (to_z-of_z (within_fits w64 z h tt))) h

pub minus_within : (a b : ℤ) {m n : ℕ} → nat_abs a ≤ m → nat_abs b ≤ n → nat_abs (a -ℤ b) ≤ m + n
minus_within a b {m} {n} p q = +-within a (neg_ℤ b) p (subst (λ k. k ≤ n) (sym (nat_abs_neg b)) q)

module _ (a b : ℤ) (p : nat_abs a ≤ 2 ^ 41) (q : nat_abs b ≤ 2 ^ 41) where
  words : word a -ℤ word b ≡ a -ℤ b
  words = ap₂ (λ x y. x -ℤ y) (to_z-of_z (within_fits w64 a p tt)) (to_z-of_z (within_fits w64 b q tt))

  pub minus_fits : SFits w64 (word a -ℤ word b)
  minus_fits = subst (λ z. SFits w64 z) (sym words) (within_fits w64 (a -ℤ b) (minus_within a b p q) tt)

  pub minus_is : word (word a -ℤ word b) ≡ a -ℤ b
  minus_is = to_z-of_z minus_fits ∙ words

-- A whole number with a sign: products, distances and limits, by the sizes. Assumes nothing.
use mathlib.Core.Path.{◌≡◌, refl, sym, ap, ◌∙◌}
use Prim.Native.Nat.{ℕ, zero, suc, ◌+◌, ◌-◌, ◌*◌, ◌^◌, ◌≤◌, ◌<◌}
use native.Mathlib.Nat.{zero-mul}
use native.Mathlib.Omega.{arith}
use mathlib.Core.Bool.{Bool, true, false, ◌&&◌, cond}
use lib.IntN.{ℤ, pos, negsuc, neg_ℤ, nat_abs, sub_ℕ, ◌-ℤ◌, ◌*ℤ◌, +ℤ_idl}
use mir.Syntax.{w64}
use mir.Val.{SFits, of_z, to_z}
use mir.Facts.{to_z-of_z}
use lib.Signed.{le_z}
use Rattle.unit_nearest.proofs.Laws.{either}
use borrow.Author.Tests.{lt-ltb, le-ltb, lt-leb}
use Rattle.unit_nearest.specs.Doubles.{signed, within}
use Rattle.num_whole.specs.Answer.{given, refused}

pub abs_signed : (s : Bool) (n : ℕ) → nat_abs (signed s n) ≡ n
abs_signed false n = refl
abs_signed true zero = refl
abs_signed true (suc n) = refl

pub times : (s : Bool) (n b : ℕ) → signed s n *ℤ pos b ≡ signed s (n * b)
times false n b = refl
times true zero b = ap pos (zero-mul b) ∙ sym (ap (λ (z : ℕ). neg_ℤ (pos z)) (zero-mul b))
times true (suc n) b = refl

-- a - b, for two numbers
pub sub_less : (a b : ℕ) → a < b → sub_ℕ a b ≡ negsuc (b - suc a)
sub_less a b h = ap (λ (t : Bool). cond t (negsuc (b - suc a)) (pos (a - b))) (lt-ltb a b h)

pub sub_more : (a b : ℕ) → b ≤ a → sub_ℕ a b ≡ pos (a - b)
sub_more a b h = ap (λ (t : Bool). cond t (negsuc (b - suc a)) (pos (a - b))) (le-ltb a b h)

pub sub_abs : (a b : ℕ) → nat_abs (sub_ℕ a b) ≡ a - b + (b - a)
sub_abs a b =
    either a b (λ h. ap nat_abs (sub_less a b h) ∙ omega arith) (λ h. ap nat_abs (sub_more a b h) ∙ omega arith)

-- of two numbers with one sign: how far they are apart
pub apart : (s : Bool) (a b : ℕ) → nat_abs (signed s a -ℤ signed s b) ≡ a - b + (b - a)
apart false a zero = omega arith
apart false a (suc b) = sub_abs a (suc b)
apart true zero zero = refl
apart true zero (suc b) = omega arith
apart true (suc a) zero = sub_abs 0 (suc a) ∙ omega arith
apart true (suc a) (suc b) = sub_abs (suc b) (suc a) ∙ omega arith

and_false : (a : Bool) → a && false ≡ false
and_false true = refl
and_false false = refl

-- what is larger in size than both limits is out of them
pub outside : (lo hi : ℤ) (s : Bool) (n m : ℕ) → nat_abs lo ≤ m → nat_abs hi ≤ m → m < n → within lo hi (signed s n) ≡ (refused 16)
outside lo (pos h) false n m a b c =
    ap (λ (t : Bool). cond (le_z lo (pos n) && t) (given (pos n)) (refused 16)) (lt-leb n h (omega arith))
    ∙ ap (λ (t : Bool). cond t (given (pos n)) (refused 16)) (and_false (le_z lo (pos n)))
outside lo (negsuc h) false n m a b c = ap (λ (t : Bool). cond t (given (pos n)) (refused 16)) (and_false (le_z lo (pos n)))
outside lo hi true zero m a b c = absurd (omega arith)
outside (pos l) hi true (suc n) m a b c = refl
outside (negsuc l) hi true (suc n) m a b c =
    ap (λ (t : Bool). cond (t && le_z (negsuc n) hi) (given (negsuc n)) (refused 16)) (lt-leb n l (omega arith))

-- a number up to 2 ^ 53 is one of the machine's, with either sign
pub sfits_signed : (s : Bool) (n : ℕ) → n ≤ 2 ^ 53 → SFits w64 (signed s n)
sfits_signed false n h = record { sfits = omega arith }
sfits_signed true zero h = record { sfits = omega arith }
sfits_signed true (suc n) h = record { sfits = omega arith }

pub less_of_zero : (n : ℕ) → pos 0 -ℤ pos n ≡ neg_ℤ (pos n)
less_of_zero n = +ℤ_idl (neg_ℤ (pos n))

-- a callee is handed signed numbers by their bits
pub limits_handed : (lo hi q : ℤ) → SFits w64 lo → SFits w64 hi → within (to_z w64 (of_z w64 lo)) (to_z w64 (of_z w64 hi)) q ≡ within lo hi q
limits_handed lo hi q a b = ap (λ (x : ℤ). within x (to_z w64 (of_z w64 hi)) q) (to_z-of_z a) ∙ ap (λ (x : ℤ). within lo x q) (to_z-of_z b)

pub handed : (lo hi q : ℤ) → SFits w64 lo → SFits w64 hi → SFits w64 q → within (to_z w64 (of_z w64 lo)) (to_z w64 (of_z w64 hi)) (to_z w64 (of_z w64 q)) ≡ within lo hi q
handed lo hi q a b c = limits_handed lo hi (to_z w64 (of_z w64 q)) a b ∙ ap (λ (x : ℤ). within lo hi x) (to_z-of_z c)

-- `unit_bits::double_of_bits` meets its contract: a pattern above an infinity's, but for the sign, is a NaN's, and every NaN's is `nan`.
use Prim.Native.Nat.{◌*◌, ◌%◌, ◌^◌}
use mathlib.Core.Path.{◌≡◌, refl, sym, ◌∙◌, subst}
use mathlib.Core.Bool.{Bool, true, not}
use native.Mathlib.Omega.{arith}
use lib.Dec.{T}
use lib.Ieee.{Float, nan, inf, fin, binary64, is_nan, of_bits, div}
use lib.Ieee.Bits.{nan_bits_is, nan_bits_above}
use borrow.Author.Tests.{lt-ltb, le-ltb}
use Rattle.unit_bits.proofs.double_of_bits.Goals as goal

only : (x : Float) → is_nan x ≡ true → x ≡ nan
unfolding is_nan
only nan h = refl
only (inf s) h = absurd (subst (λ (b : Bool). T (not b)) h tt)
only (fin s m e) h = absurd (subst (λ (b : Bool). T (not b)) h tt)

zeros : div binary64 (of_bits binary64 0) (of_bits binary64 0) ≡ nan
unfolding div of_bits
zeros = refl

pub returns-then-low-gt9218868437227405312 : goal.returns-then-low-gt9218868437227405312
returns-then-low-gt9218868437227405312 c =
    let p = c.args.pattern in
    zeros ∙ sym (only (of_bits binary64 p) (sym (nan_bits_is binary64 p) ∙ nan_bits_above binary64 p ∙ lt-ltb (2047 * 2 ^ 52) (p % 2 ^ 63) (omega arith)))

pub float_from_bits-result : goal.float_from_bits-result
float_from_bits-result c =
    let p = c.args.pattern in
    subst (λ (b : Bool). T (not b)) (sym (nan_bits_above binary64 p ∙ le-ltb (2047 * 2 ^ 52) (p % 2 ^ 63) (omega arith))) tt

-- A double's size in units of 2 ^ -1074, by its value and by the fields of its pattern. Assumes nothing.
use mathlib.Core.Path.{◌≡◌, refl, sym, ap, ap₂, ◌∙◌, subst}
use Prim.Native.Nat.{ℕ, zero, suc, ◌+◌, ◌*◌, ◌/◌, ◌%◌, ◌^◌, ◌≤◌}
use native.Mathlib.Nat.{mul-one, mul-div_cancel, le_trans}
use mathlib.Core.Bool.{Bool, true, false, cond}
use lib.Dec.{eqb, leb, lit≤}
use lib.IntN.{ℤ, pos}
use lib.Pow.{pow_mono}
use lib.Ieee.{Float, nan, inf, fin, binary64, down, odd, of_fields, of_bits, of_int}
use lib.Ieee.Back.{round_whole}
use lib.Ieee.Fits.{down_pos}
use lib.Ieee.Exact.{HasValue, odd_sign}
use lib.Ieee.Nearest.{closest}
use Rattle.unit_nearest.specs.Doubles.{signed, within, unit_within, mant}
use Rattle.num_whole.specs.Answer.{refused}

-- ---- from a value in units of 2 ^ -1074
pub unit_of_value : (k : ℕ) (lo hi : ℤ) (v : Float) (s : Bool) (a : ℕ) → HasValue v s a (2 ^ 1074)
    → unit_within k lo hi v ≡ within lo hi (signed s (closest (a * 2 ^ k) (2 ^ 1074)))
unfolding unit_within
unit_of_value k lo hi nan s a h = elim h [ ]
unit_of_value k lo hi (inf _) s a h = elim h [ ]
unit_of_value k lo hi (fin t m e) s a h =
    ap₂ (λ (b : Bool) (n : ℕ). within lo hi (signed b (closest (n * 2 ^ k) (2 ^ 1074)))) h.0
    (ap (λ (x : ℕ). x / down e) h.1 ∙ mul-div_cancel a (down_pos e))

-- ---- from the fields of a pattern
pub unit_of_fields : (k : ℕ) (lo hi : ℤ) (s : Bool) (x t : ℕ) → eqb x 2047 ≡ false
    → unit_within k lo hi (of_fields binary64 s x t) ≡ within lo hi (signed s (closest (mant x t * 2 ^ k) (2 ^ 1074)))
unfolding of_fields
unit_of_fields k lo hi s zero t h =
    unit_of_value k lo hi (odd 53 s t 0 1074) s t (subst (λ (a : ℕ). HasValue (odd 53 s t 0 1074) s a (2 ^ 1074)) (mul-one t) (odd_sign 53 s t 0 1074))
unit_of_fields k lo hi s (suc x) t h =
    ap (λ (b : Bool). unit_within k lo hi (cond b (cond (eqb t 0) (inf s) nan) (odd 53 s (2 ^ 52 + t) x 1074))) h
    ∙ unit_of_value k lo hi (odd 53 s (2 ^ 52 + t) x 1074) s ((2 ^ 52 + t) * 2 ^ x) (odd_sign 53 s (2 ^ 52 + t) x 1074)

special : (k : ℕ) (lo hi : ℤ) (b s : Bool) → unit_within k lo hi (cond b (inf s) nan) ≡ (refused 15)
unfolding unit_within
special k lo hi true s = refl
special k lo hi false s = refl

pub unit_of_special : (k : ℕ) (lo hi : ℤ) (s : Bool) (t : ℕ) → unit_within k lo hi (of_fields binary64 s 2047 t) ≡ (refused 15)
unfolding of_fields
unit_of_special k lo hi s t = special k lo hi (eqb t 0) s

pub bits_are : (p : ℕ) → of_bits binary64 p ≡ of_fields binary64 (leb (2 ^ 63) p) (p % 2 ^ 63 / 2 ^ 52) (p % 2 ^ 52)
unfolding of_bits
bits_are p = refl

-- 2 ^ k as a double
pub up_to : (k : ℕ) → k ≤ 52 → 2 ^ k ≤ 2 ^ 53
up_to k h = le_trans (pow_mono h) (lit≤ tt)

pub power_value : (k r : ℕ) → k ≤ 52 → r ≡ 2 ^ k → HasValue (of_int binary64 (pos r)) false (2 ^ k) 1
unfolding of_int
power_value k r h e = subst (λ (n : ℕ). HasValue (of_int binary64 (pos n)) false (2 ^ k) 1) (sym e) (round_whole binary64 false (2 ^ k) (up_to k h))

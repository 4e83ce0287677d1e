-- Document 01, 'Units': "A double x becomes q, the whole number nearest to x·2^k, ties to even, with at most half a unit between q and
-- x·2^k." "All this is said in whole numbers, both sides multiplied by 2^1074, which makes one of every finite double, read from its bits."
-- Every finite double is a whole number of the smallest double, 2 ^ -1074: `size x` is that number without its sign. So x * 2 ^ k is
-- size x * 2 ^ k / 2 ^ 1074, a fraction of whole numbers.
use Rattle.std.specs.Prelude.{ℕ, zero, suc, ◌+◌, ◌*◌, ◌/◌, ◌%◌, ◌^◌, ◌≤◌, Bool, true, false, cond, ◌&&◌, ◌≡◌, ℤ, pos, negsuc, neg_ℤ, nat_abs, ◌-ℤ◌, ◌*ℤ◌, T, leb, eqb, Float, Result, Ok, Err}
use Rattle.std.specs.Int.Signed.{le_z}
use Rattle.std.specs.Float.Ieee.Scale.{finite}
use Rattle.std.specs.Float.{nan, inf, fin, binary64}
use Rattle.std.specs.Float.Ieee.{round, up, down}
use Rattle.std.specs.Float.Ieee.Nearest.{closest}
use Rattle.num_whole.specs.Answer.{Answered, given, refused}
use Rattle.unit_nearest.specs.declared.NoUnit.{NoUnit}
use Rattle.unit_nearest.specs.declared.NoUnit.TheVariants.{NotFinite, OutOfLimits}

-- ---- a double as a whole number of 2 ^ -1074
-- |x| * 2 ^ 1074, which is whole for every finite double; 0 for what is not finite
unfoldable pub size : Float → ℕ
size nan = 0
size (inf s) = 0
size (fin s m e) = m * up e * 2 ^ 1074 / down e

-- whether x is written with a minus
abbrev pub minus : Float → Bool
minus nan = false
minus (inf s) = s
minus (fin s m e) = s

-- n, or -n; there is one 0, so minus zero gives 0
abbrev pub signed : Bool → ℕ → ℤ
signed false n = pos n
signed true n = neg_ℤ (pos n)

-- x * 2 ^ 1074 with its sign
abbrev pub times1074 : Float → ℤ
times1074 x = signed (minus x) (size x)

-- ---- from a double to a unit
-- the whole number nearest to x * 2 ^ k, a tie to the even one
unfoldable pub nearest_unit : ℕ → Float → ℤ
unfolding size
nearest_unit k x = signed (minus x) (closest (size x * 2 ^ k) (2 ^ 1074))

-- q from low to high
abbrev pub fits_in : ℤ → ℤ → ℤ → Bool
fits_in low high q = le_z low q && le_z q high

-- "either one's q out of its limits": 16
abbrev pub within : ℤ → ℤ → ℤ → Answered ℤ
within low high q = cond (fits_in low high q) (given q) (refused 16)

-- "observed or computed not finite": 15
unfoldable pub unit_within : ℕ → ℤ → ℤ → Float → Answered ℤ
unfolding nearest_unit
unit_within k low high nan = refused 15
unit_within k low high (inf s) = refused 15
unit_within k low high (fin s m e) = within low high (nearest_unit k (fin s m e))

-- q is a whole number nearest to x * 2 ^ k, where X is x * 2 ^ 1074; both sides are times 2 ^ 1074: no more than a half away, and even
-- where it is just a half
pub record Nearest (k : ℕ) (X q : ℤ) : Type 0 where
  pub half : nat_abs (q *ℤ pos (2 ^ 1074) -ℤ X *ℤ pos (2 ^ k)) * 2 ≤ 2 ^ 1074
  pub even : nat_abs (q *ℤ pos (2 ^ 1074) -ℤ X *ℤ pos (2 ^ k)) * 2 ≡ 2 ^ 1074 → nat_abs q % 2 ≡ 0

-- ---- from a unit to a double
-- the double nearest to q / 2 ^ k; that it is exact is a law
unfoldable pub quotient : ℕ → ℤ → Float
unfolding round
quotient k (pos n) = round binary64 false n (2 ^ k)
quotient k (negsuc n) = round binary64 true (suc n) (2 ^ k)

-- x is q / 2 ^ k, with nothing lost: x * 2 ^ 1074 * 2 ^ k is q * 2 ^ 1074
pub record Exactly (k : ℕ) (q : ℤ) (x : Float) : Type 0 where
  pub number : T (finite x)
  pub same : times1074 x *ℤ pos (2 ^ k) ≡ q *ℤ pos (2 ^ 1074)

-- ---- the same by the pattern's bits alone, with no float in it. 02, #104: "Work from the sign, exponent and fraction bits instead, subnormals
-- included." IEEE 754, 3.4, has three fields in the 64 bits of binary64: the sign S, 1 bit; the biased exponent E, 11 bits; and the trailing
-- significand T, 52 bits, here the fraction.
abbrev pub negative : ℕ → Bool
negative p = leb (2 ^ 63) p

abbrev pub field_of : ℕ → ℕ
field_of p = p % 2 ^ 63 / 2 ^ 52

abbrev pub fraction_of : ℕ → ℕ
fraction_of p = p % 2 ^ 52

-- IEEE 754, 3.4: the exponent's field has "the reserved value 0 to encode ±0 and subnormal numbers", "every integer between 1 and 2^w − 2" for
-- normal numbers, whose leading bit is implicit, and "the reserved value 2^w − 1 to encode ±∞ and NaNs". So the digits of a number are its
-- fraction, with the hidden bit before it where the number is normal.
abbrev pub hidden : ℕ → ℕ
hidden zero = 0
hidden (suc x) = 2 ^ 52

-- |x| * 2 ^ 1074 by the exponent's field and the fraction: the digits times a power of two, which is 1 for the fields 0 and 1 alike
abbrev pub mant : ℕ → ℕ → ℕ
mant zero t = t
mant (suc x) t = (2 ^ 52 + t) * 2 ^ x

-- x * 2 ^ 1074 by the bits
abbrev pub whole_bits : ℕ → ℤ
whole_bits p = signed (negative p) (mant (field_of p) (fraction_of p))

unfoldable pub pattern_unit : ℕ → ℤ → ℤ → ℕ → Answered ℤ
pattern_unit k low high p =
    cond (eqb (field_of p) 2047) (refused 15)
    (within low high (signed (negative p) (closest (mant (field_of p) (fraction_of p) * 2 ^ k) (2 ^ 1074))))

-- what the answer says
abbrev pub told_nearest : Result ℤ NoUnit → Answered ℤ
told_nearest (Ok q) = given q
told_nearest (Err NotFinite) = refused 15
told_nearest (Err OutOfLimits) = refused 16

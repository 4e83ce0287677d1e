-- What `unitWithin` promises: `nearestUnit k x` is a whole number nearest to x * 2 ^ k, even at a tie, and there is one such number. Assumes nothing.
use mathlib.Core.Path.{◌≡◌, refl, sym, ap, ap₂, ◌∙◌, subst}
use Prim.Native.Nat.{ℕ, zero, suc, ◌+◌, ◌-◌, ◌*◌, ◌/◌, ◌%◌, ◌^◌, ◌≤◌, ◌<◌}
use native.Mathlib.Nat.{lt_irrefl, mul-le-mul_right, one-mul, mul-one, mul-div_cancel}
use native.Mathlib.Omega.{arith}
use mathlib.Core.Bool.{Bool, true, false, cond, ◌&&◌}
use lib.IntN.{ℤ, pos, negsuc, nat_abs, ◌-ℤ◌, ◌*ℤ◌, +ℤ_invr}
use lib.Pow.{pow_pos}
use lib.Dec.{T, lit≤, eqb}
use lib.Ieee.{binary64, of_bits, of_fields, odd, down, nan, inf, fin, Float}
use lib.Ieee.Fits.{down_pos}
use lib.Ieee.Exact.{HasValue, odd_sign}
use borrow.Author.Tests.{eqb-true, ne_eqb}
use Rattle.num_whole.specs.Answer.{Answered, given, refused}
use lib.Signed.{le_z}
use lib.Ieee.Bits.{is_true}
use Rattle.num_whole.proofs.Cases.{refused_not}
use Rattle.unit_nearest.specs.Doubles.{mant, negative, field_of, fraction_of, whole_bits, pattern_unit, size, minus, signed, times1074, nearest_unit, Nearest, within, unit_within, Exactly}
use Rattle.unit_nearest.proofs.Values.{bits_are, unit_of_fields, unit_of_special}
use lib.Ieee.Scale.{finite}
use lib.Ieee.Nearest.{closest}
use Rattle.unit_nearest.proofs.Near.{Near, near, unique}
use Rattle.unit_nearest.proofs.Laws.{either}
use Rattle.unit_nearest.proofs.Signs.{abs_signed, times, apart, sub_abs}

-- the distance of two numbers of one sign, each times a power of two
distance : (s : Bool) (n b m c : ℕ) → nat_abs (signed s n *ℤ pos b -ℤ signed s m *ℤ pos c) ≡ n * b - m * c + (m * c - n * b)
distance s n b m c = ap₂ (λ (x y : ℤ). nat_abs (x -ℤ y)) (times s n b) (times s m c) ∙ apart s (n * b) (m * c)

half_of : (a b n : ℕ) → Near a b n → (n * b - a + (a - n * b)) * 2 ≤ b
half_of a b n h = omega (arith, h.lo, h.hi)

even_of : (a b n : ℕ) → Near a b n → (n * b - a + (a - n * b)) * 2 ≡ b → n % 2 ≡ 0
even_of a b n h t = either (n * b) a (λ l. h.even_hi (omega arith)) (λ l. h.even_lo (omega arith))

-- the claim in whole numbers, of the answer
pub nearest_unit_lem : (k : ℕ) (x : Float) → Nearest k (times1074 x) (nearest_unit k x)
unfolding nearest_unit
nearest_unit_lem k x =
    let n = closest (size x * 2 ^ k) (2 ^ 1074) in
    let h = near (size x * 2 ^ k) (2 ^ 1074) (pow_pos 1074) in
    let d = distance (minus x) n (2 ^ 1074) (size x) (2 ^ k) in
    record {
      half = subst (λ (z : ℕ). z * 2 ≤ 2 ^ 1074) (sym d) (half_of (size x * 2 ^ k) (2 ^ 1074) n h);
      even = λ t. ap (λ (z : ℕ). z % 2) (abs_signed (minus x) n) ∙ even_of (size x * 2 ^ k) (2 ^ 1074) n h (sym (ap (λ (z : ℕ). z * 2) d) ∙ t);
    }

-- ---- there is one such number
-- of two numbers of unlike signs
across : (a b : ℕ) → nat_abs (pos a -ℤ signed true b) ≡ a + b
across a zero = omega arith
across a (suc b) = refl

across' : (a b : ℕ) → nat_abs (signed true a -ℤ pos b) ≡ a + b
across' zero zero = refl
across' zero (suc b) = sub_abs 0 (suc b) ∙ omega arith
across' (suc a) zero = sub_abs 0 (suc a) ∙ omega arith
across' (suc a) (suc b) = omega arith

-- no number but 0 with the other sign is within a half
none : (n b d : ℕ) → 0 < b → (suc n * b + d) * 2 ≤ b → ⊥
none n b d p h = let g : 1 * b ≤ suc n * b = mul-le-mul_right b (omega arith) in omega (arith, one-mul b)

from_half : (a b n : ℕ) → 0 < b → (n * b - a + (a - n * b)) * 2 ≤ b → ((n * b - a + (a - n * b)) * 2 ≡ b → n % 2 ≡ 0) → Near a b n
from_half a b n p h e = record { lo = omega arith; hi = omega arith; even_lo = λ t. e (omega arith); even_hi = λ t. e (omega arith) }

module _ (B K : ℕ) (p : 0 < B) where
  -- q against the number of sign s and size m
  one : (s : Bool) (m : ℕ) (q : ℤ) → nat_abs (q *ℤ pos B -ℤ signed s m *ℤ pos K) * 2 ≤ B
      → (nat_abs (q *ℤ pos B -ℤ signed s m *ℤ pos K) * 2 ≡ B → nat_abs q % 2 ≡ 0) → q ≡ signed s (closest (m * K) B)
  one false m (pos n) h e =
      let d = distance false n B m K in
      ap pos (unique (m * K) B n (closest (m * K) B) p (from_half (m * K) B n p (subst (λ (z : ℕ). z * 2 ≤ B) d h) (λ t. e (ap (λ (z : ℕ). z * 2) d ∙ t))) (near (m * K) B p))
  one true m (negsuc n) h e =
      let d = distance true (suc n) B m K in
      ap (λ (z : ℕ). signed true z)
      (unique (m * K) B (suc n) (closest (m * K) B) p (from_half (m * K) B (suc n) p (subst (λ (z : ℕ). z * 2 ≤ B) d h) (λ t. e (ap (λ (z : ℕ). z * 2) d ∙ t))) (near (m * K) B p))
  one true m (pos zero) h e =
      let d = distance true 0 B m K in
      ap (λ (z : ℕ). signed true z)
      (unique (m * K) B 0 (closest (m * K) B) p (from_half (m * K) B 0 p (subst (λ (z : ℕ). z * 2 ≤ B) d h) (λ t. refl)) (near (m * K) B p))
  one true m (pos (suc n)) h e =
      absurd (none n B (m * K) p (subst (λ (z : ℕ). z * 2 ≤ B) (ap (λ (z : ℤ). nat_abs (pos (suc n * B) -ℤ z)) (times true m K) ∙ across (suc n * B) (m * K)) h))
  one false m (negsuc n) h e =
      absurd (none n B (m * K) p (subst (λ (z : ℕ). z * 2 ≤ B) (across' (suc n * B) (m * K)) h))

pub only_unit : (k : ℕ) (x : Float) (q : ℤ) → Nearest k (times1074 x) q → q ≡ nearest_unit k x
unfolding nearest_unit
only_unit k x q h = one (2 ^ 1074) (2 ^ k) (pow_pos 1074) (minus x) (size x) q h.half h.even

-- ---- the round trip
no_distance : (z w : ℤ) → z ≡ w → nat_abs (w -ℤ z) ≡ 0
no_distance z w e = ap (λ (v : ℤ). nat_abs (w -ℤ v)) e ∙ ap nat_abs (+ℤ_invr w)

exact_is_near : (k : ℕ) (q : ℤ) (x : Float) → Exactly k q x → Nearest k (times1074 x) q
exact_is_near k q x h =
    let d = no_distance (times1074 x *ℤ pos (2 ^ k)) (q *ℤ pos (2 ^ 1074)) h.same in
    record {
      half = subst (λ (z : ℕ). z * 2 ≤ 2 ^ 1074) (sym d) (lit≤ tt);
      even = λ t. absurd (lt_irrefl 0 (subst (λ (z : ℕ). 0 < z) (sym t ∙ ap (λ (z : ℕ). z * 2) d) (pow_pos 1074)));
    }

finite_unit : (k : ℕ) (lo hi : ℤ) (x : Float) → T (finite x) → unit_within k lo hi x ≡ within lo hi (nearest_unit k x)
unfolding unit_within
finite_unit k lo hi nan t = elim t [ ]
finite_unit k lo hi (inf _) t = elim t [ ]
finite_unit k lo hi (fin s m e) t = refl

pub round_trip : (k : ℕ) (lo hi q : ℤ) (x : Float) → Exactly k q x → unit_within k lo hi x ≡ within lo hi q
round_trip k lo hi q x h = finite_unit k lo hi x h.number ∙ ap (λ (z : ℤ). within lo hi z) (sym (only_unit k x q (exact_is_near k q x h)))

-- ---- the reading of a pattern's bits
value_size : (v : Float) (s : Bool) (a : ℕ) → HasValue v s a (2 ^ 1074) → times1074 v ≡ signed s a
unfolding size
value_size nan s a h = elim h [ ]
value_size (inf _) s a h = elim h [ ]
value_size (fin t m e) s a h = ap₂ (λ (b : Bool) (n : ℕ). signed b n) h.0 (ap (λ (x : ℕ). x / down e) h.1 ∙ mul-div_cancel a (down_pos e))

fields_size : (s : Bool) (x t : ℕ) → eqb x 2047 ≡ false → times1074 (of_fields binary64 s x t) ≡ signed s (mant x t)
unfolding of_fields
fields_size s zero t h = value_size (odd 53 s t 0 1074) s t (subst (λ (a : ℕ). HasValue (odd 53 s t 0 1074) s a (2 ^ 1074)) (mul-one t) (odd_sign 53 s t 0 1074))
fields_size s (suc x) t h =
    ap (λ (b : Bool). times1074 (cond b (cond (eqb t 0) (inf s) nan) (odd 53 s (2 ^ 52 + t) x 1074))) h
    ∙ value_size (odd 53 s (2 ^ 52 + t) x 1074) s ((2 ^ 52 + t) * 2 ^ x) (odd_sign 53 s (2 ^ 52 + t) x 1074)

pub times1074_bits : (p : ℕ) → eqb (field_of p) 2047 ≡ false → times1074 (of_bits binary64 p) ≡ whole_bits p
times1074_bits p h = ap times1074 (bits_are p) ∙ fields_size (negative p) (field_of p) (fraction_of p) h

pub unit_bits : (k : ℕ) (lo hi : ℤ) (p : ℕ) → unit_within k lo hi (of_bits binary64 p) ≡ pattern_unit k lo hi p
unfolding pattern_unit
unit_bits k lo hi p = ap (λ (x : Float). unit_within k lo hi x) (bits_are p) ∙ go (eqb (field_of p) 2047) refl
  where
    go : (b : Bool) → eqb (field_of p) 2047 ≡ b
        → unit_within k lo hi (of_fields binary64 (negative p) (field_of p) (fraction_of p)) ≡ cond b (refused 15) (within lo hi (signed (negative p) (closest (mant (field_of p) (fraction_of p) * 2 ^ k) (2 ^ 1074))))
    go true h = ap (λ (x : ℕ). unit_within k lo hi (of_fields binary64 (negative p) x (fraction_of p))) (eqb-true (field_of p) 2047 h) ∙ unit_of_special k lo hi (negative p) (fraction_of p)
    go false h = unit_of_fields k lo hi (negative p) (field_of p) (fraction_of p) h

-- ---- what an answer says
-- a number was answered: it is the nearest, and within the limits
picked : (b : Bool) (n q : ℤ) → cond b (given n) (refused 16) ≡ given q → (T b) × (n ≡ q)
picked true n q h = (tt, cc)
picked false n q h = absurd (let z : ◌≡◌ {A = ℕ} 0 1 = cc in omega arith)

pub answered : (k : ℕ) (lo hi : ℤ) (x : Float) (q : ℤ) → unit_within k lo hi x ≡ given q → Nearest k (times1074 x) q × T (le_z lo q && le_z q hi)
unfolding unit_within
answered k lo hi nan q h = absurd (refused_not refl h)
answered k lo hi (inf s) q h = absurd (refused_not refl h)
answered k lo hi (fin s m e) q h =
    let n = nearest_unit k (fin s m e) in
    let r = picked (le_z lo n && le_z n hi) n q h in
    (subst (λ (z : ℤ). Nearest k (times1074 (fin s m e)) z) r.1 (nearest_unit_lem k (fin s m e)), subst (λ (z : ℤ). T (le_z lo z && le_z z hi)) r.1 r.0)

-- and the other way: the nearest number, where it is within the limits, is answered
pub answers : (k : ℕ) (lo hi : ℤ) (x : Float) (q : ℤ) → T (finite x) → Nearest k (times1074 x) q → T (le_z lo q && le_z q hi) → unit_within k lo hi x ≡ given q
answers k lo hi x q f h t =
    finite_unit k lo hi x f ∙ ap (λ (z : ℤ). within lo hi z) (sym (only_unit k x q h)) ∙ ap (λ (b : Bool). cond b (given q) (refused 16)) (is_true (le_z lo q && le_z q hi) t)

-- of a pattern, with no float in the statement
not_special : (k : ℕ) (lo hi : ℤ) (p : ℕ) (q : ℤ) → pattern_unit k lo hi p ≡ given q → eqb (field_of p) 2047 ≡ false
unfolding pattern_unit
not_special k lo hi p q h =
    go (eqb (field_of p) 2047) (within lo hi (signed (negative p) (closest (mant (field_of p) (fraction_of p) * 2 ^ k) (2 ^ 1074)))) h
  where
    go : (b : Bool) (a : Answered ℤ) → cond b (refused 15) a ≡ given q → b ≡ false
    go true a h = absurd (refused_not refl h)
    go false a h = refl

pub answered_bits : (k : ℕ) (lo hi : ℤ) (p : ℕ) (q : ℤ) → pattern_unit k lo hi p ≡ given q → Nearest k (whole_bits p) q × T (le_z lo q && le_z q hi)
answered_bits k lo hi p q h =
    let r = answered k lo hi (of_bits binary64 p) q (unit_bits k lo hi p ∙ h) in
    (subst (λ (X : ℤ). Nearest k X q) (times1074_bits p (not_special k lo hi p q h)) r.0, r.1)

-- ---- a double written back, by its bits
special_not_finite : (s : Bool) (t : ℕ) → T (finite (of_fields binary64 s 2047 t)) → ⊥
unfolding of_fields
special_not_finite s t = go (eqb t 0)
  where
    go : (b : Bool) → T (finite (cond b (inf s) nan)) → ⊥
    go true f = f
    go false f = f

finite_field : (p : ℕ) → T (finite (of_bits binary64 p)) → eqb (field_of p) 2047 ≡ false
finite_field p f =
    ne_eqb (field_of p) 2047
    (λ h. special_not_finite (negative p) (fraction_of p)
    (subst (λ (x : ℕ). T (finite (of_fields binary64 (negative p) x (fraction_of p)))) h (subst (λ (x : Float). T (finite x)) (bits_are p) f)))

-- a number's unit by the fields of its pattern
pub number_bits : (k : ℕ) (lo hi : ℤ) (p : ℕ) → T (finite (of_bits binary64 p))
    → unit_within k lo hi (of_bits binary64 p) ≡ within lo hi (signed (negative p) (closest (mant (field_of p) (fraction_of p) * 2 ^ k) (2 ^ 1074)))
number_bits k lo hi p f = ap (λ (x : Float). unit_within k lo hi x) (bits_are p) ∙ unit_of_fields k lo hi (negative p) (field_of p) (fraction_of p) (finite_field p f)

pub exact_bits : (k : ℕ) (q : ℤ) (p : ℕ) → Exactly k q (of_bits binary64 p) → whole_bits p *ℤ pos (2 ^ k) ≡ q *ℤ pos (2 ^ 1074)
exact_bits k q p h = ap (λ (X : ℤ). X *ℤ pos (2 ^ k)) (sym (times1074_bits p (finite_field p h.number))) ∙ h.same

pub round_trip_bits : (k : ℕ) (lo hi q : ℤ) (p : ℕ) → Exactly k q (of_bits binary64 p) → pattern_unit k lo hi p ≡ within lo hi q
round_trip_bits k lo hi q p h = sym (unit_bits k lo hi p) ∙ round_trip k lo hi q (of_bits binary64 p) h

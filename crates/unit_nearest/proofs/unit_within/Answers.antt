-- `unit_nearest::unit_within` meets its contract: a number is the double of its own bits, and its unit is told by their fields. Assumes nothing.
use mathlib.Core.Path.{◌≡◌, sym, ap, ◌∙◌, subst}
use Prim.Native.Nat.{ℕ, ◌*◌, ◌^◌, ◌≤◌, ◌<◌}
use mathlib.Core.Bool.{Bool, true, false}
use lib.Dec.{T}
use lib.IntN.{ℤ, nat_abs}
use lib.Ieee.{Float, binary64, fits, to_bits}
use lib.Ieee.Bits.{of_bits-to_bits}
use lib.Ieee.Scale.{finite}
use lib.Ieee.Nearest.{closest}
use mir.Facts.{to_z-of_z}
use Rattle.unit_nearest.specs.Doubles.{signed, mant, unit_within}
use Rattle.unit_nearest.specs.Steps.{fields_of, fields_unit}
use Rattle.unit_nearest.specs.declared.Fields.{Fields}
use Rattle.unit_nearest.proofs.Claims.{number_bits}
use Rattle.unit_nearest.proofs.Signs.{limits_handed}
use Rattle.unit_nearest.proofs.Steps.{field_small, fraction_small, not_finite, a_number}
use Rattle.unit_nearest.proofs.unit_within.Goals as goal

-- the unit before its limits
abbrev unit_of : ℕ → Fields → ℤ
unit_of k f = signed f.negative (closest (mant f.exponent f.fraction * 2 ^ k) (2 ^ 1074))

-- what the test says of the double
told : (x : Float) (r t : Bool) → r ≡ finite x → r ≡ t → finite x ≡ t
told x r t e h = sym e ∙ h

by_bits : (k : ℕ) (lo hi : ℤ) (x : Float) → T (fits binary64 x) → finite x ≡ true → fields_unit k lo hi (fields_of (to_bits binary64 x)) ≡ unit_within k lo hi x
by_bits k lo hi x g h =
    let e = of_bits-to_bits binary64 x g in
    sym (number_bits k lo hi (to_bits binary64 x) (subst (λ (y : Float). T (finite y)) (sym e) (subst T (sym h) tt))) ∙ ap (λ (y : Float). unit_within k lo hi y) e

pub float_to_bits-x : goal.float_to_bits-x
float_to_bits-x c = a_number c.args.x (told c.args.x c.is_finite.result true c.is_finite.ensures c.if-is_finite.true)

pub fields_unit-requires : goal.fields_unit-requires
fields_unit-requires c =
    let p = to_bits binary64 c.args.x in
    let e = c.fields_of-f.ensures in (
      subst (λ (f : Fields). f.exponent < 2048) (sym e) (field_small p),
      subst (λ (f : Fields). f.fraction < 2 ^ 52) (sym e) (fraction_small p),
      c.requires.0,
      subst (λ (z : ℤ). nat_abs z ≤ 2 ^ 40) (sym (to_z-of_z c.ranges.low)) c.requires.1,
      subst (λ (z : ℤ). nat_abs z ≤ 2 ^ 40) (sym (to_z-of_z c.ranges.high)) c.requires.2,
    )

pub returns-then-is_finite : goal.returns-then-is_finite
returns-then-is_finite c =
    let a = c.args in
    c.fields_unit.ensures
    ∙ limits_handed a.low a.high (unit_of a.k c.fields_of-f.result) c.ranges.low c.ranges.high
    ∙ ap (λ (f : Fields). fields_unit a.k a.low a.high f) c.fields_of-f.ensures
    ∙ by_bits a.k a.low a.high a.x (subst T (sym c.well_formed.0.1) tt) (told a.x c.is_finite.result true c.is_finite.ensures c.if-is_finite.true)

pub returns : goal.returns
returns c =
    let a = c.args in
    not_finite a.k a.low a.high a.x (told a.x c.is_finite.result false c.is_finite.ensures c.if-is_finite.false)

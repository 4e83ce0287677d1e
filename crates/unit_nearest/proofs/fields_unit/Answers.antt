-- `unit_nearest::fields_unit` meets its contract: `of-subnormal` and `of-normal`. Assumes nothing.
use mathlib.Core.Path.{◌≡◌, sym, ap, ◌∙◌, subst}
use Prim.Native.Nat.{ℕ, ◌+◌, ◌-◌, ◌*◌, ◌^◌, ◌≤◌}
use native.Mathlib.Omega.{arith}
use lib.IntN.{ℤ, nat_abs}
use lib.Ieee.Nearest.{closest}
use mir.Facts.{to_z-of_z}
use Rattle.unit_nearest.specs.Doubles.{signed, within, hidden}
use Rattle.unit_nearest.proofs.Signs.{limits_handed}
use Rattle.unit_nearest.proofs.Steps.{hidden_set, of_subnormal, of_normal}
use Rattle.unit_nearest.proofs.fields_unit.Goals as goal

-- with the hidden bit the digits are from 2 ^ 52 on
full : (d x t : ℕ) → d ≡ hidden x + t → (x ≡ 0 → ⊥) → 2 ^ 52 ≤ d
full d x t e n = omega (arith, hidden_set x n)

pub returns-then-f-eq0 : goal.returns-then-f-eq0
returns-then-f-eq0 c =
    let a = c.args in
    let f = a.f in
    c.shifted_unit.ensures
    ∙ limits_handed a.low a.high (signed f.negative (closest c.digits_of.result (2 ^ (1074 - a.k)))) c.ranges.low c.ranges.high
    ∙ ap (λ (n : ℕ). within a.low a.high (signed f.negative n))
    (ap (λ (d : ℕ). closest d (2 ^ (1074 - a.k))) c.digits_of.ensures.is ∙ of_subnormal f.exponent f.fraction a.k c.if-f-eq0.true c.requires.2)

pub placed_unit-requires : goal.placed_unit-requires
placed_unit-requires c =
    let f = c.args.f in (
      full c.digits_of-2.result f.exponent f.fraction c.digits_of-2.ensures.is c.if-f-eq0.false,
      c.digits_of-2.ensures.few,
      subst (λ (z : ℤ). nat_abs z ≤ 2 ^ 40) (sym (to_z-of_z c.ranges.low)) c.requires.3,
      subst (λ (z : ℤ). nat_abs z ≤ 2 ^ 40) (sym (to_z-of_z c.ranges.high)) c.requires.4,
    )

pub returns : goal.returns
returns c =
    let a = c.args in
    let f = a.f in
    c.placed_unit.ensures
    ∙ limits_handed a.low a.high (signed f.negative (closest (c.digits_of-2.result * 2 ^ (f.exponent + a.k)) (2 ^ 1075))) c.ranges.low c.ranges.high
    ∙ ap (λ (n : ℕ). within a.low a.high (signed f.negative n))
    (ap (λ (d : ℕ). closest (d * 2 ^ (f.exponent + a.k)) (2 ^ 1075)) c.digits_of-2.ensures.is ∙ of_normal f.exponent f.fraction a.k c.if-f-eq0.false)

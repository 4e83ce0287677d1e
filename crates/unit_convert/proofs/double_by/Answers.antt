-- `unit_convert::double_by` meets its contract: a unit within the limits is small enough for the division to be exact.
use Prim.Native.Nat.{◌^◌, ◌≤◌, ◌<◌}
use native.Mathlib.Omega.{arith}
use mathlib.Core.Path.{refl, sym, ap, ◌∙◌, subst}
use lib.IntN.{nat_abs}
use mir.Facts.{to_z-of_z}
use Rattle.num_whole.specs.Answer.{given}
use Rattle.num_whole.proofs.Cases.{yes, no}
use Rattle.unit_nearest.specs.Doubles.{fits_in, quotient}
use Rattle.unit_turn.specs.Turning.{top_of}
use Rattle.unit_turn.proofs.Limits.{within_limits, top_small}
use Rattle.unit_convert.proofs.double_by.Goals as goal

pub double_of-requires : goal.double_of-requires
double_of-requires c =
    let r = c.args.row in
    let z = to_z-of_z c.ranges.q in
    let t = ap (λ z. fits_in r.low (top_of r) z) (sym z) ∙ sym c.allowed.ensures ∙ c.if-allowed.true in
    let h : nat_abs c.args.q ≤ 2 ^ 40 = within_limits r.low (top_of r) c.args.q t c.requires.low (top_small r c.requires) in
    (subst (λ z. nat_abs z < 2 ^ 53) (sym z) (omega arith), c.requires.scale)

pub returns-then-allowed : goal.returns-then-allowed
returns-then-allowed c =
    let r = c.args.row in
    let z = to_z-of_z c.ranges.q in
    yes _ _ _ (ap (λ z. fits_in r.low (top_of r) z) (sym z) ∙ sym c.allowed.ensures ∙ c.if-allowed.true)
    (ap given (c.double_of.ensures ∙ ap (λ z. quotient r.k z) z))

pub returns-else-allowed : goal.returns-else-allowed
returns-else-allowed c =
    let r = c.args.row in
    let z = to_z-of_z c.ranges.q in
    no _ _ _ (ap (λ z. fits_in r.low (top_of r) z) (sym z) ∙ sym c.allowed.ensures ∙ c.if-allowed.false) refl

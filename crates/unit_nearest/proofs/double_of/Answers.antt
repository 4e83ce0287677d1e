-- `unit_nearest::double_of` meets its contract. Assumes nothing.
use mathlib.Core.Path.{sym, ap, ◌∙◌, subst}
use Prim.Native.Nat.{ℕ, ◌^◌}
use lib.Dec.{T, leb, le→leb}
use lib.IntN.{ℤ, pos}
use lib.Ieee.{binary64, of_int, in_float, div}
use mir.Facts.{to_z-of_z}
use Rattle.unit_nearest.proofs.Values.{up_to, power_value}
use Rattle.unit_nearest.proofs.Back.{in_float_lem, quotient_is}
use Rattle.unit_nearest.proofs.double_of.Goals as goal

pub int_to_float-result : goal.int_to_float-result
int_to_float-result c = subst (λ (z : ℤ). T (in_float binary64 z)) (sym (to_z-of_z c.ranges.q)) (in_float_lem c.args.q c.requires.0)

pub int_to_float-result-2 : goal.int_to_float-result-2
unfolding in_float
int_to_float-result-2 c =
    subst (λ (n : ℕ). T (leb n (2 ^ 53))) (sym c.power.ensures) (le→leb (2 ^ c.args.k) (2 ^ 53) (up_to c.args.k c.requires.1))

pub returns : goal.returns
returns c =
    let r = c.power.result in
    ap (λ (z : ℤ). div binary64 (of_int binary64 z) (of_int binary64 (pos r))) (to_z-of_z c.ranges.q)
    ∙ quotient_is c.args.k c.args.q (of_int binary64 (pos r)) c.requires.0 (power_value c.args.k r c.requires.1 c.power.ensures)

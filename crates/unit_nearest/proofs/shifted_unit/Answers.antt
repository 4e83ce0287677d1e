-- `unit_nearest::shifted_unit` meets its contract: its three callees, one after the other. Assumes nothing.
use mathlib.Core.Path.{ap, ◌∙◌}
use Prim.Native.Nat.{ℕ}
use lib.IntN.{ℤ}
use Rattle.unit_nearest.specs.Doubles.{signed, within}
use Rattle.unit_nearest.proofs.Signs.{handed}
use Rattle.unit_nearest.proofs.shifted_unit.Goals as goal

pub returns : goal.returns
returns c =
    let a = c.args in
    c.limited.ensures
    ∙ handed a.low a.high c.signed_of.result c.ranges.low c.ranges.high (record { sfits = c.signed_of.type_inv })
    ∙ ap (λ (q : ℤ). within a.low a.high q) (c.signed_of.ensures ∙ ap (λ (n : ℕ). signed a.negative n) c.shifted.ensures.is)

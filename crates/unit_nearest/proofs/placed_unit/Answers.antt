-- `unit_nearest::placed_unit` meets its contract: past 1075 the number is out of all limits, else 2 ^ place is taken out of the fraction. Assumes nothing.
use mathlib.Core.Path.{◌≡◌, sym, ap, ◌∙◌}
use Prim.Native.Nat.{ℕ, ◌+◌, ◌-◌, ◌*◌, ◌^◌, ◌≤◌, ◌<◌}
use native.Mathlib.Nat.{le_of_lt, lt_of_lt_of_le}
use native.Mathlib.Omega.{arith}
use lib.Dec.{lit<}
use lib.Ieee.Nearest.{closest}
use Rattle.unit_nearest.specs.Doubles.{signed, within}
use Rattle.unit_nearest.proofs.Signs.{outside, limits_handed}
use Rattle.unit_nearest.proofs.Steps.{lowered, too_large}
use Rattle.unit_nearest.proofs.placed_unit.Goals as goal

whole : (p : ℕ) → p ≤ 1075 → p + (1075 - p) ≡ 1075
whole p h = omega arith

pub returns-then-place-gt1075 : goal.returns-then-place-gt1075
returns-then-place-gt1075 c =
    let a = c.args in
    sym (outside a.low a.high a.negative (closest (a.digits * 2 ^ a.place) (2 ^ 1075)) (2 ^ 40) c.requires.2 c.requires.3
    (lt_of_lt_of_le (lit< tt) (too_large a.digits a.place 1075 c.requires.0 (le_of_lt c.if-place-gt1075.true))))

pub returns : goal.returns
returns c =
    let a = c.args in
    c.shifted_unit.ensures
    ∙ limits_handed a.low a.high (signed a.negative (closest a.digits (2 ^ (1075 - a.place)))) c.ranges.low c.ranges.high
    ∙ ap (λ (n : ℕ). within a.low a.high (signed a.negative n)) (lowered a.digits a.place (1075 - a.place) 1075 (whole a.place c.if-place-gt1075.false))

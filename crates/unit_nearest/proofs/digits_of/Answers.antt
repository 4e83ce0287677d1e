-- `unit_nearest::digits_of` meets its contract: the hidden bit stands before the 52 bits of the fraction. Assumes nothing.
use mathlib.Core.Path.{◌≡◌, ap}
use Prim.Native.Nat.{ℕ, ◌+◌, ◌^◌, ◌<◌}
use native.Mathlib.Omega.{arith}
use Rattle.unit_nearest.specs.Doubles.{hidden}
use Rattle.unit_nearest.proofs.Steps.{hidden_most}
use Rattle.unit_nearest.proofs.digits_of.Goals as goal

below : (h x t : ℕ) → h ≡ hidden x → t < 2 ^ 52 → h + t < 2 ^ 53
below h x t e l = omega (arith, hidden_most x)

pub overflow_add-result : goal.overflow_add-result
overflow_add-result c =
    let f = c.args.f in
    record { fits = omega (arith, below c.hidden_bit.result f.exponent f.fraction c.hidden_bit.ensures c.requires) }

pub returns : goal.returns
returns c =
    let f = c.args.f in record {
      is = ap (λ (h : ℕ). h + f.fraction) c.hidden_bit.ensures;
      few = below c.hidden_bit.result f.exponent f.fraction c.hidden_bit.ensures c.requires;
    }

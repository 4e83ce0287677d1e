-- `take_rules::weight` meets its contract.
use native.Mathlib.Omega.{arith}
use mathlib.Core.Path.{◌≡◌, sym, subst}
use Prim.Native.Nat.{ℕ, ◌*◌, ◌≤◌}
use native.Mathlib.Nat.{mul-le-mul, mul-pos, div-le_self, mod-lt}
use Rattle.num_limits.specs.Capacities.{sigma_most, weight_top}
use Rattle.take_rules.specs.Rules.{nearest_quotient, weight_of}
use Rattle.take_rules.proofs.Weights.{rounds_up, rounds_down, weight_high}
use Rattle.take_rules.proofs.weight.Goals as goal

-- what is given is the weight, and so at most the greatest
given : (s r : ℕ) → 1 ≤ s → s ≤ sigma_most → nearest_quotient weight_top (s * s) ≡ r → (r ≡ weight_of s) × (r ≤ weight_top)
unfolding weight_of
given s r some few e = (sym e, subst (λ n. n ≤ weight_top) e (weight_high s some few))

pub overflow_mul-square : goal.overflow_mul-square
overflow_mul-square c = omega (arith, mul-le-mul c.requires.1 c.requires.1)

pub nonzero_div-down : goal.nonzero_div-down
nonzero_div-down c = mul-pos c.requires.0 c.requires.0

pub nonzero_rem-square : goal.nonzero_rem-square
nonzero_rem-square c = mul-pos c.requires.0 c.requires.0

pub overflow_mul-square-2 : goal.overflow_mul-square-2
overflow_mul-square-2 c = omega (arith, mod-lt weight_top (mul-pos c.requires.0 c.requires.0), mul-le-mul c.requires.1 c.requires.1)

pub overflow_add-result : goal.overflow_add-result
overflow_add-result c = omega (arith, div-le_self weight_top (c.args.s * c.args.s))

pub returns-then-square : goal.returns-then-square
returns-then-square c =
    let s = c.args.s in
    given s _ c.requires.0 c.requires.1 (rounds_up weight_top (s * s) c.if-square.true)

pub returns-else-square : goal.returns-else-square
returns-else-square c =
    let s = c.args.s in
    given s _ c.requires.0 c.requires.1 (rounds_down weight_top (s * s) (omega arith))

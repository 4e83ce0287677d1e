-- `take_judge::terms_of` meets its contract: every number fits the machine's.
use mathlib.Core.Path.{◌≡◌, ap, ap₂, ◌∙◌}
use native.Mathlib.Omega.{arith}
use Prim.Native.Nat.{◌*◌, ◌≤◌, ◌^◌}
use native.Mathlib.Nat.{mul-le-mul}
use lib.IntN.{pos, nat_abs, ◌*ℤ◌}
use mir.Syntax.{w64}
use mir.Val.{to_z, of_z}
use mir.ValLaws.{to_z-of_z, to_z_pos}
use Rattle.num_whole.proofs.Ints.{within_fits, nat_abs_*}
use Rattle.take_rules.specs.Rules.{weight_of}
use Rattle.take_rules.proofs.Bounds.{weighted_bound, square_bound}
use Rattle.take_judge.specs.Judged.{terms_by}
use Rattle.take_judge.proofs.Late.{scaled_fits}
use Rattle.take_judge.proofs.terms_of.Lts
use Rattle.take_judge.proofs.terms_of.Reads
use Rattle.take_judge.proofs.terms_of.Tie
use Rattle.take_judge.proofs.terms_of.Goals as goal

-- the facts known at one place of the code
abbrev At-After-weight-w : Type 0
At-After-weight-w = Lts.After-weight Tie.the-claims Reads.Pre Reads.Post Tie.handed_clauses

-- the facts known at one place of the code
abbrev At-After-magnitude-size : Type 0
At-After-magnitude-size = Lts.After-magnitude Tie.the-claims Reads.Pre Reads.Post Tie.handed_clauses

-- the scaled residual fits
scaled : (c : At-After-weight-w) → let a = c.args in to_z w64 (of_z w64 a.residual) *ℤ to_z w64 a.factor ≡ a.residual *ℤ pos a.factor
scaled c =
    ap₂ (λ x y. x *ℤ y) (to_z-of_z w64 c.args.residual c.ranges.residual) (to_z_pos w64 c.args.factor (omega (arith, c.requires.le_sigma.2)))

pub overflow_mul-scaled : goal.overflow_mul-scaled
overflow_mul-scaled c =
    rw (scaled c) (within_fits w64 (c.args.residual *ℤ pos c.args.factor) (scaled_fits c.args.residual c.args.factor c.requires.le_sigma.3 c.requires.le_sigma.2) tt)

-- the machine's w·R is w·R
side : (c : At-After-magnitude-size) → let a = c.args in
    to_z w64 c.weight-w.result *ℤ to_z w64 (of_z w64 (to_z w64 (of_z w64 a.residual) *ℤ to_z w64 a.factor)) ≡ pos (weight_of a.sigma) *ℤ (a.residual *ℤ pos a.factor)
side c =
    let w = c.weight-w in
    ap₂ (λ x y. x *ℤ y) (to_z_pos w64 w.result (omega (arith, w.ensures.1)) ∙ ap pos w.ensures.0) (to_z-of_z w64 _ (overflow_mul-scaled c.before) ∙ scaled c.before)

side_small : (c : At-After-magnitude-size) → let a = c.args in nat_abs (pos (weight_of a.sigma) *ℤ (a.residual *ℤ pos a.factor)) ≤ 2 ^ 28
side_small c =
    let r = c.args.residual *ℤ pos c.args.factor in
    let h : weight_of c.args.sigma * nat_abs r ≤ 2 ^ 28 = weighted_bound c.args.sigma (nat_abs r) c.requires.le_sigma.0 c.requires.le_sigma.1 c.requires.factor_bound in
    omega (arith, nat_abs_* (pos (weight_of c.args.sigma)) r)

-- the size of R
size : (c : At-After-magnitude-size) → let a = c.args in c.magnitude-size.result ≡ nat_abs (a.residual *ℤ pos a.factor)
size c = c.magnitude-size.ensures ∙ ap nat_abs (to_z-of_z w64 _ (overflow_mul-scaled c.before) ∙ scaled c.before)

pub overflow_mul-result : goal.overflow_mul-result
overflow_mul-result c = rw (side c) (within_fits w64 _ (side_small c) tt)

pub overflow_mul-result-2 : goal.overflow_mul-result-2
overflow_mul-result-2 c =
    let m = c.magnitude-size.result in
    let h : m ≤ 655360 = omega (arith, size c, c.requires.factor_bound, c.requires.le_sigma.1) in
    record { fits = omega (arith, mul-le-mul h h) }

pub overflow_mul-result-3 : goal.overflow_mul-result-3
overflow_mul-result-3 c =
    let h : weight_of c.args.sigma * (c.magnitude-size.result * c.magnitude-size.result) ≤ 2 ^ 40 = square_bound c.args.sigma c.magnitude-size.result c.requires.le_sigma.0 c.requires.le_sigma.1 (rw (size c) c.requires.factor_bound) in
    rw c.weight-w.ensures.0 (record { fits = omega arith })

pub returns : goal.returns
unfolding terms_by
returns c =
    λ i. record {
      weight = c.weight-w.ensures.0 i;
      side = (to_z-of_z w64 _ (overflow_mul-result c) ∙ side c) i;
      square = c.weight-w.ensures.0 i * (size c i * size c i);
    }

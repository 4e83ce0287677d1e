-- `norm_unpack::fill_matrix` meets its contract, in each form.
use mathlib.Core.Path.{ap, refl, ◌∙◌}
use native.Mathlib.Omega.{arith}
use lib.Seq.{sets}
use Rattle.num_whole.proofs.Cases.{yes, no}
use Rattle.norm_sum.specs.Sums.{sums_at}
use Rattle.norm_unpack.proofs.fill_matrix.Goals as goal

pub fill_sums-requires : goal.fill_sums-requires
fill_sums-requires c =
    let e = c.triangle.ensures.0 in
    let fits = c.requires.p_in_bounds_2 c.if-is_small.false in
    (omega (arith, e, fits), omega (arith, e, c.requires.start_in_bounds.1))

pub returns-then-is_small : goal.returns-then-is_small
returns-then-is_small c = c.spread_matrix.ensures ∙ ap (sets c.args.out.now 0) (yes _ _ _ c.if-is_small.true refl)

pub returns-else-is_small : goal.returns-else-is_small
returns-else-is_small c =
    let a = c.args in
    c.fill_sums.ensures
    ∙ ap (λ n. sets a.out.now 0 (sums_at a.s.now a.start n)) c.triangle.ensures.0
    ∙ ap (sets a.out.now 0) (no _ _ _ c.if-is_small.false refl)

-- `norm_unpack::fill_rights` meets its contract, in each form.
use mathlib.Core.Path.{ap, refl, ◌∙◌}
use lib.Seq.{sets}
use Rattle.num_whole.proofs.Cases.{yes, no}
use Rattle.norm_unpack.proofs.fill_rights.Goals as goal

pub fill_sums-requires : goal.fill_sums-requires
fill_sums-requires c = (c.requires.p_in_bounds_2 c.if-is_small.false, c.requires.start_in_bounds.1)

pub returns-then-is_small : goal.returns-then-is_small
returns-then-is_small c = c.spread_row.ensures ∙ ap (sets c.args.out.now 0) (yes _ _ _ c.if-is_small.true refl)

pub returns-else-is_small : goal.returns-else-is_small
returns-else-is_small c =
    let a = c.args in
    c.fill_sums.ensures ∙ ap (sets a.out.now 0) (no _ _ _ c.if-is_small.false refl)

use mathlib.Core.Path.{refl, sym, ◌∙◌}
use native.Mathlib.Omega.{arith}
use Rattle.num_whole.specs.Lists.{rest}
use Rattle.num_whole.proofs.Walks.{all_end, all_pass, all_fail}
use Rattle.norm_system.specs.System.{arc_ok}
use Rattle.norm_fields.proofs.arcs_fit.Goals as goal

pub loop-i-init : goal.loop-i-init
unfolding rest
loop-i-init c = (omega arith, refl)

pub loop-i-preserved : goal.loop-i-preserved
loop-i-preserved c =
    (omega arith, c.loop-i.invariant.1 ∙ all_pass _ _ _ arc_ok 0 (omega arith) (omega arith) (sym c.arc_fits.ensures ∙ c.if-not-arc_fits.false))

pub returns-then-not-arc_fits : goal.returns-then-not-arc_fits
returns-then-not-arc_fits c =
    sym (c.loop-i.invariant.1 ∙ all_fail _ _ _ arc_ok 0 (omega arith) (omega arith) (sym c.arc_fits.ensures ∙ c.if-not-arc_fits.true))

pub returns : goal.returns
returns c = sym (c.loop-i.invariant.1 ∙ all_end _ _ _ arc_ok (omega arith))

use mathlib.Core.Path.{refl, sym, ◌∙◌}
use native.Mathlib.Omega.{arith}
use Rattle.num_whole.specs.Lists.{rest}
use Rattle.num_whole.proofs.Walks.{ascend_end, ascend_pass, ascend_fail}
use Rattle.norm_fields.proofs.Fields.{arc_at}
use Rattle.norm_fields.proofs.arcs_ascend.Goals as goal

pub loop-i-init : goal.loop-i-init
unfolding rest
loop-i-init c = (omega arith, refl)

pub overflow_add-floor : goal.overflow_add-floor
overflow_add-floor c = omega (arith, arc_at c.args.heads.now c.args.n c.loop-i.i (omega arith) c.requires.1 (omega arith))

pub loop-i-preserved : goal.loop-i-preserved
loop-i-preserved c = (omega arith, c.loop-i.invariant.1 ∙ ascend_pass _ _ _ (λ a. a) _ 0 (omega arith) (omega arith) (omega arith))

pub returns-then-a-floor : goal.returns-then-a-floor
returns-then-a-floor c = sym (c.loop-i.invariant.1 ∙ ascend_fail _ _ _ (λ a. a) _ 0 (omega arith) (omega arith) (omega arith))

pub returns : goal.returns
returns c = sym (c.loop-i.invariant.1 ∙ ascend_end _ _ _ (λ a. a) _ (omega arith))

use Rattle.std.proofs.Common.{arith, refl, sym, ◌∙◌}
use Rattle.take_fit.proofs.Steps.{find_end, find_here, find_on}
use Rattle.take_fit.proofs.find.Goals as goal

pub loop-i-init : goal.loop-i-init
loop-i-init c = refl

pub returns-then-numbers-i : goal.returns-then-numbers-i
returns-then-numbers-i c = find_here _ _ _ (omega arith) c.if-numbers-i.true ∙ sym c.loop-i.invariant

pub loop-i-preserved : goal.loop-i-preserved
loop-i-preserved c = c.loop-i.invariant ∙ find_on _ _ _ (omega arith) c.if-numbers-i.false

pub returns : goal.returns
returns c = find_end _ _ _ (omega arith) ∙ sym c.loop-i.invariant

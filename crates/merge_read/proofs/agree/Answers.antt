use mathlib.Core.Path.{sym, ◌∙◌}
use native.Mathlib.Omega.{arith}
use borrow.Author.Count.{below_more}
use Rattle.num_whole.proofs.Tables.{below_every, below_fails}
use Rattle.merge_read.specs.Read.{agree_at}
use Rattle.merge_read.proofs.agree.Goals as goal

pub loop-i-init : goal.loop-i-init
loop-i-init c = (omega arith, λ k h. absurd (omega arith))

pub loop-i-preserved : goal.loop-i-preserved
unfolding agree_at
loop-i-preserved c = (omega arith, below_more _ _ c.loop-i.invariant.1 (sym c.agree_in.ensures ∙ c.if-not-agree_in.false))

pub returns-then-not-agree_in : goal.returns-then-not-agree_in
unfolding agree_at
returns-then-not-agree_in c = sym (below_fails _ _ c.loop-i.i (omega arith) (sym c.agree_in.ensures ∙ c.if-not-agree_in.true))

pub returns : goal.returns
returns c = sym (below_every _ _ (λ k h. c.loop-i.invariant.1 k (omega arith)))

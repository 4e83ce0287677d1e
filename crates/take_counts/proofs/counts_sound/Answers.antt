use mathlib.Core.Path.{sym}
use native.Mathlib.Omega.{arith}
use borrow.Author.Count.{below_none, below_more}
use borrow.Author.Rules.{rules}
use Rattle.take_counts.proofs.Totals.{counts_pass, counts_fail}
use Rattle.take_counts.proofs.counts_sound.Goals as goal

pub loop-i-init : goal.loop-i-init
loop-i-init c = (search rules, search rules, below_none _)

pub returns-then-count_limit-counts : goal.returns-then-count_limit-counts
returns-then-count_limit-counts c = let l = c.loop-i in sym (counts_fail _ _ l.i (omega arith) (omega (arith, c.count_limit.ensures)))

pub loop-i-preserved : goal.loop-i-preserved
loop-i-preserved c = let l = c.loop-i in (search rules, l.invariant.1, below_more _ l.i l.invariant.2 (omega (arith, c.count_limit.ensures)))

pub returns : goal.returns
returns c = sym (counts_pass _ _ (λ k h. c.loop-i.invariant.2 k (omega arith)))

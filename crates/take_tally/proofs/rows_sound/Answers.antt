use mathlib.Core.Path.{sym, ◌∙◌}
use mathlib.Core.Bool.{true}
use native.Mathlib.Omega.{arith}
use borrow.Author.Count.{below_more}
use borrow.Author.Rules.{rules}
use Rattle.take_tally.proofs.Rows.{rows_pass, rows_fail}
use Rattle.take_tally.proofs.rows_sound.Goals as goal

pub loop-i-init : goal.loop-i-init
loop-i-init c = (search rules, λ k l h. absurd (omega arith))

pub loop-i-preserved : goal.loop-i-preserved
loop-i-preserved c = let l = c.loop-i in (search rules, below_more _ l.i l.invariant.1 (λ h. sym c.is_blank.ensures ∙ c.if-not-is_blank.false))

pub returns-then-not-is_blank : goal.returns-then-not-is_blank
returns-then-not-is_blank c = let l = c.loop-i in sym (rows_fail _ _ l.i (omega arith) l.invariant.0 (sym c.is_blank.ensures ∙ c.if-not-is_blank.true))

pub returns : goal.returns
returns c = sym (rows_pass _ _ (λ k h. c.loop-i.invariant.1 k (omega arith)))

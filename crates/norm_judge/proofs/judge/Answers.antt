-- `norm_judge::judge` meets its contract: the counts and the heads' room, then the values.
use mathlib.Core.Path.{sym, ◌∙◌}
use Rattle.norm_judge.proofs.Numbers.{counted, headed, number_count, number_room, number_values}
use Rattle.norm_judge.proofs.judge.Goals as goal

pub heads_roomy-requires : goal.heads_roomy-requires
heads_roomy-requires c = counted _ _ (sym c.counts_fit.ensures ∙ c.if-not-counts_fit.false)

pub judge_values-requires : goal.judge_values-requires
judge_values-requires c = headed _ _ _ (sym c.counts_fit.ensures ∙ c.if-not-counts_fit.false) (sym c.heads_roomy.ensures ∙ c.if-not-heads_roomy.false)

pub returns : goal.returns
returns c =
    c.judge_values.ensures
    ∙ number_values _ _ _ _ _ (sym c.counts_fit.ensures ∙ c.if-not-counts_fit.false)
    (sym c.heads_roomy.ensures ∙ c.if-not-heads_roomy.false)

pub returns-then-not-heads_roomy : goal.returns-then-not-heads_roomy
returns-then-not-heads_roomy c =
    number_room _ _ _ _ _ (sym c.counts_fit.ensures ∙ c.if-not-counts_fit.false) (sym c.heads_roomy.ensures ∙ c.if-not-heads_roomy.true)

pub returns-then-not-counts_fit : goal.returns-then-not-counts_fit
returns-then-not-counts_fit c = number_count _ _ _ _ _ (sym c.counts_fit.ensures ∙ c.if-not-counts_fit.true)

-- `norm_judge::judge_values` meets its contract: its tests in their order.
use mathlib.Core.Path.{sym, ◌∙◌}
use Rattle.norm_fields.proofs.Fields.{fields_in, orders_in}
use Rattle.norm_judge.proofs.Numbers.{values_limits, values_order, values_sums}
use Rattle.norm_judge.proofs.judge_values.Goals as goal

pub orders_fit-requires : goal.orders_fit-requires
orders_fit-requires c =
    let w = c.requires in
    (w.arcs, w.parameters, w.heads_fit, sym c.fields_fit.ensures ∙ c.if-not-fields_fit.false)

pub returns : goal.returns
returns c =
    c.judge_sums.ensures
    ∙ values_sums _ _ _ _ (fields_in _ _ _ _ _ ∙ sym c.fields_fit.ensures ∙ c.if-not-fields_fit.false)
    (orders_in _ _ _ _ _ ∙ sym c.orders_fit.ensures ∙ c.if-not-orders_fit.false)

pub returns-then-not-orders_fit : goal.returns-then-not-orders_fit
returns-then-not-orders_fit c =
    values_order _ _ _ _ (fields_in _ _ _ _ _ ∙ sym c.fields_fit.ensures ∙ c.if-not-fields_fit.false)
    (orders_in _ _ _ _ _ ∙ sym c.orders_fit.ensures ∙ c.if-not-orders_fit.true)

pub returns-then-not-fields_fit : goal.returns-then-not-fields_fit
returns-then-not-fields_fit c = values_limits _ _ _ _ (fields_in _ _ _ _ _ ∙ sym c.fields_fit.ensures ∙ c.if-not-fields_fit.true)

-- `arc_heading::judge` meets its contract: 2, 4 and 5 in the definition's order.
use mathlib.Core.Path.{refl, sym, ◌∙◌}
use Rattle.num_whole.proofs.Cases.{yes, no}
use Rattle.arc_heading.specs.Judge.{judged, counts_ok}
use Rattle.arc_heading.proofs.Sound.{counts_fit_lem}
use Rattle.arc_heading.proofs.judge.Goals as goal

pub fields_ok-requires : goal.fields_ok-requires
unfolding counts_ok
fields_ok-requires c = counts_fit_lem c.args.h (sym c.numbers_ok.ensures ∙ c.if-not-numbers_ok.false)

pub orders_ok-requires : goal.orders_ok-requires
unfolding counts_ok
orders_ok-requires c = counts_fit_lem c.args.h (sym c.numbers_ok.ensures ∙ c.if-not-numbers_ok.false)

pub returns : goal.returns
unfolding judged counts_ok
returns c =
    yes _ _ _ (sym c.numbers_ok.ensures ∙ c.if-not-numbers_ok.false) (yes _ _ _ (sym c.fields_ok.ensures ∙ c.if-not-fields_ok.false) (yes _ _ _ (sym c.orders_ok.ensures ∙ c.if-not-orders_ok.false) refl))

pub returns-then-not-orders_ok : goal.returns-then-not-orders_ok
unfolding judged counts_ok
returns-then-not-orders_ok c =
    yes _ _ _ (sym c.numbers_ok.ensures ∙ c.if-not-numbers_ok.false) (yes _ _ _ (sym c.fields_ok.ensures ∙ c.if-not-fields_ok.false) (no _ _ _ (sym c.orders_ok.ensures ∙ c.if-not-orders_ok.true) refl))

pub returns-then-not-fields_ok : goal.returns-then-not-fields_ok
unfolding judged counts_ok
returns-then-not-fields_ok c =
    yes _ _ _ (sym c.numbers_ok.ensures ∙ c.if-not-numbers_ok.false) (no _ _ _ (sym c.fields_ok.ensures ∙ c.if-not-fields_ok.true) refl)

pub returns-then-not-numbers_ok : goal.returns-then-not-numbers_ok
unfolding judged counts_ok
returns-then-not-numbers_ok c = no _ _ _ (sym c.numbers_ok.ensures ∙ c.if-not-numbers_ok.true) refl

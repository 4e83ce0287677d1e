-- `days::month_length` meets its contract: in each arm the month is known, and its length by the definition's tests.
use mathlib.Core.Path.{refl, sym, ◌∙◌}
use mathlib.Core.Logic.{⊎_elim, inl, inr}
use native.Mathlib.Omega.{arith}
use Rattle.num_whole.specs.Tests.{same, either, pick}
use Rattle.num_whole.proofs.Cases.{yes, no, at_last, is_same, not_same}
use Rattle.days.specs.Calendar.{month_length}
use Rattle.days.proofs.month_length.Goals as goal

pub returns-then-is_leap : goal.returns-then-is_leap
unfolding month_length
returns-then-is_leap c = yes _ _ _ (is_same _ _ (omega arith)) (yes _ _ _ (sym c.is_leap.ensures ∙ c.if-is_leap.true) refl)

pub returns-else-is_leap : goal.returns-else-is_leap
unfolding month_length
returns-else-is_leap c = yes _ _ _ (is_same _ _ (omega arith)) (no _ _ _ (sym c.is_leap.ensures ∙ c.if-is_leap.false) refl)

pub returns-in-4 : goal.returns-in-4
unfolding month_length same either pick
returns-in-4 c = ⊎_elim (λ e. rw e) (⊎_elim (λ e. rw e) (⊎_elim (λ e. rw e) (λ e. rw e))) c.in-4.is

pub returns-in_default : goal.returns-in_default
unfolding month_length
returns-in_default c =
    let rest = c.in_default.in_default-own.rest in
    let four = not_same _ 4 (λ e. rest.1 (inl e)) in
    let six = not_same _ 6 (λ e. rest.1 (inr (inl e))) in
    let nine = not_same _ 9 (λ e. rest.1 (inr (inr (inl e)))) in
    let eleven = not_same _ 11 (λ e. rest.1 (inr (inr (inr e)))) in
    no _ _ _ (not_same _ _ rest.0.1)
    (no _ _ _ (sym (at_last _ _ four (at_last _ _ six (at_last _ _ nine (sym eleven))))) refl)

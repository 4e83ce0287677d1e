-- `norm_state::judge_held` meets its contract: the heading's own refusal, else the state's.
use Rattle.std.specs.Prelude.{Err}
use borrow.Author.Rules.{rules}
use mathlib.Core.Path.{◌≡◌, sym, ap, ◌∙◌}
use Rattle.refusal.specs.First.{answered}
use Rattle.refusal.proofs.Firsts.{number_given}
use Rattle.refusal.specs.Told.{told}
use Rattle.norm_state.proofs.Numbers.{held_judged, held_state}
use Rattle.norm_state.proofs.judge_held.Goals as goal

pub returns-in_err-judge : goal.returns-in_err-judge
returns-in_err-judge c =
    let p : c.from_residual.result ≡ Err c.in_err-judge.field-0.0 = search rules in
    ap told p ∙ held_judged _ _ c.in_err-judge.field-0.0 (sym c.in_err-judge.ensures)

pub returns : goal.returns
returns c = c.judge_state.ensures ∙ ap (λ k. answered k tt) (held_state _ _ (number_given _ tt (sym c.in_ok-judge.ensures)))

-- `unit_residual::residual_by` meets its contract: the two answers say how the definition's tests go.
use mir.Syntax.{w64}
use mir.Facts.{to_z-of_z}
use Rattle.std.proofs.Common.{◌≡◌, refl, sym, ap, ◌∙◌, rules, ap₂}
use Rattle.std.proofs.lemmas.Result.{err_from_is_err_and}
use Rattle.num_whole.specs.Answer.{given}
use Rattle.unit_nearest.specs.Doubles.{told_nearest}
use Rattle.unit_turn.specs.Turning.{apart_by}
use Rattle.unit_turn.proofs.Words.{word_within}
use Rattle.unit_residual.proofs.Answers.{why_told, inside_small, first_missing, second_missing, both_out, one_out, second_refused, both_given}
use Rattle.unit_residual.proofs.residual_by.Goals as goal

pub returns-in-Err-NotFinite : goal.returns-in-Err-NotFinite
returns-in-Err-NotFinite c =
    let e = c.in-Err-NotFinite in
    first_missing _ _ c.args.computed (sym c.unit_in-o.ensures ∙ why_told _ _ _ e.is (rw e.is at e.field-0-is))

pub returns-in-Err-NotFinite-c : goal.returns-in-Err-NotFinite-c
returns-in-Err-NotFinite-c c =
    let e = c.in-Err-OutOfLimits in
    let f = c.in-Err-NotFinite-c in
    second_missing _ _ _ (sym c.unit_in-o.ensures ∙ why_told _ _ _ e.is (rw e.is at e.field-0-is)) (sym c.unit_in-c.ensures ∙ why_told _ _ _ f.is (rw f.is at f.field-0-is))

pub returns-in-Err-OutOfLimits-c : goal.returns-in-Err-OutOfLimits-c
returns-in-Err-OutOfLimits-c c =
    let e = c.in-Err-OutOfLimits in
    let f = c.in-Err-OutOfLimits-c in
    both_out _ _ _ (sym c.unit_in-o.ensures ∙ why_told _ _ _ e.is (rw e.is at e.field-0-is)) (sym c.unit_in-c.ensures ∙ why_told _ _ _ f.is (rw f.is at f.field-0-is))

pub returns-in-Ok-c : goal.returns-in-Ok-c
returns-in-Ok-c c =
    let e = c.in-Err-OutOfLimits in
    one_out _ _ _ _ (sym c.unit_in-o.ensures ∙ why_told _ _ _ e.is (rw e.is at e.field-0-is)) (sym c.unit_in-c.ensures ∙ ap told_nearest c.in-Ok-c.is)

pub apart-requires : goal.apart-requires
apart-requires c =
    let r = c.args.row in (
      word_within c.in-Ok.p (inside_small r c.args.observed _ c.requires (sym c.unit_in-o.ensures ∙ ap told_nearest c.in-Ok.is)),
      word_within c.in_ok-q-in-Ok.q (inside_small r c.args.computed _ c.requires (sym c.in_ok-q-in-Ok.ensures)),
    )

pub returns-in_err-q-in-Ok : goal.returns-in_err-q-in-Ok
returns-in_err-q-in-Ok c =
    let p = err_from_is_err_and c.from_residual.result c.from_residual.ensures.1 in
    rw (p.1, p.2) (second_refused _ _ _ c.in-Ok.p c.in_err-q-in-Ok.field-0.0 (sym c.unit_in-o.ensures ∙ ap told_nearest c.in-Ok.is) c.in_err-q-in-Ok.ensures)

pub returns-in_ok-q-in-Ok : goal.returns-in_ok-q-in-Ok
returns-in_ok-q-in-Ok c =
    ap given (to_z-of_z {w = w64} (record { sfits = c.apart.type_inv }) ∙ c.apart.ensures ∙ ap₂ (apart_by c.args.row) (search rules) (search rules))
    ∙ both_given _ _ _ c.in-Ok.p c.in_ok-q-in-Ok.q (sym c.unit_in-o.ensures ∙ ap told_nearest c.in-Ok.is) (sym c.in_ok-q-in-Ok.ensures)

-- `arc_write::judge` meets its contract: 2, then the heading's own judgement, then the room.
use mathlib.Core.Path.{sym, ◌∙◌}
use Rattle.std.proofs.lemmas.Result.{err_from_is_err_and}
use Rattle.arc_heading.proofs.Sound.{counts_fit_lem}
use Rattle.arc_write.proofs.Answers.{counts_right, on_numbers, on_refused, on_sound_lem}
use Rattle.arc_write.proofs.judge.Goals as goal

pub returns-then-not-is_allowed : goal.returns-then-not-is_allowed
returns-then-not-is_allowed c = on_numbers _ _ _ (sym c.is_allowed.ensures ∙ c.if-not-is_allowed.true)

pub returns-in_err-judge : goal.returns-in_err-judge
returns-in_err-judge c =
    let labels = c.well_formed.0.1.1.1.1.1.0.1.0.1 in
    let listed = c.well_formed.0.1.1.1.1.1.1.0.1.0.1 in
    let p = err_from_is_err_and c.from_residual.result c.from_residual.ensures.1 in
    rw (p.1, p.2) (on_refused _ _ _ labels listed (sym c.is_allowed.ensures ∙ c.if-not-is_allowed.false) (sym c.in_err-judge.ensures))

pub judge_room-requires : goal.judge_room-requires
judge_room-requires c =
    let right = counts_right _ _ (sym c.is_allowed.ensures ∙ c.if-not-is_allowed.false) in
    let fit = counts_fit_lem _ right.0 in
    (fit.0, fit.1, right.1)

pub returns : goal.returns
returns c =
    let labels = c.well_formed.0.1.1.1.1.1.0.1.0.1 in
    let listed = c.well_formed.0.1.1.1.1.1.1.0.1.0.1 in
    c.judge_room.ensures ∙ on_sound_lem _ _ _ labels listed (sym c.is_allowed.ensures ∙ c.if-not-is_allowed.false) (sym c.in_ok-judge.ensures)

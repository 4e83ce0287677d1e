-- `unit_convert::unit_by` meets its contract: a unit goes on to the circle, and a refusal stays.
use mir.Syntax.{w64}
use mir.Facts.{to_z-of_z}
use Rattle.std.proofs.Common.{◌≡◌, refl, sym, ap, ◌∙◌, rules}
use Rattle.std.proofs.lemmas.Result.{err_from_is_err_and}
use Rattle.num_whole.specs.Answer.{given}
use Rattle.unit_turn.specs.Turning.{on_circle}
use Rattle.unit_convert.specs.Units.{turned}
use Rattle.unit_convert.proofs.Refusals.{stays}
use Rattle.unit_convert.proofs.unit_by.Goals as goal

pub returns-in_err-q : goal.returns-in_err-q
returns-in_err-q c =
    let p = err_from_is_err_and c.from_residual.result c.from_residual.ensures.1 in
    rw (p.1, p.2) (stays c.args.row c.in_err-q.field-0.0 ∙ ap (turned c.args.row) (c.in_err-q.ensures))

pub returns : goal.returns
unfolding turned
returns c =
    ap given (to_z-of_z {w = w64} (record { sfits = c.on_circle.type_inv }) ∙ c.on_circle.ensures ∙ ap (on_circle c.args.row) (search rules))
    ∙ ap (turned c.args.row) (c.in_ok-q.ensures)

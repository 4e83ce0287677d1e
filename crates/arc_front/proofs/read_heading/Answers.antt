-- `arc_front::read_heading` meets its contract: the settings, the labels and the stations, the first refusal told.
use mathlib.Core.Path.{sym, ◌∙◌}
use Rattle.std.proofs.lemmas.Result.{err_from_is_err_and}
use Rattle.byte_section.proofs.Walk.{then_good, then_bad}
use Rattle.arc_front.specs.Parts.{heading_part}
use Rattle.arc_front.proofs.Front.{few_labels}
use Rattle.arc_front.proofs.read_heading.Goals as goal

pub returns-in_err-settings-clause-read : goal.returns-in_err-settings-clause-read
unfolding heading_part
returns-in_err-settings-clause-read c =
    let p = err_from_is_err_and c.from_residual.result c.from_residual.ensures.1 in
    rw (p.1, p.2) (sym (then_bad _ _ (sym c.in_err-settings.ensures)))

pub returns-in_err-parameters-clause-read : goal.returns-in_err-parameters-clause-read
unfolding heading_part
returns-in_err-parameters-clause-read c =
    let p = err_from_is_err_and c.from_residual-in_err-parameters.result c.from_residual-in_err-parameters.ensures.1 in
    rw (p.1, p.2) (sym (then_good _ _ (sym c.in_ok-settings.ensures) ∙ then_bad _ _ (sym c.in_err-parameters.ensures)))

pub returns-in_err-stations-clause-read : goal.returns-in_err-stations-clause-read
unfolding heading_part
returns-in_err-stations-clause-read c =
    let p = err_from_is_err_and c.from_residual-in_err-stations.result c.from_residual-in_err-stations.ensures.1 in
    rw (p.1, p.2)
    (sym (then_good _ _ (sym c.in_ok-settings.ensures) ∙ then_good _ _ (sym c.in_ok-parameters.ensures)
    ∙ then_bad _ _ (sym c.in_err-stations.ensures)))

pub returns-clause-read : goal.returns-clause-read
unfolding heading_part
returns-clause-read c =
    sym (then_good _ _ (sym c.in_ok-settings.ensures) ∙ then_good _ _ (sym c.in_ok-parameters.ensures)
    ∙ then_good _ _ (sym c.in_ok-stations.ensures))

pub returns-clause-few : goal.returns-clause-few
returns-clause-few c = few_labels _ _ _ (sym c.in_ok-parameters.ensures)

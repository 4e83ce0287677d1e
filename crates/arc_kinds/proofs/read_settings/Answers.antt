-- `arc_kinds::read_settings` meets its contract: its count, then its one record.
use mathlib.Core.Path.{sym, ◌∙◌}
use Rattle.std.proofs.lemmas.Result.{err_from_is_err_and}
use Rattle.byte_section.proofs.Walk.{then_good, then_bad}
use Rattle.arc_kinds.specs.Told.{settings_part}
use Rattle.arc_kinds.proofs.read_settings.Goals as goal

pub returns-in_err-read_count : goal.returns-in_err-read_count
unfolding settings_part
returns-in_err-read_count c =
    let p = err_from_is_err_and c.from_residual.result c.from_residual.ensures.1 in
    rw (p.1, p.2) (sym (then_bad _ _ (sym c.in_err-read_count.ensures)))

pub returns : goal.returns
unfolding settings_part
returns c = c.read_record.ensures ∙ sym (then_good _ _ (sym c.in_ok-read_count.ensures))

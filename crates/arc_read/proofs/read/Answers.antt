-- `arc_read::read` meets its contract: the heading, and then what follows it.
use mathlib.Core.Path.{sym, ◌∙◌}
use Rattle.std.proofs.lemmas.Result.{err_from_is_err_and}
use Rattle.byte_section.proofs.Walk.{then_good, then_bad}
use Rattle.arc_read.proofs.Parts.{read_parts}
use Rattle.arc_read.proofs.read.Goals as goal

pub returns-in_err-front : goal.returns-in_err-front
returns-in_err-front c =
    let p = err_from_is_err_and c.from_residual.result c.from_residual.ensures.1 in
    rw (p.1, p.2) (sym (read_parts _ ∙ then_bad _ _ (sym c.in_err-front.ensures.read)))

pub returns : goal.returns
returns c = c.read_rest.ensures ∙ sym (read_parts _ ∙ then_good _ _ (sym c.in_ok-front.ensures.read))

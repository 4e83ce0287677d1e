-- `call_told::with_all` meets its contract.
use mathlib.Core.Path.{sym, ap, ◌∙◌}
use Rattle.std.proofs.lemmas.Result.{err_from_is_err_and}
use Rattle.part_laws.specs.Entries.{told_part}
use Rattle.call_told.specs.Told.{with_all}
use Rattle.call_told.proofs.Told.{stays}
use Rattle.call_told.proofs.with_all.Goals as goal

pub returns : goal.returns
returns c = sym (ap (λ a. with_all c.args.all (told_part a)) c.in_ok-answer.was)

pub returns-in_err-answer : goal.returns-in_err-answer
returns-in_err-answer c =
    let p = err_from_is_err_and c.from_residual.result c.from_residual.ensures.1 in
    rw (p.1, p.2) (stays c.args.all c.in_err-answer.field-0.0 ∙ sym (ap (λ a. with_all c.args.all (told_part a)) c.in_err-answer.was))

-- `call_files::read_number` meets its contract.
use mathlib.Core.Path.{sym, ap, ◌∙◌}
use Rattle.refusal.specs.Told.{told_placed}
use Rattle.call_files.specs.Reading.{judged_number}
use Rattle.call_files.proofs.read_number.Goals as goal

pub returns-in-Err : goal.returns-in-Err
unfolding judged_number
returns-in-Err g c = c.number.ensures ∙ sym (ap (λ a. judged_number (told_placed a)) c.in-Err.is)

pub returns-in-Ok : goal.returns-in-Ok
unfolding judged_number
returns-in-Ok g c = sym (ap (λ a. judged_number (told_placed a)) c.in-Ok.is)

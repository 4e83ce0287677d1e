-- `call_files::read_place` meets its contract.
use mathlib.Core.Path.{sym, ap}
use Rattle.refusal.specs.Told.{told_placed}
use Rattle.call_files.specs.Reading.{refusal_place}
use Rattle.call_files.proofs.read_place.Goals as goal

pub returns-in-Err : goal.returns-in-Err
unfolding refusal_place
returns-in-Err g c = sym (ap (λ a. refusal_place (told_placed a)) c.in-Err.is)

pub returns-in-Ok : goal.returns-in-Ok
unfolding refusal_place
returns-in-Ok g c = sym (ap (λ a. refusal_place (told_placed a)) c.in-Ok.is)

-- `call_told::changes` meets its contract.
use mathlib.Core.Path.{sym, ap, refl}
use Rattle.part_laws.specs.Entries.{told_part}
use Rattle.call_told.specs.Told.{changes}
use Rattle.call_told.proofs.changes.Goals as goal

pub returns-in-Ok : goal.returns-in-Ok
unfolding changes
returns-in-Ok c = sym (ap (λ a. changes (told_part a)) c.in-Ok.is)

pub returns-in-Stopped : goal.returns-in-Stopped
unfolding changes
returns-in-Stopped c = rw c.in-Err.is (rw c.in-Stopped.is refl)

pub returns-in-Broken : goal.returns-in-Broken
unfolding changes
returns-in-Broken c = rw c.in-Err.is (rw c.in-Broken.is refl)

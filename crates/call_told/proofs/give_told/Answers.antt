-- `call_told::give_told` meets its contract: the records and the place, or nothing but the refusal.
use mathlib.Core.Path.{ap, refl}
use Rattle.refusal.specs.Number.{number_of}
use Rattle.part_laws.specs.Entries.{told_part}
use Rattle.call_told.proofs.Told.{told_took, told_stopped, told_broken}
use Rattle.call_told.proofs.give_told.Goals as goal

pub returns-in-Ok : goal.returns-in-Ok
returns-in-Ok c =
    let got = told_took _ _ c.requires _ (ap told_part c.in-Ok.is) (c.give.ensures.value, c.give.ensures.left) in record {
      value = got.0;
      left = got.1;
    }

pub returns-in-Stopped : goal.returns-in-Stopped
returns-in-Stopped c =
    let got = told_stopped _ _ (number_of c.in-Stopped.e) (rw c.in-Err.is (rw c.in-Stopped.is refl)) c.number.ensures in record {
      value = got.0;
      left = got.1;
    }

pub returns-in-Broken : goal.returns-in-Broken
returns-in-Broken c =
    let got = told_broken _ _ c.requires (number_of c.in-Broken.fault.why) c.in-Broken.fault.place c.in-Broken.n (rw c.in-Err.is (rw c.in-Broken.is refl)) c.give-in-Broken.ensures.left c.number-in-Broken.ensures in record {
      value = got.0;
      left = got.1;
    }

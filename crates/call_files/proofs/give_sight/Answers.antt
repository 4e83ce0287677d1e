-- `call_files::give_sight` meets its contract: 1, 0 or the refusal.
use mathlib.Core.Path.{ap, ◌∙◌}
use Rattle.num_whole.specs.Answer.{given}
use Rattle.num_whole.specs.Tests.{pick}
use Rattle.refusal.specs.Told.{told}
use Rattle.call_rooms.specs.Result.{one}
use Rattle.call_rooms.proofs.Rooms.{on_given, on_refused}
use Rattle.call_files.specs.Taking.{seen_numbers}
use Rattle.call_files.proofs.give_sight.Goals as goal

pub returns-in-Ok-true : goal.returns-in-Ok-true
unfolding seen_numbers one pick
returns-in-Ok-true c =
    let got = on_given seen_numbers _ _ _ (ap told c.in-Ok-true.is ∙ ap given c.in-Ok-true.field-0-test) (c.give.ensures.value, c.give.ensures.left) in record {
      value = got.0;
      left = got.1;
    }

pub returns-in-Ok-false : goal.returns-in-Ok-false
unfolding seen_numbers one pick
returns-in-Ok-false c =
    let got = on_given seen_numbers _ _ _ (ap told c.in-Ok-false.is ∙ ap given c.in-Ok-false.field-0-test) (c.give-in-Ok-false.ensures.value, c.give-in-Ok-false.ensures.left) in record {
      value = got.0;
      left = got.1;
    }

pub returns-in-Err : goal.returns-in-Err
returns-in-Err c =
    let got = on_refused seen_numbers _ _ _ (ap told c.in-Err.is) c.number.ensures in record {
      value = got.0;
      left = got.1;
    }

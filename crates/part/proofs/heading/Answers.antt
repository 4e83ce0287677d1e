-- `part::heading` meets its contract: 6, 1, or the heading.
use mathlib.Core.Path.{sym, ◌∙◌}
use Rattle.part.proofs.Stops.{headed, headed_not}
use Rattle.part.proofs.heading.Goals as goal

pub returns-in-Ok : goal.returns-in-Ok
returns-in-Ok c =
    let told = rw c.in-Ok.is at c.open_at-old.ensures.told in
    let got = headed c.args.p (sym c.is_fair.ensures ∙ c.if-not-is_fair.false) _ told in record {
      answer_value = got.0;
      heading = got.1;
    }

pub returns-in-Err : goal.returns-in-Err
returns-in-Err c =
    let told = rw c.in-Err.is at c.open_at-old.ensures.told in
    let got = headed c.args.p (sym c.is_fair.ensures ∙ c.if-not-is_fair.false) _ told in record {
      answer_value = got.0;
      heading = got.1;
    }

pub returns-then-not-is_fair : goal.returns-then-not-is_fair
returns-then-not-is_fair c =
    let got = headed_not c.args.p (sym c.is_fair.ensures ∙ c.if-not-is_fair.true) in record {
      answer_value = got.0;
      heading = got.1;
    }

-- `call_files::give_arc` meets its contract: the file's refusal, too little room, or the heading and the two numbers in their rooms.
use mathlib.Core.Path.{sym, ap, ◌∙◌}
use Rattle.refusal.specs.Told.{told_placed}
use Rattle.call_files.proofs.Rooms.{read_refused, read_short, read_done}
use Rattle.call_files.proofs.give_arc.Goals as goal

pub returns-in-Err : goal.returns-in-Err
returns-in-Err c =
    let got = read_refused _ _ _ _ (ap told_placed c.in-Err.is) c.number.ensures in record {
      value = got.0;
      heading = got.1.0;
      places = got.1.1;
    }

pub returns-then-is_roomy : goal.returns-then-is_roomy
returns-then-is_roomy c =
    let got = read_done _ _ _ _ (ap told_placed c.in-Ok.is) (sym c.is_roomy.ensures ∙ c.if-is_roomy.true) c.put_heading.ensures (c.give.ensures.value, c.give.ensures.left) in record {
      value = got.0;
      heading = got.1.0;
      places = got.1.1;
    }

pub returns-else-is_roomy : goal.returns-else-is_roomy
returns-else-is_roomy c =
    let got = read_short _ _ _ _ (ap told_placed c.in-Ok.is) (sym c.is_roomy.ensures ∙ c.if-is_roomy.false) in record {
      value = got.0;
      heading = got.1.0;
      places = got.1.1;
    }

-- `call_files::give_taken` meets its contract: the tally in its room, or the refusal.
use Rattle.std.proofs.Common.{sym, ap, ◌∙◌}
use Rattle.refusal.specs.First.{number_in}
use Rattle.refusal.specs.Told.{told}
use Rattle.call_files.specs.Taking.{tally_left}
use Rattle.call_files.proofs.give_taken.Goals as goal

pub returns-in-Ok : goal.returns-in-Ok
unfolding number_in tally_left
returns-in-Ok c =
    let w = sym c.in-Ok.is in record {
      value = ap (λ v. number_in (told v)) w;
      left = c.put_tally.ensures ∙ ap (λ v. tally_left (told v) c.args.tally.now) w;
    }

pub returns-in-Err : goal.returns-in-Err
unfolding number_in tally_left
returns-in-Err c =
    let w = sym c.in-Err.is in record {
      value = c.number.ensures ∙ ap (λ v. number_in (told v)) w;
      left = ap (λ v. tally_left (told v) c.args.tally.now) w;
    }

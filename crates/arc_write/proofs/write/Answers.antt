-- `arc_write::write` meets its contract: the answer is judged first, and the file is laid only where it is accepted.
use mathlib.Core.Path.{sym, ◌∙◌}
use Rattle.std.proofs.lemmas.Result.{err_from_is_err_and}
use Rattle.arc_write.proofs.Answers.{writable, left_kept, left_written}
use Rattle.arc_write.proofs.write.Goals as goal

pub returns-in_err-n : goal.returns-in_err-n
returns-in_err-n c =
    let p = err_from_is_err_and c.from_residual.result c.from_residual.ensures.1 in
    rw (p.1, p.2)
    (record {
      answer = c.in_err-n.ensures;
      left = left_kept _ _ _ (sym c.in_err-n.ensures);
    })

pub put_arc-requires : goal.put_arc-requires
put_arc-requires c =
    let labels = c.well_formed.0.1.1.1.1.1.0.1.0.1 in
    let listed = c.well_formed.0.1.1.1.1.1.1.0.1.0.1 in
    writable _ _ _ labels listed (sym c.in_ok-n.ensures)

pub returns : goal.returns
returns c =
    record {
      answer = c.in_ok-n.ensures;
      left = c.put_arc.ensures ∙ left_written _ _ _ (sym c.in_ok-n.ensures);
    }

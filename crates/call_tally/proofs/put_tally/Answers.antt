-- `call_tally::put_tally` meets its contract: each part is laid where the last one ends.
use Rattle.call_tally.proofs.Bytes.{tally_laid}
use Rattle.call_tally.proofs.put_tally.Goals as goal

pub returns : goal.returns
returns c =
    rw (c.put_marks.ensures, c.put_rows.ensures.0, c.put_counts.ensures, c.write_u64.ensures)
    (tally_laid c.args.t c.args.out.now (c.well_formed.0.1.1.1.0.1.0.1) c.put_rows.ensures.1)

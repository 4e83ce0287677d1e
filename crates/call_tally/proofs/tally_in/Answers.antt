-- `call_tally::tally_in` meets its contract: each part is what stands at its place.
use Rattle.call_tally.specs.Tally.{tally_in}
use Rattle.call_tally.proofs.tally_in.Goals as goal

pub returns : goal.returns
unfolding tally_in
returns c =
    λ i.
    record {
      square = c.read_u64.ensures i;
      counts = c.counts_in.ensures i;
      rows = c.rows_in.ensures i;
      marks = c.marks_in.ensures i;
    }

-- `call_tally::rows_in` meets its contract: each element is what stands at its place.
use Rattle.std.proofs.Common.{rules}
use Rattle.take_tally.specs.Tally.{no_row}
use Rattle.call_tally.specs.Tally.{times_row_at}
use Rattle.call_tally.proofs.Made.{all_stand}
use Rattle.call_tally.proofs.rows_in.Goals as goal

pub returns : goal.returns
returns c = all_stand (times_row_at c.args.b.now) 80 16 72 no_row (λ i y q r. search rules) c.from_fn.ensures.items

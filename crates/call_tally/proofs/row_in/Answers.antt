-- `call_tally::row_in` meets its contract: each element is what stands at its place.
use Rattle.std.proofs.Common.{ap, rules}
use Rattle.byte_words.specs.Words.{word}
use Rattle.call_tally.specs.Tally.{times_row_at}
use Rattle.call_tally.proofs.Made.{all_stand}
use Rattle.call_tally.proofs.row_in.Goals as goal

pub returns : goal.returns
unfolding times_row_at
returns c = ap (λ l. record { times = l }) (all_stand (word 8 c.args.b.now) 8 10 c.args.start 0 (λ i y q r. search rules) c.from_fn.ensures.items)

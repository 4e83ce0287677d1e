-- `call_tally::marks_in` meets its contract: each element is what stands at its place.
use Rattle.std.proofs.Common.{rules}
use Rattle.byte_words.specs.Words.{word}
use Rattle.call_tally.proofs.Made.{all_stand}
use Rattle.call_tally.proofs.marks_in.Goals as goal

pub returns : goal.returns
returns c = all_stand (word 2 c.args.b.now) 2 50 1352 0 (λ i y q r. search rules) c.from_fn.ensures.items

-- `merge_sums::put_sides` meets its contract.
use mathlib.Core.Path.{ap, ◌∙◌}
use Rattle.byte_words.specs.Words.{lay}
use Rattle.merge_sums.proofs.Writing.{bytes_in}
use Rattle.merge_sums.proofs.put_sides.Goals as goal

pub returns : goal.returns
returns c = c.put_column.ensures ∙ ap (λ l. lay c.args.out.now c.args.at (bytes_in l)) c.join_sides.ensures

-- `norm_fields::label_at` meets its contract: each number fits its word.
use borrow.Author.Rules.{rules}
use Rattle.norm_fields.specs.Fields.{bare_label}
use Rattle.norm_fields.proofs.label_at.Goals as goal

pub returns : goal.returns
unfolding bare_label
returns c = search rules

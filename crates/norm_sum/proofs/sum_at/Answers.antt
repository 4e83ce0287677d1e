-- `norm_sum::sum_at` meets its contract.
use mathlib.Core.Path.{sym, ◌∙◌}
use lib.IntN.{pos}
use mir.Syntax.{w64}
use mir.ValLaws.{to_z-of_z}
use Rattle.byte_words.specs.Words.{signed_word}
use Rattle.byte_words.proofs.Stands.{stands_at}
use Rattle.norm_sum.proofs.sum_at.Goals as goal

pub returns : goal.returns
returns c =
    λ n h. to_z-of_z w64 c.sum_from.result (record { sfits = c.sum_from.type_inv }) ∙ c.sum_from.ensures ∙ sym (stands_at (signed_word w64 c.args.s.now) 8 n c.args.start c.args.k (pos 0) h)

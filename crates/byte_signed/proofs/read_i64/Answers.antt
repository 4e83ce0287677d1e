-- `byte_signed::read_i64` meets its contract.
use borrow.Author.Rules.{rules}
use mathlib.Core.Path.{ap, ◌∙◌}
use mir.Syntax.{w64}
use mir.Val.{to_z}
use mir.ValLaws.{to_z-of_z}
use Rattle.byte_words.specs.Words.{signed_word}
use Rattle.byte_signed.proofs.read_i64.Goals as goal

pub returns : goal.returns
unfolding signed_word
returns c = to_z-of_z w64 c.cast_signed.result (search rules) ∙ c.cast_signed.ensures ∙ ap (to_z w64) c.read_u64.ensures

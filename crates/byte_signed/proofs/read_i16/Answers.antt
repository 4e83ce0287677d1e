-- `byte_signed::read_i16` meets its contract.
use borrow.Author.Rules.{rules}
use mathlib.Core.Path.{ap, ◌∙◌}
use mir.Syntax.{w16}
use mir.Val.{to_z}
use mir.ValLaws.{to_z-of_z}
use Rattle.byte_words.specs.Words.{signed_word}
use Rattle.byte_signed.proofs.read_i16.Goals as goal

pub returns : goal.returns
unfolding signed_word
returns c = to_z-of_z w16 c.cast_signed.result (search rules) ∙ c.cast_signed.ensures ∙ ap (to_z w16) c.read_u16.ensures

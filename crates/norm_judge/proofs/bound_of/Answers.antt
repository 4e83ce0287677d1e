-- `norm_judge::bound_of` meets its contract: a bound of so few arcs fits a signed word.
use borrow.Author.Rules.{rules}
use mathlib.Core.Path.{ap, ◌∙◌}
use lib.IntN.{pos}
use mir.Syntax.{w64}
use mir.ValLaws.{to_z-of_z}
use Rattle.norm_judge.proofs.bound_of.Goals as goal

pub returns : goal.returns
returns c = to_z-of_z w64 (pos c.bound_of.result) (search rules) ∙ ap pos c.bound_of.ensures.0

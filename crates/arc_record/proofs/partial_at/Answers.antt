-- `arc_record::partial_at` meets its contract.
use Prim.Native.Nat.{◌+◌, ◌-◌}
use native.Mathlib.Omega.{arith}
use mathlib.Core.Path.{◌∙◌}
use mir.Syntax.{w16}
use mir.ValLaws.{to_z-of_z}
use Rattle.byte_words.proofs.Parts.{signed_part}
use borrow.Author.Rules.{rules}
use Rattle.arc_record.proofs.partial_at.Goals as goal

pub returns : goal.returns
returns c =
    to_z-of_z w16 c.read_i16.result (search rules) ∙ c.read_i16.ensures ∙ signed_part w16 c.args.bytes.now c.args.at (c.args.at + 2 - c.args.at) 0 c.args.at (omega arith) (omega arith)

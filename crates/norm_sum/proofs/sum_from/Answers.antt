-- `norm_sum::sum_from` meets its contract.
use Prim.Native.Nat.{◌+◌, ◌-◌}
use native.Mathlib.Omega.{arith}
use mathlib.Core.Path.{◌∙◌}
use mir.Syntax.{w64}
use mir.ValLaws.{to_z-of_z}
use Rattle.byte_words.proofs.Parts.{signed_part}
use borrow.Author.Rules.{rules}
use Rattle.norm_sum.proofs.sum_from.Goals as goal

pub returns : goal.returns
returns c =
    to_z-of_z w64 c.read_i64.result (search rules) ∙ c.read_i64.ensures ∙ signed_part w64 c.args.s.now c.args.at (c.args.at + 8 - c.args.at) 0 c.args.at (omega arith) (omega arith)

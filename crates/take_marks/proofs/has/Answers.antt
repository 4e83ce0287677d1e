-- `take_marks::has` meets its contract.
use mathlib.Core.Path.{ap, ◌∙◌}
use Prim.Native.Nat.{◌/◌, ◌^◌}
use lib.Bits.{and_mask}
use Rattle.num_whole.specs.Tests.{same}
use Rattle.num_whole.proofs.Cases.{by_same}
use Rattle.take_marks.specs.Marks.{digit, has_mark}
use Rattle.take_marks.proofs.has.Goals as goal

pub returns : goal.returns
unfolding has_mark digit
returns c = by_same _ _ ∙ ap (λ d. same d 1) (and_mask (c.args.word / 2 ^ c.args.k) 1)

-- `take_marks::with_mark` meets its contract: the digit that is set is within the word.
use mathlib.Core.Path.{ap, ◌∙◌}
use Prim.Native.Nat.{ℕ, ◌%◌, ◌^◌}
use native.Mathlib.Nat.{one-mul, mod-eq_of_lt}
use lib.Pow.{pow-lt}
use lib.Bits.{bit_or}
use Rattle.take_marks.specs.Marks.{with_mark}
use Rattle.take_marks.proofs.with_mark.Goals as goal

pub returns : goal.returns
unfolding with_mark
returns c = ap (bit_or c.args.word) (ap (λ (x : ℕ). x % 2 ^ 16) (one-mul (2 ^ c.args.k)) ∙ mod-eq_of_lt (pow-lt c.requires))

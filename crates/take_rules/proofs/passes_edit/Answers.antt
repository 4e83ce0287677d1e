-- `take_rules::passes_edit` meets its contract: the products fit, and the test is the definition's.
use native.Mathlib.Omega.{arith}
use mathlib.Core.Path.{◌≡◌, ap, ◌∙◌}
use Prim.Native.Nat.{◌*◌, ◌≤◌}
use native.Mathlib.Nat.{mul-le-mul}
use lib.IntN.{nat_abs}
use mir.Syntax.{w64}
use mir.ValLaws.{to_z-of_z}
use Rattle.num_whole.proofs.Cases.{by_up_to}
use Rattle.take_rules.specs.Rules.{passes_edit}
use Rattle.take_rules.proofs.passes_edit.Lts
use Rattle.take_rules.proofs.passes_edit.Reads
use Rattle.take_rules.proofs.passes_edit.Tie
use Rattle.take_rules.proofs.passes_edit.Goals as goal

-- the facts known at one place of the code
abbrev At-After-magnitude : Type 0
At-After-magnitude = Lts.After-magnitude Tie.the-claims Reads.Pre Reads.Post

-- the size that was worked out is that of r
size : (c : At-After-magnitude) → c.magnitude.result ≡ nat_abs c.args.r
size c = c.magnitude.ensures ∙ ap nat_abs (to_z-of_z w64 c.args.r c.ranges.r)

product : (c : At-After-magnitude) → c.args.level * c.args.s ≤ 65535 * 65535
product c =
    let a : c.args.level ≤ 65535 = omega arith in
    let b : c.args.s ≤ 65535 = omega arith in
    mul-le-mul a b

pub overflow_mul-result : goal.overflow_mul-result
overflow_mul-result c = omega (arith, size c)

pub overflow_mul-result-2 : goal.overflow_mul-result-2
overflow_mul-result-2 c = omega (arith, product c)

pub overflow_mul-result-3 : goal.overflow_mul-result-3
overflow_mul-result-3 c = omega (arith, mul-le-mul (product c) c.requires.0)

pub returns : goal.returns
unfolding passes_edit
returns c = rw (size c) (by_up_to _ _)

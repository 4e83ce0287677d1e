-- `num_packed::is_past` meets its contract: the bound's negative is a number of 64 bits.
use mathlib.Core.Path.{sym, ap₂, ◌∙◌}
use lib.Signed.{lt_z}
use mir.Syntax.{w64}
use mir.ValLaws.{to_z-of_z}
use Rattle.num_packed.proofs.Tests.{neg_fits, lower, lower_back, test_of, chosen, other}
use Rattle.num_packed.proofs.is_past.Goals as goal

pub returns-then-bound-x : goal.returns-then-bound-x
returns-then-bound-x c =
    c.if-bound-x.true ∙ sym (chosen _ _ _ (test_of _ _ _ _ _ (to_z-of_z w64 _ c.ranges.bound) (to_z-of_z w64 _ c.ranges.x) c.if-bound-x.true))

pub returns-else-bound-x : goal.returns-else-bound-x
returns-else-bound-x c =
    ap₂ lt_z (to_z-of_z w64 _ c.ranges.x) (lower_back _ c.requires c.ranges.bound)
    ∙ sym (other _ _ _ (test_of _ _ _ _ _ (to_z-of_z w64 _ c.ranges.bound) (to_z-of_z w64 _ c.ranges.x) c.if-bound-x.false))

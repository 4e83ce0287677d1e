-- `norm_sum::is_past` meets its contract: the bound and its negative are numbers of 64 bits.
use mathlib.Core.Path.{◌≡◌, ap₂, sym, ◌∙◌}
use mathlib.Core.Bool.{Bool, true, false}
use lib.IntN.{pos}
use lib.Signed.{lt_z, le_z_yes}
use lib.Dec.{le→leb}
use Prim.Native.Nat.{zero-le}
use native.Mathlib.Omega.{arith}
use mir.Syntax.{w64}
use mir.Val.{SFits, to_z, of_z}
use mir.ValLaws.{to_z-of_z}
use Rattle.num_packed.proofs.Tests.{lower_back, test_of, chosen, other}
use Rattle.norm_sum.specs.Sums.{past}
use Rattle.norm_sum.proofs.is_past.Lts
use Rattle.norm_sum.proofs.is_past.Reads
use Rattle.norm_sum.proofs.is_past.Goals as goal

-- the facts known at one place of the code
abbrev At-Start : Type 0
At-Start = Lts.Start Reads.Pre Reads.Post

bits : (s : At-Start) → SFits w64 (pos s.args.bound)
bits s = record { sfits = omega arith }

above : (s : At-Start) (t : Bool) → lt_z (to_z w64 s.args.bound) (to_z w64 (of_z w64 s.args.x)) ≡ t → lt_z (pos s.args.bound) s.args.x ≡ t
above s t e = test_of _ _ _ _ t (to_z-of_z w64 _ (bits s)) (to_z-of_z w64 _ s.ranges.x) e

pub returns-then-b-x : goal.returns-then-b-x
unfolding past
returns-then-b-x c = c.if-b-x.true ∙ sym (chosen _ _ _ (above c.before true c.if-b-x.true))

pub returns-else-b-x : goal.returns-else-b-x
unfolding past
returns-else-b-x c =
    ap₂ lt_z (to_z-of_z w64 _ c.ranges.x) (lower_back _ (le_z_yes (le→leb 0 c.args.bound zero-le)) (bits c.before)) ∙ sym (other _ _ _ (above c.before false c.if-b-x.false))

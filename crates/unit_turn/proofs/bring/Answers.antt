-- `unit_turn::bring` meets its contract: its two tests are the definition's, and no sum is too large.
use mathlib.Core.Path.{◌≡◌, subst}
use mathlib.Core.Bool.{true, false}
use lib.Dec.{lit≤}
use lib.IntN.{pos, neg_ℤ}
use lib.Signed.{lt_z}
use mir.Facts.{to_z-of_z}
use Rattle.num_whole.proofs.Cases.{yes, no}
use Rattle.unit_types.specs.Types.{turn}
use Rattle.unit_turn.specs.Turning.{half_turn, brought}
use Rattle.unit_turn.proofs.Words.{minus_fits, minus_is}
use Rattle.unit_turn.proofs.bring.Goals as goal

pub overflow_sub-result : goal.overflow_sub-result
overflow_sub-result c = minus_fits c.args.r (pos turn) c.requires (lit≤ tt)

pub returns-then-r-gt843314856 : goal.returns-then-r-gt843314856
unfolding brought
returns-then-r-gt843314856 c =
    yes _ _ _ (subst (λ z. lt_z (pos half_turn) z ≡ true) (to_z-of_z c.ranges.r) c.if-r-gt843314856.true)
    (minus_is c.args.r (pos turn) c.requires (lit≤ tt))

pub overflow_add-result : goal.overflow_add-result
overflow_add-result c = minus_fits c.args.r (neg_ℤ (pos turn)) c.requires (lit≤ tt)

pub returns-then-r-ltminus843314856 : goal.returns-then-r-ltminus843314856
unfolding brought
returns-then-r-ltminus843314856 c =
    no _ _ _ (subst (λ z. lt_z (pos half_turn) z ≡ false) (to_z-of_z c.ranges.r) c.if-r-gt843314856.false)
    (yes _ _ _ (subst (λ z. lt_z z (neg_ℤ (pos half_turn)) ≡ true) (to_z-of_z c.ranges.r) c.if-r-ltminus843314856.true)
    (minus_is c.args.r (neg_ℤ (pos turn)) c.requires (lit≤ tt)))

pub returns : goal.returns
unfolding brought
returns c =
    no _ _ _ (subst (λ z. lt_z (pos half_turn) z ≡ false) (to_z-of_z c.ranges.r) c.if-r-gt843314856.false)
    (no _ _ _ (subst (λ z. lt_z z (neg_ℤ (pos half_turn)) ≡ false) (to_z-of_z c.ranges.r) c.if-r-ltminus843314856.false)
    (to_z-of_z c.ranges.r))

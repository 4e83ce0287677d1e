-- `take_tally::mark_sound` meets its contract: its tests are the definition's.
use mathlib.Core.Path.{◌≡◌, refl, sym, ◌∙◌}
use mathlib.Core.Bool.{Bool, true, false, not}
use native.Mathlib.Omega.{arith}
use Rattle.num_whole.proofs.Cases.{yes, no, by_same, is_less, not_less}
use Rattle.num_packed.proofs.Places.{tri_next, tri_within}
use Rattle.take_tally.specs.Parts.{mark_good}
use Rattle.take_tally.proofs.mark_sound.Goals as goal

-- the negation turned round
off : (b : Bool) → not b ≡ true → b ≡ false
off true e = sym e
off false e = refl

on : (b : Bool) → not b ≡ false → b ≡ true
on true e = refl
on false e = sym e

pub is_seen-requires : goal.is_seen-requires
is_seen-requires c =
    let a = c.args in
    (omega arith, omega (arith, tri_next a.i, tri_within a.i a.p (omega arith)))

pub returns-then-is_seen : goal.returns-then-is_seen
unfolding mark_good
returns-then-is_seen c =
    (yes _ _ _ (is_less _ _ (omega arith)) (no _ _ _ (off _ (sym c.is_seen.ensures ∙ c.if-is_seen.true)) c.is_marked.ensures), omega arith)

pub returns-else-is_seen : goal.returns-else-is_seen
unfolding mark_good
returns-else-is_seen c =
    (yes _ _ _ (is_less _ _ (omega arith)) (yes _ _ _ (on _ (sym c.is_seen.ensures ∙ c.if-is_seen.false)) (by_same _ _)), omega arith)

pub returns-then-p-i : goal.returns-then-p-i
unfolding mark_good
returns-then-p-i c = (no _ _ _ (not_less _ _ (omega arith)) (by_same _ _), omega arith)

use mathlib.Core.Path.{◌≡◌, sym, ◌∙◌, subst}
use mathlib.Core.Bool.{true}
use native.Mathlib.Omega.{arith}
use native.Mathlib.Nat.{le_antisymm}
use Rattle.num_whole.specs.Tests.{below}
use Rattle.num_whole.proofs.Tables.{below_fails}
use Rattle.num_packed.specs.Plain.{seen_at}
use Rattle.num_packed.proofs.Plain.{none_yet, one_more}
use Rattle.num_packed.proofs.Places.{tri_next, tri_within}
use Rattle.num_packed.proofs.all_seen.Goals as goal

pub loop-i-init : goal.loop-i-init
loop-i-init c = (omega arith, none_yet _)

pub is_seen-requires : goal.is_seen-requires
is_seen-requires c =
    let i = c.loop-i.i in
    (omega arith, omega (arith, tri_next i, tri_within i c.args.p (omega arith)))

pub loop-i-preserved : goal.loop-i-preserved
loop-i-preserved c =
    let l = c.loop-i in
    (omega arith, one_more _ l.i l.invariant.1 (sym c.is_seen.ensures ∙ c.if-not-is_seen.false))

pub returns-then-not-is_seen : goal.returns-then-not-is_seen
returns-then-not-is_seen c =
    let l = c.loop-i in
    sym (below_fails _ _ l.i (omega arith) (sym c.is_seen.ensures ∙ c.if-not-is_seen.true))

pub returns : goal.returns
returns c =
    let l = c.loop-i in
    sym (subst (λ n. below (seen_at c.args.s.now) n ≡ true) (le_antisymm l.invariant.0 (omega arith)) l.invariant.1)

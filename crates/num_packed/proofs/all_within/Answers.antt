use mathlib.Core.Path.{◌≡◌, sym, ap, ◌∙◌, subst}
use mathlib.Core.Bool.{true}
use native.Mathlib.Omega.{arith}
use native.Mathlib.Nat.{le_antisymm}
use mir.Syntax.{w64}
use mir.Val.{to_z, of_z}
use mir.ValLaws.{to_z-of_z}
use Rattle.num_whole.specs.Tests.{below}
use Rattle.num_whole.proofs.Tables.{below_fails}
use Rattle.num_packed.specs.Plain.{within_at}
use Rattle.num_packed.proofs.Plain.{none_yet, one_more}
use Rattle.num_packed.proofs.all_within.Lts
use Rattle.num_packed.proofs.all_within.Reads
use Rattle.num_packed.proofs.all_within.Tie
use Rattle.num_packed.proofs.all_within.Goals as goal

-- the facts known at one place of the code
abbrev At-Start : Type 0
At-Start = Lts.Start Tie.the-claims Reads.Pre Reads.Post goal.the-invariant-loop-k goal.the-decreases-loop-k Tie.handed_clauses

-- the bound's bits are the bound
plain : (s : At-Start) → below (within_at (to_z w64 (of_z w64 s.args.bound)) s.args.s.now) s.args.n ≡ below (within_at s.args.bound s.args.s.now) s.args.n
plain s = ap (λ b. below (within_at b s.args.s.now) s.args.n) (to_z-of_z w64 s.args.bound s.ranges.bound)

pub loop-k-init : goal.loop-k-init
loop-k-init c = (omega arith, none_yet _)

pub is_within-requires : goal.is_within-requires
is_within-requires c =
    record {
      k_in_bounds = omega arith;
      pos_bound = rw (to_z-of_z w64 c.args.bound c.ranges.bound) c.requires.pos_bound;
    }

pub loop-k-preserved : goal.loop-k-preserved
loop-k-preserved c =
    let l = c.loop-k in
    (omega arith, one_more _ l.k l.invariant.1 (sym c.is_within.ensures ∙ c.if-not-is_within.false))

pub returns-then-not-is_within : goal.returns-then-not-is_within
returns-then-not-is_within c =
    let l = c.loop-k in
    sym (below_fails _ _ l.k (omega arith) (sym c.is_within.ensures ∙ c.if-not-is_within.true)) ∙ plain c.before.before.before.before

pub returns : goal.returns
returns c =
    let l = c.loop-k in
    let a = c.args in
    sym (subst (λ n. below (within_at (to_z w64 (of_z w64 a.bound)) a.s.now) n ≡ true) (le_antisymm l.invariant.0 (omega arith)) l.invariant.1) ∙ plain c.before.before

use mathlib.Core.Path.{◌≡◌, sym, ap, ◌∙◌}
use native.Mathlib.Nat.{sub-zero}
use native.Mathlib.Omega.{arith}
use borrow.Author.Rules.{rules}
use mir.Syntax.{w64}
use mir.Val.{to_z, of_z}
use mir.ValLaws.{to_z-of_z}
use Rattle.num_packed.specs.Sound.{breaks_side}
use Rattle.num_packed.specs.Found.{first_from}
use Rattle.num_packed.proofs.Places.{tri_next, tri_within}
use Rattle.num_packed.proofs.Found.{first_end, first_here, first_on}
use Rattle.num_packed.proofs.first_broken_side.Lts
use Rattle.num_packed.proofs.first_broken_side.Reads
use Rattle.num_packed.proofs.first_broken_side.Tie
use Rattle.num_packed.proofs.first_broken_side.Goals as goal

-- the facts known at one place of the code
abbrev At-Start : Type 0
At-Start = Lts.Start Tie.the-claims Reads.Pre Reads.Post goal.the-invariant-loop-i goal.the-decreases-loop-i Tie.handed_clauses

-- the walk at the bound's bits is the walk at the bound
plain : (s : At-Start)
    → first_from (breaks_side (to_z w64 (of_z w64 s.args.bound)) s.args.s.now s.args.r.now) 0 s.args.p
    ≡ first_from (breaks_side s.args.bound s.args.s.now s.args.r.now) 0 s.args.p
plain s = ap (λ b. first_from (breaks_side b s.args.s.now s.args.r.now) 0 s.args.p) (to_z-of_z w64 s.args.bound s.ranges.bound)

pub loop-i-init : goal.loop-i-init
loop-i-init c = (search rules, rw sub-zero)

pub is_broken_side-requires : goal.is_broken_side-requires
is_broken_side-requires c =
    let i = c.loop-i.i in record {
      i_lt_labels_most = omega arith;
      i_in_bounds = (omega (arith, tri_next i, tri_within i c.args.p (omega arith)), omega arith);
      pos_bound = rw (to_z-of_z w64 c.args.bound c.ranges.bound) c.requires.pos_bound;
    }

pub returns-then-is_broken_side : goal.returns-then-is_broken_side
returns-then-is_broken_side c =
    let l = c.loop-i in
    sym (l.invariant.1 ∙ first_here _ _ l.i (omega arith) (sym c.is_broken_side.ensures ∙ c.if-is_broken_side.true)) ∙ plain c.before.before.before.before

pub loop-i-preserved : goal.loop-i-preserved
loop-i-preserved c =
    let l = c.loop-i in
    (search rules, l.invariant.1 ∙ first_on _ _ l.i (omega arith) (sym c.is_broken_side.ensures ∙ c.if-is_broken_side.false))

pub returns : goal.returns
returns c =
    let l = c.loop-i in
    sym (l.invariant.1 ∙ first_end _ _ l.i (omega arith)) ∙ plain c.before.before

use mathlib.Core.Path.{◌≡◌, refl, sym, ap, ◌∙◌}
use native.Mathlib.Nat.{sub-zero}
use native.Mathlib.Omega.{arith}
use mir.Syntax.{w64}
use mir.Val.{to_z, of_z}
use mir.ValLaws.{to_z-of_z}
use Rattle.num_packed.specs.Sound.{breaks}
use Rattle.num_packed.specs.Found.{at, columns_from, told_walked}
use Rattle.num_packed.proofs.Places.{tri_next, tri_within}
use Rattle.num_packed.proofs.Found.{first_end, first_here, first_on, columns_end, columns_here, columns_on}
use Rattle.num_packed.proofs.walk.Lts
use Rattle.num_packed.proofs.walk.Reads
use Rattle.num_packed.proofs.walk.Tie
use Rattle.num_packed.proofs.walk.Goals as goal

-- the facts known at one place of the code
abbrev At-Start : Type 0
At-Start = Lts.Start Tie.the-claims Reads.Pre Reads.Post goal.the-invariant-loop-i goal.the-decreases-loop-i goal.the-invariant-all goal.the-decreases-all Tie.handed_clauses

-- the walk at the bound's bits is the walk at the bound
plain : (s : At-Start)
    → columns_from (breaks (to_z w64 (of_z w64 s.args.bound)) s.args.s.now) 0 s.args.p ≡ columns_from (breaks s.args.bound s.args.s.now) 0 s.args.p
plain s = ap (λ b. columns_from (breaks b s.args.s.now) 0 s.args.p) (to_z-of_z w64 s.args.bound s.ranges.bound)

pub all-init : goal.all-init
all-init c = (omega arith, refl, rw sub-zero)

pub loop-i-init : goal.loop-i-init
loop-i-init c = (omega arith, refl, rw sub-zero)

pub is_broken-requires : goal.is_broken-requires
is_broken-requires c =
    let j = c.all.j in record {
      i_le_j = omega arith;
      j_in_bounds = omega (arith, tri_next j, tri_within j c.args.p (omega arith), c.requires.p_le_labels_most.1);
      pos_bound = rw (to_z-of_z w64 c.args.bound c.ranges.bound) c.requires.pos_bound;
    }

pub loop-i-preserved : goal.loop-i-preserved
loop-i-preserved c =
    let l = c.loop-i in
    (omega arith, l.invariant.1, l.invariant.2 ∙ first_on _ _ l.i (omega arith) (sym c.is_broken.ensures ∙ c.if-is_broken.false))

pub all-preserved : goal.all-preserved
all-preserved c =
    let l = c.loop-i in
    let a = c.all in
    (omega arith, l.invariant.1 ∙ a.invariant.1, a.invariant.2 ∙ columns_on _ _ a.j (omega arith) (l.invariant.2 ∙ first_end _ _ l.i (omega arith)))

pub returns-after-all : goal.returns-after-all
returns-after-all c =
    let a = c.all in
    ap told_walked a.invariant.1 ∙ sym (a.invariant.2 ∙ columns_end _ _ a.j (omega arith)) ∙ plain c.before.before

pub returns-then-is_broken : goal.returns-then-is_broken
returns-then-is_broken c =
    let l = c.loop-i in
    let a = c.all in
    let found = l.invariant.2 ∙ first_here _ _ l.i (omega arith) (sym c.is_broken.ensures ∙ c.if-is_broken.true) in
    ap at c.place.ensures ∙ sym (a.invariant.2 ∙ columns_here _ _ a.j (omega arith) l.i found) ∙ plain c.before.before.before.before.before.before.before

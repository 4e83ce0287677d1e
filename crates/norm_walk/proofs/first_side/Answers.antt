use native.Mathlib.Omega.{arith}
use mathlib.Core.Path.{refl, sym, ◌∙◌}
use native.Mathlib.Nat.{sub-zero}
use Rattle.num_packed.proofs.Places.{tri_next, tri_within}
use Rattle.num_packed.proofs.Found.{first_end, first_here, first_on}
use Rattle.norm_walk.proofs.first_side.Goals as goal

pub loop-i-init : goal.loop-i-init
loop-i-init c = (omega arith, rw sub-zero refl)

pub is_broken_side-requires : goal.is_broken_side-requires
is_broken_side-requires c =
    let a = c.args in
    let i = c.loop-i.i in record {
      i_lt_labels_most = omega arith;
      i_in_bounds = (omega (arith, tri_next i, tri_within i a.p (omega arith)), omega arith);
      bound_bound = omega arith;
    }

pub returns-then-is_broken_side : goal.returns-then-is_broken_side
returns-then-is_broken_side c =
    let l = c.loop-i in
    let test = sym (c.is_broken_side.ensures _ _ (omega (arith, tri_next l.i, tri_within l.i c.args.p (omega arith))) (omega arith)) ∙ c.if-is_broken_side.true in
    sym (l.invariant.1 ∙ first_here _ _ l.i (omega arith) test)

pub loop-i-preserved : goal.loop-i-preserved
loop-i-preserved c =
    let l = c.loop-i in
    let test = sym (c.is_broken_side.ensures _ _ (omega (arith, tri_next l.i, tri_within l.i c.args.p (omega arith))) (omega arith)) ∙ c.if-is_broken_side.false in
    (omega arith, l.invariant.1 ∙ first_on _ _ l.i (omega arith) test)

pub returns : goal.returns
returns c = sym (c.loop-i.invariant.1 ∙ first_end _ _ c.loop-i.i (omega arith))

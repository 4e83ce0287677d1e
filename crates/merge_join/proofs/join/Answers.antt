use mathlib.Core.Path.{◌∙◌}
use Prim.Native.Nat.{◌-◌}
use native.Mathlib.Omega.{arith}
use borrow.Author.Rules.{rules}
use lib.ListN.{length-set}
use Rattle.merge_join.proofs.Joining.{walk_starts, walk_on, walk_ends}
use Rattle.merge_join.proofs.join.Goals as goal

pub loop-i-init : goal.loop-i-init
loop-i-init c = (omega arith, omega arith, omega arith, search rules, search rules, walk_starts _ _ _ _)

pub loop-i-preserved : goal.loop-i-preserved
loop-i-preserved c =
    let l = c.loop-i in
    let e = c.step-t.ensures in (
      e.within_left,
      e.within_right,
      omega (arith, e.on),
      length-set l.left l.n _ ∙ l.invariant.3,
      length-set l.right l.n _ ∙ l.invariant.4,
      walk_on _ _ _ _ l.left l.right l.i l.j l.n c.step-t.result e l.invariant.5,
    )

pub returns : goal.returns
returns c =
    let l = c.loop-i in
    walk_ends _ _ _ _ l.left l.right l.i l.j l.n (search rules) (search rules) (omega arith) (omega arith) l.invariant.5

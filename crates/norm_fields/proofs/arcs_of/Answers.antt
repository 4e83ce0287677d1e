use mathlib.Core.Path.{◌≡◌, refl, sym, ◌∙◌}
use native.Mathlib.Omega.{arith}
use lib.ListN.{length-set}
use Rattle.norm_fields.proofs.Fields.{arc_at, copied}
use Rattle.norm_fields.proofs.arcs_of.Goals as goal

pub loop-i-init : goal.loop-i-init
loop-i-init c = (omega arith, refl, refl)

pub overflow_cast-arcs : goal.overflow_cast-arcs
overflow_cast-arcs c = omega (arith, arc_at c.args.heads.now c.args.n c.loop-i.i (omega arith) c.requires.2 (omega arith))

pub loop-i-preserved : goal.loop-i-preserved
loop-i-preserved c =
    let l = c.loop-i in
    (omega arith, length-set l.arcs l.i _ ∙ l.invariant.1, copied l.arcs c.args.heads.now l.i (omega arith) (omega arith) l.invariant.2)

pub returns : goal.returns
returns c =
    let l = c.loop-i in
    let e : l.i ≡ c.args.n = omega arith in
    (rw e at l.invariant.2, sym l.invariant.1)

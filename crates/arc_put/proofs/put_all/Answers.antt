use Rattle.std.proofs.Common.{◌∙◌, sym, arith, drop_of_length-le}
use Rattle.byte_section.proofs.Laid.{laid_none, laid_one}
use Rattle.arc_put.proofs.Laws.{item_left, long_left}
use Rattle.arc_put.proofs.put_all.Goals as goal

pub put-requires : goal.put-requires
put-requires g c =
    let here = item_left _ _ _ c.r-item.is c.loop-r-test.true in
    let inv = c.loop-r.invariant.0 in
    omega (arith, inv, long_left g.R.Put.bytes _ g.met.R.Put.sized here)

pub overflow_add-at : goal.overflow_add-at
overflow_add-at g c =
    let here = item_left _ _ _ c.r-item.is c.loop-r-test.true in
    let inv = c.loop-r.invariant.0 in
    omega (arith, inv, c.SIZE-at.ensures, long_left g.R.Put.bytes _ g.met.R.Put.sized here)

pub loop-r-preserved : goal.loop-r-preserved
loop-r-preserved g c =
    let here = item_left _ _ _ c.r-item.is c.loop-r-test.true in
    let inv = c.loop-r.invariant in (
      omega (arith, inv.0, c.SIZE-at.ensures, long_left g.R.Put.bytes _ g.met.R.Put.sized here),
      rw (c.put.ensures, c.SIZE-at.ensures) (inv.1 ∙ laid_one g.R.Put.bytes _ g.met.R.Put.sized _ _ here),
    )

pub returns : goal.returns
returns g c = sym (c.loop-r.invariant.1 ∙ laid_none g.R.Put.bytes _ g.met.R.Put.sized _ _ (drop_of_length-le _ c.loop-r-test.false))

use Prim.Native.Nat.{◌-◌}
use mathlib.Core.Path.{sym, ◌∙◌}
use native.Mathlib.Omega.{arith}
use lib.ListN.{length-set}
use Rattle.decimal.proofs.Back.{write_start, place_left, write_turn, write_last}
use Rattle.decimal.proofs.digits.Goals as goal

pub loop-x-init : goal.loop-x-init
loop-x-init c = (c.requires, omega arith, omega arith, omega arith, write_start c.args.n c.args.last.now c.requires)

pub loop-x-preserved : goal.loop-x-preserved
loop-x-preserved c =
    let l = c.loop-x in
    let e = c.digit.ensures in
    let p = place_left l.x l.i (omega arith) l.invariant.3 in (
      length-set l.last (l.i - 1) c.digit.result ∙ l.invariant.0,
      p.0,
      omega arith,
      p.1,
      rw e (write_turn l.last _ l.x l.i (omega arith) l.invariant.4 (omega arith) (omega arith)),
    )

pub shape_of-last : goal.shape_of-last
shape_of-last c =
    let l = c.loop-x in
    length-set l.last (l.i - 1) c.digit-2.result ∙ l.invariant.0 ∙ sym c.requires

pub returns : goal.returns
returns c =
    let l = c.loop-x in
    let e = c.digit-2.ensures in
    (omega arith, rw e (write_last l.last _ l.x l.i (omega arith) l.invariant.4 (omega arith) (omega arith)))

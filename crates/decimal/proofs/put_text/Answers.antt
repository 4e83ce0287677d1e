use Prim.Native.Nat.{◌+◌, ◌-◌}
use mathlib.Core.Path.{refl, sym, ap₂, ◌∙◌}
use native.Mathlib.Nat.{add-zero}
use native.Mathlib.Omega.{arith}
use lib.ListN.{length-set}
use Rattle.decimal.specs.Laid.{laid}
use Rattle.decimal.proofs.Laying.{copy_turn, copy_end}
use Rattle.decimal.proofs.put_text.Goals as goal

pub loop-i-init : goal.loop-i-init
loop-i-init c = (omega arith, refl, rw add-zero)

pub loop-i-preserved : goal.loop-i-preserved
loop-i-preserved c =
    let l = c.loop-i in
    let a = c.args in (
      omega arith,
      length-set l.room (a.at + l.i) _ ∙ l.invariant.1,
      sym (copy_turn l.room a.text.now a.at l.i (omega arith)) ∙ l.invariant.2,
    )

pub returns : goal.returns
unfolding laid
returns c =
    let l = c.loop-i in
    let a = c.args in
    ap₂ (λ x y. (x, y)) (sym (copy_end l.room a.text.now a.at l.i (omega arith)) ∙ l.invariant.2) (omega arith)

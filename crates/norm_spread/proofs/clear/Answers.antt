use mathlib.Core.Path.{refl, sym, ◌∙◌}
use native.Mathlib.Omega.{arith}
use lib.IntN.{pos}
use lib.ListN.{length-set}
use Rattle.norm_spread.proofs.Rows.{rows_start, rows_end, rows_turn}
use Rattle.norm_spread.proofs.clear.Goals as goal

pub loop-i-init : goal.loop-i-init
loop-i-init c = (omega arith, refl, rows_start _ _ _ _)

pub loop-i-preserved : goal.loop-i-preserved
loop-i-preserved c =
    let l = c.loop-i in
    (omega arith, length-set l.out _ _ ∙ l.invariant.1, l.invariant.2 ∙ rows_turn (λ i. pos 0) l.out _ l.i _ (omega arith))

pub returns : goal.returns
returns c = sym (c.loop-i.invariant.2 ∙ rows_end (λ i. pos 0) _ _ _ _ (omega arith))

use Prim.Native.Nat.{◌-◌}
use mathlib.Core.Path.{refl, ◌∙◌}
use native.Mathlib.Omega.{arith}
use Rattle.list_lines.proofs.Laws.{lines_turn, lines_end, tallies_turn, tallies_end}
use Rattle.list_tallies.proofs.put_tallies.Goals as goal

pub loop-k-init : goal.loop-k-init
loop-k-init c = (omega arith, omega arith, refl, refl)

pub loop-k-preserved : goal.loop-k-preserved
loop-k-preserved c =
    let l = c.loop-k in
    let table = c.args.table.now in
    (omega arith, omega arith, c.put_tally-at.auto.room ∙ l.invariant.2, lines_turn _ _ _ _ c.put_tally-at.ensures (tallies_turn table l.k (omega arith)) l.invariant.3)

pub returns : goal.returns
returns c = lines_end _ _ c.min.ensures (tallies_end _ _ (omega arith)) c.loop-k.invariant.3

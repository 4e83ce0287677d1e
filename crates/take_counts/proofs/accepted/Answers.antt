use borrow.Author.Rules.{rules}
use native.Mathlib.Omega.{arith}
use Rattle.take_counts.proofs.Totals.{sum_end, sum_more}
use Rattle.take_counts.proofs.accepted.Goals as goal

pub loop-station-init : goal.loop-station-init
loop-station-init c = (search rules, search rules, search rules, λ few. omega arith, omega arith)

pub loop-station-preserved : goal.loop-station-preserved
loop-station-preserved c =
    let l = c.loop-station in (
      omega arith,
      l.invariant.1,
      omega arith,
      λ few. omega (arith, l.invariant.3 few, few l.station (omega arith)),
      omega (arith, l.invariant.4, sum_more c.args.counts l.station (omega arith)),
    )

pub returns : goal.returns
returns c =
    let l = c.loop-station in
    (omega (arith, l.invariant.4, sum_end c.args.counts l.station (omega arith)), λ few. omega (arith, l.invariant.3 few))

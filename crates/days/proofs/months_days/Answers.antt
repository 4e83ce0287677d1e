use Prim.Native.Nat.{◌+◌, ◌-◌}
use mathlib.Core.Path.{◌≡◌, sym, ap, ◌∙◌}
use native.Mathlib.Omega.{arith}
use Rattle.days.specs.Calendar.{days_of_months}
use Rattle.days.proofs.Calendar.{month_range, no_months, months_next, months_most}
use Rattle.days.proofs.months_days.Goals as goal

pub loop-i-init : goal.loop-i-init
loop-i-init c = (omega arith, sym (no_months _))

pub overflow_add-days : goal.overflow_add-days
overflow_add-days c =
    let year = c.args.year in
    let i = c.loop-i.i in
    omega (arith, months_most year i, month_range year (i + 1))

pub loop-i-preserved : goal.loop-i-preserved
loop-i-preserved c = (omega arith, omega (arith, months_next c.args.year c.loop-i.i))

pub returns : goal.returns
returns c =
    let done : c.loop-i.i ≡ c.args.n = omega arith in
    c.loop-i.invariant.1 ∙ ap (days_of_months _) done

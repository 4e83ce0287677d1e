use Prim.Native.Nat.{suc, ◌+◌, ◌-◌, ◌<◌}
use mathlib.Core.Path.{◌≡◌, ap}
use native.Mathlib.Omega.{arith}
use Rattle.days.specs.Calendar.{days_of_months, day_number}
use Rattle.days.proofs.Calendar.{month_range, no_months, month_step, before, months_up, is_date_lem}
use Rattle.days.proofs.date_in_year.Goals as goal

pub loop-length-init : goal.loop-length-init
loop-length-init c = (omega arith, omega arith, omega arith, c.month_length-length.ensures, omega (arith, no_months c.args.year))

pub loop-length-smaller : goal.loop-length-smaller
loop-length-smaller c = omega (arith, month_range c.args.year c.loop-length.month)

pub loop-length-preserved : goal.loop-length-preserved
loop-length-preserved c =
    let year = c.args.year in
    let month = c.loop-length.month in
    let next : month + 1 - 1 ≡ suc (month - 1) = omega arith in
    let passed = ap (days_of_months year) next in
    let step = month_step year month (omega arith) in
    let more : suc (month - 1) < 12 = before (days_of_months year) (months_up year) _ _ (omega arith) in
    (omega arith, omega arith, omega arith, c.month_length-length-in-loop-length.ensures, omega arith)

pub returns : goal.returns
unfolding day_number
returns c = (is_date_lem _ (omega arith), omega arith)

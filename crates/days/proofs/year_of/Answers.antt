-- `days::year_of` meets its contract: by the law of the years in one form, the day lies after the years before its year and within it.
use Prim.Native.Nat.{suc, ◌+◌, ◌*◌, ◌-◌, ◌/◌}
use native.Mathlib.Omega.{arith}
use Rattle.days.proofs.Calendar.{year_step, years_closed}
use Rattle.days.proofs.year_of.Goals as goal

pub returns : goal.returns
returns c =
    let year = 1950 + (4 * c.args.number - 2) / 1461 in
    let before = years_closed (year - 1950) (omega arith) in
    let through = years_closed (suc (year - 1950)) (omega arith) in
    let step = year_step year (omega arith) in
    record { first = omega arith; last = omega arith; after = omega arith; within = omega arith }

-- `days::day_of_date` meets its contract: of a real date the three parts fit, and their sum is its number.
use Prim.Native.Nat.{◌+◌}
use mathlib.Core.Path.{◌≡◌, refl, sym, ap, ◌∙◌}
use native.Mathlib.Omega.{arith}
use Rattle.num_whole.specs.Answer.{given}
use Rattle.num_whole.proofs.Cases.{yes, no}
use Rattle.days.specs.Calendar.{day_number, day_of_date}
use Rattle.days.proofs.Calendar.{real, number_range}
use Rattle.days.proofs.day_of_date.Goals as goal

pub overflow_sub-date : goal.overflow_sub-date
overflow_sub-date c = omega (arith, real _ (sym c.is_date.ensures ∙ c.if-is_date.true))

pub years_days-years-requires : goal.years_days-years-requires
years_days-years-requires c = omega (arith, real _ (sym c.is_date.ensures ∙ c.if-is_date.true))

pub overflow_sub-date-then-is_date : goal.overflow_sub-date-then-is_date
overflow_sub-date-then-is_date c = omega (arith, real _ (sym c.is_date.ensures ∙ c.if-is_date.true))

pub months_days-months-requires : goal.months_days-months-requires
months_days-months-requires c = omega (arith, real _ (sym c.is_date.ensures ∙ c.if-is_date.true))

pub overflow_add-result : goal.overflow_add-result
unfolding day_number
overflow_add-result c = omega (arith, number_range _ (sym c.is_date.ensures ∙ c.if-is_date.true))

pub overflow_add-result-then-is_date : goal.overflow_add-result-then-is_date
unfolding day_number
overflow_add-result-then-is_date c = omega (arith, number_range _ (sym c.is_date.ensures ∙ c.if-is_date.true))

pub returns-then-is_date : goal.returns-then-is_date
unfolding day_of_date day_number
returns-then-is_date c =
    let t = c.args.date in
    let n : c.years_days-years.result + c.months_days-months.result + t.day ≡ day_number t = omega arith in
    yes _ _ _ (sym c.is_date.ensures ∙ c.if-is_date.true) (ap given n)

pub returns-else-is_date : goal.returns-else-is_date
unfolding day_of_date
returns-else-is_date c = no _ _ _ (sym c.is_date.ensures ∙ c.if-is_date.false) refl

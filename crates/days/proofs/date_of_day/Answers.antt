-- `days::date_of_day` meets its contract: the date that it makes is real and has the number, and no other is found from it.
use mathlib.Core.Path.{◌≡◌, refl, sym, ap, ◌∙◌}
use native.Mathlib.Omega.{arith}
use Rattle.num_whole.proofs.Cases.{no, between_true}
use Rattle.days.specs.Calendar.{day_number, date_of_day}
use Rattle.days.proofs.Undo.{found}
use Rattle.days.proofs.date_of_day.Goals as goal

pub year_of-year-requires : goal.year_of-year-requires
year_of-year-requires c = omega (arith, between_true _ _ _ (sym c.within.ensures ∙ c.if-within.true))

pub returns-then-within : goal.returns-then-within
returns-then-within c =
    let t = c.date_in_year.result in
    let e : day_number t ≡ c.args.number = omega arith in
    sym (found t c.date_in_year.ensures.0) ∙ ap date_of_day e

pub returns-else-within : goal.returns-else-within
unfolding date_of_day
returns-else-within c = no _ _ _ (sym c.within.ensures ∙ c.if-within.false) refl

-- The two directions undo each other: a real date is fixed by its number, each day's number is one more than the last, and so the date
-- that lies n - 1 days after 1950 Jan 1 is the one whose number is n.
-- Assumes nothing.
use Prim.Native.Nat.{ℕ, zero, suc, ◌+◌, ◌-◌, ◌≤◌, ◌<◌}
use mathlib.Core.Path.{◌≡◌, refl, sym, ap, ◌∙◌, subst}
use mathlib.Core.Bool.{true}
use native.Mathlib.Omega.{arith}
use Rattle.num_whole.specs.Answer.{given}
use Rattle.num_whole.specs.Tests.{less}
use Rattle.num_whole.proofs.Cases.{by_cases, yes, no, is_between, less_true, less_false}
use Rattle.days.specs.Calendar.{month_length, days_of_months, days_of_years, is_date, day_number, day_of_date, date_of, tomorrow, date_after, date_of_day}
use Rattle.days.specs.declared.Date.{Date}
use Rattle.days.proofs.Calendar.{before, one_place, month_range, no_months, months_up, month_step, years_up, year_step, years_all, Real, real, is_date_lem, past_years, within_years, number_range}

-- ---- two real dates with one number are equal
pub same_number : (t u : Date) → is_date t ≡ true → is_date u ≡ true → day_number t ≡ day_number u → t ≡ u
unfolding day_number
same_number t u tReal uReal e =
    let p : Real t = real t tReal in
    let q : Real u = real u uReal in
    let years : t.year - 1950 ≡ u.year - 1950
    = one_place days_of_years years_up _ _ (past_years t p) (within_years t p) (omega (arith, past_years u q)) (omega (arith, within_years u q)) in
    let year : t.year ≡ u.year = omega arith in
    let yearsPassed = ap (λ y. days_of_years (y - 1950)) year in
    let monthsPassed = ap (λ y. days_of_months y (u.month - 1)) year in
    let monthsThrough = ap (λ y. days_of_months y (suc (u.month - 1))) year in
    let step = month_step t.year t.month p.month_low in
    let stepToo = month_step u.year u.month q.month_low in
    let months : t.month - 1 ≡ u.month - 1
    = one_place (days_of_months t.year) (months_up t.year) {x = days_of_months t.year (t.month - 1) + t.day} _ _
    (omega arith) (omega arith) (omega arith) (omega arith) in
    let month : t.month ≡ u.month = omega arith in
    let day : t.day ≡ u.day = omega (arith, ap (days_of_months t.year) months) in
    λ i. record { year = year i; month = month i; day = day i }

-- ---- the day after is a real date, up to the last, and its number is one more
module _ (t : Date) (P : Date → Type 0) where
  tomorrow_cases :
      (t.day < month_length t.year t.month → P (date_of t.year t.month (t.day + 1))) →
      (month_length t.year t.month ≤ t.day → t.month < 12 → P (date_of t.year (t.month + 1) 1)) →
      (month_length t.year t.month ≤ t.day → 12 ≤ t.month → P (date_of (t.year + 1) 1 1)) → P (tomorrow t)
  unfolding tomorrow
  tomorrow_cases f g h =
      by_cases (less t.day (month_length t.year t.month))
      (λ a. subst P (yes _ _ _ a refl) (f (less_true _ _ a)))
      (λ a. by_cases (less t.month 12)
      (λ b. subst P (no _ _ _ a (yes _ _ _ b refl)) (g (less_false _ _ a) (less_true _ _ b)))
      (λ b. subst P (no _ _ _ a (no _ _ _ b refl)) (h (less_false _ _ a) (less_false _ _ b))))

-- the last day of a year ends the years up to it
year_end : (t : Date) → Real t → month_length t.year t.month ≤ t.day → 12 ≤ t.month → day_number t ≡ days_of_years (suc (t.year - 1950))
unfolding day_number
year_end t r a b =
    let last : suc (t.month - 1) ≡ 12 = omega arith in
    omega (arith, year_step t.year r.year_low, month_step t.year t.month r.month_low, ap (days_of_months t.year) last)

pub tomorrow_number : (t : Date) → is_date t ≡ true → day_number (tomorrow t) ≡ day_number t + 1
unfolding day_number
tomorrow_number t e =
    let r : Real t = real t e in
    let month : t.month + 1 - 1 ≡ suc (t.month - 1) = omega arith in
    let year : t.year + 1 - 1950 ≡ suc (t.year - 1950) = omega arith in
    tomorrow_cases t (λ u. day_number u ≡ day_number t + 1)
    (λ a. omega arith)
    (λ a b. omega (arith, ap (days_of_months t.year) month, month_step t.year t.month r.month_low))
    (λ a b. omega (arith, ap days_of_years year, year_end t r a b, no_months (t.year + 1)))

pub tomorrow_date : (t : Date) → is_date t ≡ true → day_number t < 54787 → is_date (tomorrow t) ≡ true
tomorrow_date t e h =
    let r : Real t = real t e in
    tomorrow_cases t (λ u. is_date u ≡ true)
    (λ a. is_date_lem _ (omega arith))
    (λ a b. is_date_lem _ (omega (arith, month_range t.year (t.month + 1))))
    (λ a b.
    let end : day_number t ≡ days_of_years (suc (t.year - 1950)) = year_end t r a b in
    is_date_lem _ (omega (arith, month_range (t.year + 1) 1, before days_of_years years_up (suc (t.year - 1950)) 150 (omega (arith, years_all)))))

-- ---- the date n days after 1950 Jan 1
first : (is_date (date_of 1950 1 1) ≡ true) × (day_number (date_of 1950 1 1) ≡ 1)
unfolding day_number days_of_years days_of_months
first = (is_date_lem _ (omega (arith, month_range 1950 1)), refl)

-- is real, and its number is n + 1
pub after : (n : ℕ) → n < 54787 → (is_date (date_after n) ≡ true) × (day_number (date_after n) ≡ n + 1)
unfolding date_after
after zero h = first
after (suc n) h =
    let last = after n (omega arith) in
    (tomorrow_date _ last.0 (omega arith), tomorrow_number _ last.0 ∙ omega arith)

-- a real date is the one that is found from its number
pub found : (t : Date) → is_date t ≡ true → date_of_day (day_number t) ≡ given t
unfolding date_of_day
found t e =
    let range = number_range t e in
    let there = after (day_number t - 1) (omega arith) in
    let itself : date_after (day_number t - 1) ≡ t = same_number _ t there.0 e (omega arith) in
    sym (yes _ _ _ (is_between _ _ _ range.0 range.1) (ap given (sym itself)))

-- ---- "Both directions are public", and each undoes the other
-- from a number to a date and back
pub day_back : (n : ℕ) → 1 ≤ n → n ≤ 54787 → (t : Date) × (date_of_day n ≡ given t) × (day_of_date t ≡ given n)
unfolding date_of_day day_of_date
day_back n p q =
    let there = after (n - 1) (omega arith) in
    let number : n ≡ day_number (date_after (n - 1)) = omega arith in
    (date_after (n - 1), sym (yes _ _ _ (is_between _ _ _ p q) refl), sym (yes _ _ _ there.0 (ap given number)))

-- from a date to its number and back
pub date_back : (t : Date) → is_date t ≡ true → (day_of_date t ≡ given (day_number t)) × (date_of_day (day_number t) ≡ given t)
unfolding day_of_date
date_back t e = (sym (yes _ _ _ e refl), found t e)

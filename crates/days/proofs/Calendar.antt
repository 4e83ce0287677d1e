-- Laws of the calendar: leap years, the days of months and of years, and the place of a real date among them.
-- Assumes nothing.
use Prim.Native.Nat.{ℕ, zero, suc, ◌+◌, ◌*◌, ◌-◌, ◌/◌, ◌%◌, ◌≤◌, ◌<◌}
use mathlib.Core.Path.{◌≡◌, refl, sym, ap, ◌∙◌}
use mathlib.Core.Bool.{Bool, true, false, beq}
use native.Mathlib.Nat.{add-sub_of_le, add-zero, add-suc, le_refl, le_trans}
use native.Mathlib.Numerals.{add-one}
use native.Mathlib.Omega.{arith}
use Rattle.num_whole.specs.Tests.{less, same, pick, both, either, below}
use Rattle.num_whole.proofs.Cases.{by_cases, same_true, same_false, less_true, less_false, is_between, between_true, holds, both_first, both_second}
use Rattle.num_whole.proofs.Tables.{below_at}
use Rattle.days.specs.Calendar.{leap, month_length, days_of_months, days_of_years, is_date, day_number}
use Rattle.days.specs.declared.Date.{Date}

-- ---- a count that never falls, as the days of the first n months or years
module _ (count : ℕ → ℕ) (up : (n : ℕ) → count n ≤ count (suc n)) where
  further : (a k : ℕ) → count a ≤ count (a + k)
  further a zero = rw add-zero (le_refl (count a))
  further a (suc k) = rw add-suc (le_trans (further a k) (up (a + k)))

  pub rises : (a b : ℕ) → a ≤ b → count a ≤ count b
  rises a b h = let e : a + (b - a) ≡ b = add-sub_of_le h in rw e at (further a (b - a))

  pub before : (a b : ℕ) → count a < count b → a < b
  before a b h =
      by_cases (less a b) (less_true a b)
      (λ t. let back : count b ≤ count a = rises b a (less_false a b t) in omega arith)

  -- a number past the first a and within the first a + 1 is so for one a only
  pub one_place : {x : ℕ} (a b : ℕ) → count a < x → x ≤ count (suc a) → count b < x → x ≤ count (suc b) → a ≡ b
  one_place a b p q r s = omega (arith, before a (suc b) (omega arith), before b (suc a) (omega arith))

-- ---- leap years
-- of the years 1950 to 2099 every fourth is a leap year, the first 1952: one test for all of them
fourth : ℕ → Bool
fourth n = beq (leap (1950 + n)) (same (n % 4) 2)

fourths : below fourth 150 ≡ true
unfolding below fourth leap both either same
fourths = refl

agree : (a b : Bool) → beq a b ≡ true → a ≡ b
agree true true e = refl
agree true false e = sym e
agree false true e = e
agree false false e = refl

pub every_fourth : (n : ℕ) → n < 150 → leap (1950 + n) ≡ same (n % 4) 2
unfolding fourth
every_fourth n h = agree _ _ (below_at fourth 150 fourths n h)

-- ---- the days of months
picked : (P : ℕ → Type 0) (t : Bool) {x y : ℕ} → P x → P y → P (pick t x y)
unfolding pick
picked P true p q = p
picked P false p q = q

abbrev Usual : ℕ → Type 0
Usual n = (28 ≤ n) × (n ≤ 31)

pub month_range : (year month : ℕ) → (28 ≤ month_length year month) × (month_length year month ≤ 31)
unfolding month_length
month_range year month =
    picked Usual _ (picked Usual (leap year) {x = 29} {y = 28} (omega arith) (omega arith)) (picked Usual _ {x = 30} {y = 31} (omega arith) (omega arith))

pub no_months : (year : ℕ) → days_of_months year 0 ≡ 0
unfolding days_of_months
no_months year = refl

pub months_up : (year n : ℕ) → days_of_months year n ≤ days_of_months year (suc n)
unfolding days_of_months
months_up year n = omega arith

pub months_next : (year n : ℕ) → days_of_months year (n + 1) ≡ days_of_months year n + month_length year (n + 1)
unfolding days_of_months
months_next year n = rw add-one

pub months_most : (year n : ℕ) → days_of_months year n ≤ 31 * n
unfolding days_of_months
months_most year zero = omega arith
months_most year (suc n) = omega (arith, months_most year n, month_range year (suc n))

-- the months up to one are those before it, and it
pub month_step : (year month : ℕ) → 1 ≤ month → days_of_months year (suc (month - 1)) ≡ days_of_months year (month - 1) + month_length year month
unfolding days_of_months
month_step year month h =
    let e : suc (month - 1) ≡ month = omega arith in
    ap (λ m. days_of_months year (month - 1) + month_length year m) e

-- ---- the days of years
pub year_length : (year : ℕ) → days_of_months year 12 ≡ pick (leap year) 366 365
unfolding days_of_months month_length same either pick
year_length year = by_cases (leap year) (λ e. rw e) (λ e. rw e)

pub years_up : (n : ℕ) → days_of_years n ≤ days_of_years (suc n)
unfolding days_of_years
years_up n = omega arith

-- the years up to one are those before it, and it
pub year_step : (year : ℕ) → 1950 ≤ year → days_of_years (suc (year - 1950)) ≡ days_of_years (year - 1950) + days_of_months year 12
unfolding days_of_years
year_step year h = ap (λ y. days_of_years (year - 1950) + days_of_months y 12) (add-sub_of_le h)

-- in one form, without the months: 365 days a year, and one more for each leap year
pub years_closed : (n : ℕ) → n ≤ 150 → days_of_years n ≡ 365 * n + (n + 1) / 4
unfolding days_of_years pick
years_closed zero h = refl
years_closed (suc n) h =
    let before : days_of_years n ≡ 365 * n + (n + 1) / 4 = years_closed n (omega arith) in
    let year : days_of_months (1950 + n) 12 ≡ pick (same (n % 4) 2) 366 365
    = year_length (1950 + n) ∙ ap (λ b. pick b 366 365) (every_fourth n h) in
    by_cases (same (n % 4) 2)
    (λ t. omega (arith, rw t at year, same_true _ _ t))
    (λ t. omega (arith, rw t at year, same_false _ _ t))

-- "2099 Dec 31 is 54,787"
pub years_all : days_of_years 150 ≡ 54787
years_all = years_closed 150 (le_refl 150)

-- ---- a real date
pub record Real (t : Date) : Type 0 where
  pub year_low : 1950 ≤ t.year
  pub year_high : t.year ≤ 2099
  pub month_low : 1 ≤ t.month
  pub month_high : t.month ≤ 12
  pub day_low : 1 ≤ t.day
  pub day_high : t.day ≤ month_length t.year t.month

pub real : (t : Date) → is_date t ≡ true → Real t
unfolding is_date
real t e =
    let year = between_true _ _ _ (both_first _ _ e) in
    let month = between_true _ _ _ (both_first _ _ (both_second _ _ e)) in
    let day = between_true _ _ _ (both_second _ _ (both_second _ _ e)) in
    record { year_low = year.0; year_high = year.1; month_low = month.0; month_high = month.1; day_low = day.0; day_high = day.1 }

pub is_date_lem : (t : Date) → Real t → is_date t ≡ true
unfolding is_date
is_date_lem t r =
    sym (holds _ _ (is_between _ _ _ r.year_low r.year_high)
    (holds _ _ (is_between _ _ _ r.month_low r.month_high) (sym (is_between _ _ _ r.day_low r.day_high))))

-- where its day lies: among the days of its year, past the years before it and within those up to it
pub in_year : (t : Date) → Real t → days_of_months t.year (t.month - 1) + t.day ≤ days_of_months t.year 12
in_year t r =
    omega (arith, month_step t.year t.month r.month_low, rises (days_of_months t.year) (months_up t.year) (suc (t.month - 1)) 12 (omega arith))

pub past_years : (t : Date) → Real t → days_of_years (t.year - 1950) < day_number t
unfolding day_number
past_years t r = omega arith

pub within_years : (t : Date) → Real t → day_number t ≤ days_of_years (suc (t.year - 1950))
unfolding day_number
within_years t r = omega (arith, in_year t r, year_step t.year r.year_low)

-- its number is from 1 to 54,787
pub number_range : (t : Date) → is_date t ≡ true → (1 ≤ day_number t) × (day_number t ≤ 54787)
number_range t e =
    let r : Real t = real t e in
    omega (arith, past_years t r, within_years t r, years_all, rises days_of_years years_up (suc (t.year - 1950)) 150 (omega arith))

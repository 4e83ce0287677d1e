-- The listed days by their numbers, which the checker computes from their dates.
-- Assumes nothing.
use mathlib.Core.Path.{◌≡◌, refl, sym, ap, subst}
use mathlib.Core.Bool.{true}
use mathlib.Core.List.{List, [], ◌∷◌}
use Prim.Native.Nat.{ℕ}
use lib.ListN.{length}
use Rattle.num_whole.specs.Tests.{less, up_to, same, pick, both, either, between}
use Rattle.num_whole.specs.Lists.{all, ascend}
use Rattle.days.specs.Calendar.{leap, month_length, days_of_months, days_of_years, is_date, day_number}
use Rattle.days_leap.specs.Leap.{listed_dates, numbers_of_dates, listed_days}
use Rattle.days_leap.specs.Parts.{listed_most}

unfoldable pub listing : List ℕ
listing =
    8217 ∷ 8401 ∷ 8766 ∷ 9131 ∷ 9496 ∷ 9862 ∷ 10227 ∷ 10592 ∷ 10957 ∷ 11504 ∷ 11869 ∷ 12234 ∷ 12965 ∷ 13879 ∷ 14610 ∷ 14975 ∷ 15522 ∷ 15887 ∷ 16252 ∷ 16801 ∷ 17348 ∷ 17897 ∷ 20454 ∷ 21550 ∷ 22827 ∷ 23922 ∷ 24472 ∷ []

pub listed_so : listed_days ≡ listing
unfolding listing listed_days listed_dates numbers_of_dates day_number days_of_years days_of_months month_length leap less up_to same pick both either
listed_so = refl

-- each is a day of the calendar, and there are 27 of them
pub real_dates : all is_date listed_dates ≡ true
unfolding all listed_dates is_date month_length leap less up_to same pick both either between
real_dates = refl

pub listed_count : length listed_days ≡ listed_most
unfolding listing
listed_count = ap length listed_so

-- each lies after the one before it
pub ascending : ascend (λ n. n) 0 listed_days ≡ true
unfolding listing ascend both up_to
ascending = subst (λ l. ascend (λ n. n) 0 l ≡ true) (sym listed_so) refl

-- the first is 1972 Jun 30
pub first_listed : ascend (λ n. n) 8217 listed_days ≡ true
unfolding listing ascend both up_to
first_listed = subst (λ l. ascend (λ n. n) 8217 l ≡ true) (sym listed_so) refl

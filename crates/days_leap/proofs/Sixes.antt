-- The listed days by sixes and the days between them: how many lie before a day, where the day stands among those between.
-- Assumes nothing.
use Prim.Native.Nat.{ℕ, ◌+◌, ◌≤◌, ◌<◌}
use mathlib.Core.Path.{◌≡◌, refl, ap, ◌∙◌}
use mathlib.Core.List.{List, [], ◌∷◌, ◌++◌}
use native.Mathlib.Omega.{arith}
use Rattle.num_whole.specs.Tests.{up_to, both}
use Rattle.num_whole.specs.Lists.{ascend}
use Rattle.days_leap.specs.Leap.{days_before, listed_days, listed_before}
use Rattle.days_leap.proofs.Counts.{before_none, before_one, before_all, before_append}
use Rattle.days_leap.proofs.Listed.{listing, listed_so}

abbrev pub six1 : List ℕ
six1 = 8217 ∷ 8401 ∷ 8766 ∷ 9131 ∷ 9496 ∷ 9862 ∷ []

abbrev pub six2 : List ℕ
six2 = 10592 ∷ 10957 ∷ 11504 ∷ 11869 ∷ 12234 ∷ 12965 ∷ []

abbrev pub six3 : List ℕ
six3 = 14610 ∷ 14975 ∷ 15522 ∷ 15887 ∷ 16252 ∷ 16801 ∷ []

abbrev pub six4 : List ℕ
six4 = 17897 ∷ 20454 ∷ 21550 ∷ 22827 ∷ 23922 ∷ 24472 ∷ []

-- what stands after the first six, the first thirteen, the first twenty
abbrev after1 : List ℕ
after1 = 10227 ∷ (six2 ++ 13879 ∷ (six3 ++ 17348 ∷ six4))

abbrev after2 : List ℕ
after2 = 13879 ∷ (six3 ++ 17348 ∷ six4)

abbrev after3 : List ℕ
after3 = 17348 ∷ six4

by_sixes : listed_days ≡ six1 ++ after1
unfolding listing
by_sixes = listed_so

module _ (d : ℕ) where
  all_of : listed_before d ≡ days_before d six1 + days_before d after1
  unfolding listed_before
  all_of = ap (days_before d) by_sixes ∙ before_append d six1 after1

  of_1 : 10227 < d → days_before d after1 ≡ 1 + (days_before d six2 + days_before d after2)
  of_1 h = before_one d 10227 (six2 ++ after2) h ∙ ap (λ n. 1 + n) (before_append d six2 after2)

  of_2 : 13879 < d → days_before d after2 ≡ 1 + (days_before d six3 + days_before d after3)
  of_2 h = before_one d 13879 (six3 ++ after3) h ∙ ap (λ n. 1 + n) (before_append d six3 after3)

  of_3 : 17348 < d → days_before d after3 ≡ 1 + days_before d six4
  of_3 h = before_one d 17348 six4 h

  none_1 : d ≤ 10227 → days_before d after1 ≡ 0
  unfolding ascend both up_to
  none_1 h = before_none d 10227 h after1 refl

  none_2 : d ≤ 13879 → days_before d after2 ≡ 0
  unfolding ascend both up_to
  none_2 h = before_none d 13879 h after2 refl

  none_3 : d ≤ 17348 → days_before d after3 ≡ 0
  unfolding ascend both up_to
  none_3 h = before_none d 17348 h after3 refl

  -- where a day between them lies before, so do the six before that
  every_1 : 10227 < d → days_before d six1 ≡ 6
  every_1 h = before_all d six1 (omega arith, (omega arith, (omega arith, (omega arith, (omega arith, (omega arith, tt))))))

  every_2 : 13879 < d → days_before d six2 ≡ 6
  every_2 h = before_all d six2 (omega arith, (omega arith, (omega arith, (omega arith, (omega arith, (omega arith, tt))))))

  every_3 : 17348 < d → days_before d six3 ≡ 6
  every_3 h = before_all d six3 (omega arith, (omega arith, (omega arith, (omega arith, (omega arith, (omega arith, tt))))))

  pub in_first : d ≤ 10227 → days_before d six1 ≡ listed_before d
  in_first h = omega (arith, all_of, none_1 h)

  pub in_second : 10227 < d → d ≤ 13879 → 7 + days_before d six2 ≡ listed_before d
  in_second l h = omega (arith, all_of, every_1 l, of_1 l, none_2 h)

  pub in_third : 13879 < d → d ≤ 17348 → 14 + days_before d six3 ≡ listed_before d
  in_third l h = omega (arith, all_of, every_1 (omega arith), every_2 l, of_1 (omega arith), of_2 l, none_3 h)

  pub in_fourth : 17348 < d → 21 + days_before d six4 ≡ listed_before d
  in_fourth l = omega (arith, all_of, every_1 (omega arith), every_2 (omega arith), every_3 l, of_1 (omega arith), of_2 (omega arith), of_3 l)

  -- after the last of them all lie before
  pub all_before : 24472 < d → 27 ≡ listed_before d
  all_before l =
      let last = before_all d six4 (omega arith, (omega arith, (omega arith, (omega arith, (omega arith, (omega arith, tt)))))) in
      omega (arith, in_fourth (omega arith))

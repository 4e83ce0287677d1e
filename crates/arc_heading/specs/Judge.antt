-- Document 01: a heading that is handed in, of any values, is refused by 2, then 4, then 5, over the whole heading, or is sound. Slots past
-- the counts are not looked at.
use Rattle.std.specs.Prelude.{ℕ, ◌+◌, List, [], ◌∷◌, map, Bool, take}
use Rattle.num_whole.specs.Tests.{same, pick, both}
use Rattle.num_whole.specs.Answer.{Answered, given, refused}
use Rattle.num_whole.specs.Lists.{all, ascend}
use Rattle.arc_limits.specs.Limits.{settings_ok, label_ok, label_key, station_ok, station_key, numbers_ok}
use Rattle.arc_limits.specs.declared.Label.{Label}
use Rattle.arc_limits.specs.declared.Station.{Station}
use Rattle.arc_heading.specs.declared.Heading.{Heading}

-- the labels and the stations that count
unfoldable pub labels_of : Heading → List Label
labels_of h = take h.parameters h.labels

unfoldable pub stations_of : Heading → List Station
stations_of h = take h.stations h.listed

unfoldable pub counts_ok : Heading → Bool
counts_ok h = numbers_ok h.parameters h.stations

unfoldable pub fields_ok : Heading → Bool
fields_ok h = both (settings_ok h.settings) (both (all label_ok (labels_of h)) (all station_ok (stations_of h)))

unfoldable pub orders_ok : Heading → Bool
orders_ok h = both (ascend label_key 0 (labels_of h)) (ascend station_key 0 (stations_of h))

unfoldable pub judged : Heading → Answered (Unit {0})
judged h = pick (counts_ok h) (pick (fields_ok h) (pick (orders_ok h) (given tt) (refused 5)) (refused 4)) (refused 2)

-- where a number stands among stations' numbers counted from i; 10 where it is not listed
unfoldable pub find_from : ℕ → ℕ → List ℕ → Answered ℕ
find_from number i [] = refused 10
find_from number i (x ∷ l) = pick (same x number) (given i) (find_from number (i + 1) l)

-- the numbers of stations, in their order
unfoldable pub numbers_of : List Station → List ℕ
numbers_of ts = map station_key ts

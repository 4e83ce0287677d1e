-- What is known of an arc file by its beginning: its heading and the count of its records, the records that are whole, and what is left of it
-- when these are taken out. A beginning may itself lack its first records, taken out before.
use Rattle.std.specs.Prelude.{ℕ, zero, suc, ◌+◌, ◌-◌, ◌*◌, List, [], ◌∷◌, ◌++◌, length, get_or, take, drop}
use Rattle.num_whole.specs.Tests.{less, pick}
use Rattle.num_limits.specs.Capacities.{parameters_most, stations_most, records_most}
use Rattle.num_whole.specs.Answer.{Judged, good, bad}
use Rattle.arc_limits.specs.Limits.{no_settings}
use Rattle.byte_section.specs.Section.{and_then, count_at, section_at}
use Rattle.arc_heading.specs.declared.Heading.{Heading}
use Rattle.arc_kinds.specs.Kinds.{settings_kind, label_kind, station_kind, record_size}
use Rattle.arc_front.specs.Front.{blank_heading}
use Rattle.arc_read.specs.Arc.{heading_of, Arc}

-- `readArc` as far as its records: the heading, how many records, and where the first of them stands
unfoldable pub opened : List ℕ → Judged Arc
opened s =
    and_then (section_at settings_kind s 1 1 0) λ a.
    and_then (section_at label_kind s 1 parameters_most a.next) λ b.
    and_then (section_at station_kind s 0 stations_most b.next) λ c.
    and_then (count_at s c.next 0 records_most) λ n.
    good (record { heading = heading_of (get_or a.items 0 no_settings) b.items c.items; count = n; start = c.next + 4 })

-- the size of its records, and where the last of them ends
abbrev pub size_of : Arc → ℕ
size_of a = record_size a.heading.parameters

abbrev pub ends_at : Arc → ℕ
ends_at a = a.start + a.count * size_of a

-- what is said of n bytes of a file that opens so: 1 where they end before its records do, 3 where bytes follow them
unfoldable pub closed_at : Arc → ℕ → Judged Arc
closed_at a n = pick (less n (ends_at a)) (bad 1 n) (pick (less (ends_at a) n) (bad 3 (ends_at a)) (good a))

-- ---- at most n records of one size: those that are whole, and what follows them
unfoldable pub whole : ℕ → ℕ → List ℕ → List (List ℕ)
whole size zero l = []
whole size (suc n) l = pick (less (length l) size) [] (take size l ∷ whole size n (drop size l))

unfoldable pub behind : ℕ → ℕ → List ℕ → List ℕ
behind size zero l = l
behind size (suc n) l = pick (less (length l) size) l (behind size n (drop size l))

-- ---- a beginning s of which some records were taken out
module _ (taken : ℕ) (s : List ℕ) where
  abbrev pub done_by : Judged Arc → List (List ℕ)
  done_by (good a) = whole (size_of a) (a.count - taken) (drop a.start s)
  done_by (bad number place) = []

  abbrev pub left_by : Judged Arc → List ℕ
  left_by (good a) = take a.start s ++ behind (size_of a) (a.count - taken) (drop a.start s)
  left_by (bad number place) = s

  -- the records that are whole in it
  unfoldable pub done : List (List ℕ)
  done = done_by (opened s)

  -- it without them
  unfoldable pub left : List ℕ
  left = left_by (opened s)

  -- what the reading of the file says of it, were it over here
  unfoldable pub read_at : Judged Arc
  read_at = and_then (opened s) (λ a. closed_at a (length s + taken * size_of a))

-- the heading; the blank one before all of it stands there
abbrev pub heading_by : Judged Arc → Heading
heading_by (good a) = a.heading
heading_by (bad number place) = blank_heading

unfoldable pub opened_heading : List ℕ → Heading
opened_heading s = heading_by (opened s)

-- Document 01, 'Arc file': the limits of the settings, of a parameter's label and of a station, and their orders. Each limit stands here
-- once: the reader, the judge of a heading that is handed in, and the writers go by it.
use Rattle.std.specs.Prelude.{ℕ, ◌+◌, ◌*◌, ◌^◌, Bool, false, ℤ, pos, neg_ℤ}
use Rattle.std.specs.Int.Signed.{le_z}
use Rattle.num_limits.specs.Capacities.{arc_most, day_after_last, parameters_most, stations_most}
use Rattle.num_whole.specs.Tests.{less, up_to, same, pick, both, between}
use Rattle.cells.specs.Cells.{is_parameter}
use Rattle.arc_limits.specs.declared.Settings.{Settings}
use Rattle.arc_limits.specs.declared.Label.{Label}
use Rattle.arc_limits.specs.declared.Station.{Station}

-- "arc u32 (1 to 999,999), first day u32, days u16 (1 to 30), edit level K u16 (10 to 100). First day plus days is at most 54,788; first
-- day at least 1."
unfoldable pub window_ok : ℕ → ℕ → Bool
window_ok first days = both (between 1 days 30) (both (up_to 1 first) (up_to (first + days) day_after_last))

unfoldable pub settings_ok : Settings → Bool
settings_ok s = both (between 1 s.arc arc_most) (both (between 10 s.level 100) (window_ok s.first s.days))

-- "Kinds: 1 geopotential cell, 2 station coordinate (0 to 2,999), 3 state (0 to 5), 4 drag or solar constant (0 to 1)."
unfoldable pub index_ok : ℕ → ℕ → Bool
index_ok kind index =
    pick (same kind 1) (is_parameter index)
    (pick (same kind 2) (less index 3000)
    (pick (same kind 3) (less index 6)
    (pick (same kind 4) (less index 2) false)))

-- "prior weight u32 (to 2^30)"
abbrev pub weight_most : ℕ
weight_most = 2 ^ 30

unfoldable pub label_ok : Label → Bool
label_ok l = both (up_to l.weight weight_most) (index_ok l.kind l.index)

-- "Strictly ascending by kind, index": kind and index as one number
unfoldable pub label_key : Label → ℕ
label_key l = l.kind * 65536 + l.index

-- "clock correction i32 (±60,000 ms)"
unfoldable pub correction_ok : ℤ → Bool
correction_ok c = both (le_z (neg_ℤ (pos 60000)) c) (le_z c (pos 60000))

-- "number u16 (to 999)"
unfoldable pub station_ok : Station → Bool
station_ok t = both (up_to t.number 999) (correction_ok t.correction)

-- "Strictly ascending by number"
unfoldable pub station_key : Station → ℕ
station_key t = t.number

-- "Parameters, 1 to 50"; "Stations, 0 to 16"
abbrev pub numbers_ok : ℕ → ℕ → Bool
numbers_ok parameters stations = both (between 1 parameters parameters_most) (up_to stations stations_most)

-- ---- what a slot that holds nothing has
abbrev pub no_settings : Settings
no_settings = record { arc = 0; first = 0; days = 0; level = 0 }

abbrev pub no_label : Label
no_label = record { kind = 0; index = 0; weight = 0; estimate = pos 0 }

abbrev pub no_station : Station
no_station = record { number = 0; correction = pos 0 }

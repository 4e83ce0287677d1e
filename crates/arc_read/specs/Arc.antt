-- Document 01, 'Arc file': "Four sections in this order, each after its u32 count"; "Files are read left to right".
use Rattle.std.specs.Prelude.{ℕ, ◌+◌, List, length, get_or}
use Rattle.num_limits.specs.Capacities.{parameters_most, records_most, stations_most}
use Rattle.arc_limits.specs.Limits.{no_settings, no_label, no_station}
use Rattle.num_whole.specs.Answer.{Judged}
use Rattle.byte_section.specs.Section.{and_then, section_at, closed}
use Rattle.arc_limits.specs.declared.Settings.{Settings}
use Rattle.arc_limits.specs.declared.Label.{Label}
use Rattle.arc_limits.specs.declared.Station.{Station}
use Rattle.arc_heading.specs.declared.Heading.{Heading}
use Rattle.arc_kinds.specs.Kinds.{settings_kind, label_kind, station_kind, record_kind}
use Rattle.num_whole.specs.Lists.{padded}
use Rattle.arc_read.specs.declared.ArcRead.{ArcRead}

-- a heading of what was read; slots past the counts are 0
unfoldable pub heading_of : Settings → List Label → List Station → Heading
heading_of a ls ts =
    record { settings = a; parameters = length ls; stations = length ts; labels = padded parameters_most no_label ls; listed = padded stations_most no_station ts }

-- what an arc file holds: its heading, how many records, and where the first of them stands
abbrev pub Arc : Type 0
Arc = ArcRead

-- "Settings, count 1; Parameters, 1 to 50; Stations, 0 to 16; Records, 0 to 65,535"; then 3
unfoldable pub read_arc : List ℕ → Judged Arc
read_arc s =
    and_then (section_at settings_kind s 1 1 0) λ a.
    and_then (section_at label_kind s 1 parameters_most a.next) λ b.
    and_then (section_at station_kind s 0 stations_most b.next) λ c.
    and_then (section_at (record_kind (length b.items)) s 0 records_most c.next) λ d.
    closed s d.next
    (record {
      heading = heading_of (get_or a.items 0 no_settings) b.items c.items;
      count = length d.items;
      start = c.next + 4;
    })

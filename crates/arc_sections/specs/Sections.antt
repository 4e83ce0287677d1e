-- For the proofs of the code alone: no public promise and no law cites this, and an auditor may skip it.
-- The sections of an arc file after its settings, each with what it leaves in an array.
use Rattle.std.specs.Prelude.{ℕ, ◌+◌, List, length}
use Rattle.num_limits.specs.Capacities.{parameters_most, records_most, stations_most}
use Rattle.arc_limits.specs.Limits.{no_label, no_station}
use Rattle.num_whole.specs.Answer.{Judged, good}
use Rattle.num_whole.specs.Lists.{padded}
use Rattle.byte_section.specs.Section.{Run, and_then, count_at, records, section_at}
use Rattle.byte_section.specs.Told.{span_of}
use Rattle.byte_section.specs.declared.Span.{Span}
use Rattle.arc_limits.specs.declared.Label.{Label}
use Rattle.arc_limits.specs.declared.Station.{Station}
use Rattle.arc_kinds.specs.Kinds.{label_kind, station_kind, record_kind}
use Rattle.arc_sections.specs.declared.Labels.{Labels}
use Rattle.arc_sections.specs.declared.Stations.{Stations}

-- the place after records that were put into slots, with the slots
unfoldable pub run_left : {A : Type 0} → Judged ℕ → List A → Judged (Run A)
run_left j slots = and_then j (λ next. good (record { items = slots; next = next }))

-- what was read, in an array of which the other slots are 0
abbrev pub labels_in : Run Label → Labels
labels_in r = record { count = length r.items; labels = padded parameters_most no_label r.items; next = r.next }

abbrev pub stations_in : Run Station → Stations
stations_in r = record { count = length r.items; listed = padded stations_most no_station r.items; next = r.next }

unfoldable pub labels_from : List ℕ → ℕ → ℕ → Judged Labels
labels_from s start n = and_then (records label_kind s n start 0) (λ r. good (labels_in r))

unfoldable pub labels_part : List ℕ → ℕ → Judged Labels
labels_part s at = and_then (count_at s at 1 parameters_most) (λ n. labels_from s (at + 4) n)

unfoldable pub stations_from : List ℕ → ℕ → ℕ → Judged Stations
stations_from s start n = and_then (records station_kind s n start 0) (λ r. good (stations_in r))

unfoldable pub stations_part : List ℕ → ℕ → Judged Stations
stations_part s at = and_then (count_at s at 0 stations_most) (λ n. stations_from s (at + 4) n)

unfoldable pub records_part : List ℕ → ℕ → ℕ → Judged Span
records_part s at p = span_of (section_at (record_kind p) s 0 records_most at)

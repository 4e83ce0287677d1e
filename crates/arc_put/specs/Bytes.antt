-- Document 01: the bytes of an arc file as it is written, and what holds where it is put.
use Rattle.std.specs.Prelude.{ℕ, ◌/◌, ◌≤◌, List, ◌++◌, Bool, length}
use Rattle.num_limits.specs.Capacities.{parameters_most, records_most, stations_most}
use Rattle.num_whole.specs.Tests.{up_to, both}
use Rattle.byte_words.specs.Words.{bytes_of}
use Rattle.byte_section.specs.Section.{encoded}
use Rattle.arc_heading.specs.Judge.{labels_of, stations_of, counts_ok}
use Rattle.arc_heading.specs.declared.Heading.{Heading}
use Rattle.arc_kinds.specs.Kinds.{settings_bytes, label_bytes, station_bytes, record_size}
use Rattle.arc_fields.specs.Sizes.{needed_for}

-- how many whole records a run has
unfoldable pub record_count : Heading → List ℕ → ℕ
record_count h run = length run / record_size h.parameters

-- the numbers of a file: the heading's counts, and "Records, 0 to 65,535"
unfoldable pub allowed : Heading → List ℕ → Bool
allowed h run = both (counts_ok h) (up_to (record_count h run) records_most)

-- the bytes of the file: four sections, each after its count
unfoldable pub arc_bytes : Heading → List ℕ → List ℕ
arc_bytes h run =
    bytes_of 4 1
    ++ (settings_bytes h.settings
    ++ (bytes_of 4 h.parameters
    ++ (encoded label_bytes (labels_of h)
    ++ (bytes_of 4 h.stations
    ++ (encoded station_bytes (stations_of h)
    ++ (bytes_of 4 (record_count h run)
    ++ run))))))

-- the counts are within their limits, and the file within the room
pub record Writable (h : Heading) (run : List ℕ) (room : ℕ) : Type 0 where
  pub few : h.parameters ≤ parameters_most
  pub seats : h.stations ≤ stations_most
  pub records : length run / record_size h.parameters ≤ records_most
  pub fits : needed_for h.parameters h.stations (length run) ≤ room

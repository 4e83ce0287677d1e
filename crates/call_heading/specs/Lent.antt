-- A heading in lent bytes, for callers that hand in numbers and slices only: where each value stands. Every list of bytes is a heading, since a
-- byte past the end counts as 0. Document 01: "for a heading, state, system or record in lent room, a length that
-- docs/ fixes by its numbers of parameters, stations and arcs alone (a number past its capacity standing as the capacity)".
use Rattle.std.specs.Prelude.{ℕ, ◌+◌, ◌*◌, min, List, [], ◌∷◌, ◌++◌, Bool, length}
use Rattle.num_limits.specs.Capacities.{parameters_most, stations_most}
use Rattle.num_whole.specs.Tests.{up_to, both}
use Rattle.refusal.specs.First.{unless, first}
use Rattle.byte_words.specs.Words.{word, bytes_of}
use Rattle.byte_section.specs.Section.{encoded}
use Rattle.arc_limits.specs.Limits.{no_label, no_station}
use Rattle.arc_heading.specs.Judge.{labels_of, stations_of, counts_ok}
use Rattle.arc_heading.specs.declared.Heading.{Heading}
use Rattle.arc_kinds.specs.Kinds.{settings_at, settings_bytes, label_at, label_bytes, station_at, station_bytes}
use Rattle.num_whole.specs.Lists.{padded}
use Rattle.byte_words.specs.Stands.{stands}
use Rattle.call_tally.specs.Tally.{has_tally}

-- ---- a heading: the settings' 12 bytes as in an arc file, the numbers of parameters and of stations, two bytes each, then the labels and the
-- stations as in an arc file
abbrev pub labels_held : List ℕ → ℕ
labels_held b = min (word 2 b 12) parameters_most

abbrev pub stations_held : List ℕ → ℕ
stations_held b = min (word 2 b 14) stations_most

-- 16 bytes, 16 a label, 8 a station
abbrev pub heading_long : ℕ → ℕ → ℕ
heading_long p t = 16 + 16 * p + 8 * t

unfoldable pub heading_in : List ℕ → Heading
heading_in b =
    record {
      settings = settings_at b 0;
      parameters = word 2 b 12;
      stations = word 2 b 14;
      labels = padded parameters_most no_label (stands (label_at b) 16 (labels_held b) 16);
      listed = padded stations_most no_station (stands (station_at b) 8 (stations_held b) (16 + 16 * labels_held b));
    }

unfoldable pub heading_bytes : Heading → List ℕ
heading_bytes h =
    settings_bytes h.settings
    ++ (bytes_of 2 h.parameters
    ++ (bytes_of 2 h.stations
    ++ (encoded label_bytes (labels_of h)
    ++ encoded station_bytes (stations_of h))))

-- the bytes are as many as their own numbers of parameters and stations want
unfoldable pub has_heading : List ℕ → Bool
has_heading b = up_to (heading_long (labels_held b) (stations_held b)) (length b)

-- whether a heading and a tally are there whole
abbrev pub has_both : List ℕ → List ℕ → Bool
has_both b t = both (has_heading b) (has_tally t)

-- ---- writing, of a heading in lent bytes: 20 where its two numbers are not there, 2 where they are none that the paper allows, 20 where the
-- heading is not there whole; 0 where its fields can be judged
unfoldable pub head_number : List ℕ → ℕ
head_number b = first (unless 20 (up_to 16 (length b)) ∷ unless 2 (counts_ok (heading_in b)) ∷ unless 20 (has_heading b) ∷ [])

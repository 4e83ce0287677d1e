-- A tally in lent bytes, for callers that hand in numbers and slices only: where each value stands. Every list of bytes is a tally, since a byte
-- past the end counts as 0.
use Rattle.std.specs.Prelude.{ℕ, List, ◌++◌, Bool, length}
use Rattle.num_limits.specs.Capacities.{stations_most, parameters_most}
use Rattle.num_whole.specs.Tests.{up_to}
use Rattle.byte_words.specs.Words.{word, bytes_of}
use Rattle.byte_words.specs.Stands.{stands}
use Rattle.byte_section.specs.Section.{encoded}
use Rattle.take_tally.specs.declared.Row.{Row}
use Rattle.take_tally.specs.declared.Tally.{Tally}

-- the square sum in eight bytes, sixteen counts of four, sixteen rows of ten times of eight, fifty words of marks of two
unfoldable pub times_row_at : List ℕ → ℕ → Row
times_row_at b at = record { times = stands (word 8 b) 8 10 at }

unfoldable pub tally_in : List ℕ → Tally
tally_in b =
    record {
      square = word 8 b 0;
      counts = stands (word 4 b) 4 stations_most 8;
      rows = stands (times_row_at b) 80 stations_most 72;
      marks = stands (word 2 b) 2 parameters_most 1352;
    }

unfoldable pub row_bytes : Row → List ℕ
row_bytes w = encoded (bytes_of 8) w.times

unfoldable pub tally_bytes : Tally → List ℕ
tally_bytes t = bytes_of 8 t.square ++ (encoded (bytes_of 4) t.counts ++ (encoded row_bytes t.rows ++ encoded (bytes_of 2) t.marks))

abbrev pub tally_long : ℕ
tally_long = 1452

unfoldable pub has_tally : List ℕ → Bool
has_tally b = up_to tally_long (length b)

-- A position in lent bytes, for callers that hand in numbers and slices only: where each value stands. Every list of bytes is a position, since a
-- byte past the end counts as 0.
use Rattle.std.specs.Prelude.{ℕ, List, ◌++◌, Bool, length, take}
use Rattle.num_whole.specs.Tests.{less, up_to, pick}
use Rattle.num_whole.specs.Lists.{padded}
use Rattle.byte_words.specs.Words.{word, bytes_of}
use Rattle.part_laws.specs.Entries.{position_most}
use Rattle.part_laws.specs.declared.Position.{Position}

-- the room for the bytes kept, then eight bytes each for how many they are, for the records taken and for whether the file is over; and the
-- length of all
abbrev pub length_at : ℕ
length_at = position_most

abbrev pub taken_at : ℕ
taken_at = 1096

abbrev pub over_at : ℕ
over_at = 1104

abbrev pub position_long : ℕ
position_long = 1112

-- any number but 0 says that the file is over
unfoldable pub position_in : List ℕ → Position
position_in b =
    record {
      kept = padded position_most 0 (take position_most b);
      length = word 8 b length_at;
      taken = word 8 b taken_at;
      over = less 0 (word 8 b over_at);
    }

unfoldable pub position_bytes : Position → List ℕ
position_bytes p = p.kept ++ (bytes_of 8 p.length ++ (bytes_of 8 p.taken ++ bytes_of 8 (pick p.over 1 0)))

unfoldable pub has_position : List ℕ → Bool
has_position b = up_to position_long (length b)

-- the last word is one that is written
unfoldable pub marked : List ℕ → Bool
marked b = up_to (word 8 b over_at) 1

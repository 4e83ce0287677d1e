-- Document 01, 'Arc file': "Records, each 32 + 2P bytes for P parameters: station u16, sigma s u16 in steps, type u32, day u32, ms u32, observed
-- f64, computed f64, P partials i16".
use Rattle.std.specs.Prelude.{ℕ, zero, suc, ◌+◌, ◌*◌, List, [], ◌∷◌, length, take, drop, ℤ}
use Rattle.std.specs.Float.{binary64}
use Rattle.std.specs.Float.Ieee.{of_bits}
use Rattle.std.specs.Int.{w16}
use Rattle.num_limits.specs.Capacities.{parameters_most}
use Rattle.num_whole.specs.Tests.{up_to, pick, both}
use Rattle.byte_words.specs.Words.{word, signed_word}
use Rattle.arc_kinds.specs.Kinds.{record_size}
use Rattle.arc_record.specs.declared.Record.{Record}

-- record i of those that begin at a place, or nothing where the bytes have no such whole record
unfoldable pub record_part : List ℕ → ℕ → ℕ → ℕ → List ℕ
record_part s start p i =
    pick (both (up_to p parameters_most) (up_to (start + suc i * record_size p) (length s)))
    (take (record_size p) (drop (start + i * record_size p) s)) []

-- the record of some bytes; its doubles are those of their patterns
unfoldable pub record_in : List ℕ → Record
record_in b =
    record {
      station = word 2 b 0;
      sigma = word 2 b 2;
      kind = word 4 b 4;
      day = word 4 b 8;
      ms = word 4 b 12;
      observed = of_bits binary64 (word 8 b 16);
      computed = of_bits binary64 (word 8 b 24);
    }

-- n partials from a place on
unfoldable pub partials_from : ℕ → List ℕ → ℕ → List ℤ
partials_from zero b at = []
partials_from (suc n) b at = signed_word w16 b at ∷ partials_from n b (at + 2)

-- the partials of a record of p parameters
unfoldable pub partials_in : ℕ → List ℕ → List ℤ
partials_in p b = partials_from p b 32

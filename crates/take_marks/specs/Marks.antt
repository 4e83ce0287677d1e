-- Document 02, #105: "Keep beside the sums, for each parameter, a mark for each station that gave an accepted partial other than zero, and give the
-- number of stations for each parameter." Document 01: "sixteen station marks in one word per parameter": the mark of the station of row k is
-- the word's digit of 2^k.
use Rattle.std.specs.Prelude.{ℕ, zero, suc, ◌+◌, ◌/◌, ◌%◌, ◌^◌, Bool, not, List, [], ◌∷◌, ℤ, get_or}
use Rattle.std.specs.Int.Bits.{bit_or}
use Rattle.std.specs.Int.Count.{ones}
use Rattle.num_limits.specs.Capacities.{stations_most}
use Rattle.num_whole.specs.Tests.{less, same, pick, either, below}
use Rattle.num_packed.specs.Sound.{is_zero}

-- the word's digit of 2^k
unfoldable pub digit : ℕ → ℕ → ℕ
digit word k = word / 2 ^ k % 2

-- the station of row k has a mark
unfoldable pub has_mark : ℕ → ℕ → Bool
has_mark word k = same (digit word k) 1

-- the word with that station's mark, and every mark it had
unfoldable pub with_mark : ℕ → ℕ → ℕ
with_mark word k = bit_or word (2 ^ k)

-- how many stations have a mark: "its count of ones"
unfoldable pub mark_count : ℕ → ℕ
mark_count word = ones word

-- of n rows from k on, how many pass a test
abbrev pub one_if : Bool → ℕ
one_if b = pick b 1 0

unfoldable pub rows_from : (ℕ → Bool) → ℕ → ℕ → ℕ
rows_from test k zero = 0
rows_from test k (suc n) = one_if (test k) + rows_from test (k + 1) n

-- a record of row k: its station's mark for each parameter whose partial is not 0
unfoldable pub marks_with : ℕ → List ℤ → List ℕ → List ℕ
marks_with k [] l = l
marks_with k (a ∷ p) [] = []
marks_with k (a ∷ p) (m ∷ l) = pick (is_zero a) m (with_mark m k) ∷ marks_with k p l

-- 02: marks of "a station with count 0 or one not listed" are refused with 6; a station past the last listed one has count 0
unfoldable pub marks_heard : List ℕ → ℕ → Bool
marks_heard counts word = below (λ k. either (not (has_mark word k)) (less 0 (get_or counts k 0))) stations_most

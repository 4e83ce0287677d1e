-- For the proofs of the code alone: no public promise and no law cites this, and an auditor may skip it.
-- The word of the stations that have records, by which marks are judged at once.
use Rattle.std.specs.Prelude.{ℕ, zero, suc, Bool, List, get_or}
use Rattle.std.specs.Int.Bits.{bit_and}
use Rattle.num_whole.specs.Tests.{less, same, pick}
use Rattle.take_marks.specs.Marks.{with_mark}

-- of the first n rows
unfoldable pub heard_word : List ℕ → ℕ → ℕ
heard_word counts zero = 0
heard_word counts (suc k) = pick (less 0 (get_or counts k 0)) (with_mark (heard_word counts k) k) (heard_word counts k)

-- no mark of a word is missing in another
unfoldable pub among_marks : ℕ → ℕ → Bool
among_marks word all = same (bit_and word all) word

-- For the proofs of the code alone: no public promise and no law cites this, and an auditor may skip it.
-- A text that is written piece by piece into lent room: the room with a piece laid over it, and the place after the piece.
use Rattle.std.specs.Prelude.{ℕ, ◌+◌, min, List, length}
use Rattle.byte_words.specs.Words.{lay}

-- where the room is short, what would lie past its end is dropped, and the place is the room's end
unfoldable pub laid : List ℕ → ℕ → List ℕ → List ℕ × ℕ
laid room at bs = (lay room at bs, min (at + length bs) (length room))

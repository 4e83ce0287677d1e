-- Document 01: how a file that is written is answered. "Writing: 2, 4, 5, 6, .. 20": 20 comes last. "For 20, needed is the length of the bytes
-- written". "A longer buffer keeps its rest. A refusal changes nothing lent."
use Rattle.std.specs.Prelude.{ℕ, List, [], ◌∷◌, length}
use Rattle.num_whole.specs.Tests.{less}
use Rattle.num_whole.specs.Answer.{Answered}
use Rattle.refusal.specs.First.{when, first, answered}
use Rattle.byte_words.specs.Words.{lay}
use Rattle.byte_section.specs.Told.{on_done}

-- the number k of what was judged before, 0 where nothing is wrong; then 20 where the room is shorter than the bytes
abbrev pub writing_number : ℕ → List ℕ → ℕ → ℕ
writing_number k bytes room = first (k ∷ when 20 (less room (length bytes)) ∷ [])

-- the length of the bytes, or the refusal
abbrev pub written : ℕ → List ℕ → ℕ → Answered ℕ
written k bytes room = answered (writing_number k bytes room) (length bytes)

-- what is left in the buffer
abbrev pub written_in : ℕ → List ℕ → List ℕ → List ℕ
written_in k bytes out = on_done (written k bytes (length out)) (lay out 0 bytes) out

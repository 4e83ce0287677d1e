-- What the call that writes an arc file answers and leaves, for a heading in lent bytes. Document 01: "Writing: 2, 4, 5, 6, 1 where a lent run of
-- records ends inside one, 20." So 20 for the heading's own room comes as late as the judging allows: its two numbers must be there for 2, and all
-- of it for 4.
use Rattle.std.specs.Prelude.{ℕ, List, [], ◌∷◌, length}
use Rattle.num_whole.specs.Tests.{up_to}
use Rattle.num_whole.specs.Answer.{Answered}
use Rattle.byte_words.specs.Words.{lay}
use Rattle.refusal.specs.First.{unless, number_in, first, answered}
use Rattle.byte_section.specs.Told.{on_done}
use Rattle.arc_put.specs.Bytes.{arc_bytes, allowed}
use Rattle.arc_write.specs.Write.{write_arc}
use Rattle.call_heading.specs.Lent.{heading_in, has_heading}

-- 20, 2, 20, then as for a heading by value: 2, 4, 5, 1, 20
unfoldable pub arc_number : List ℕ → List ℕ → ℕ → ℕ
arc_number b run room =
    first
    (unless 20 (up_to 16 (length b))
    ∷ unless 2 (allowed (heading_in b) run)
    ∷ unless 20 (has_heading b)
    ∷ number_in (write_arc (heading_in b) run room)
    ∷ [])

-- the length of the file, or that number
unfoldable pub arc_file : List ℕ → List ℕ → ℕ → Answered ℕ
arc_file b run room = answered (arc_number b run room) (length (arc_bytes (heading_in b) run))

-- what is left in the buffer: the file and the buffer's rest, or the buffer as it was
unfoldable pub arc_left : List ℕ → List ℕ → List ℕ → List ℕ
arc_left b run out = on_done (arc_file b run (length out)) (lay out 0 (arc_bytes (heading_in b) run)) out

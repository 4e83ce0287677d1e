-- Document 01: an arc file as it is written. "Writing: 2, 4, 5, 6, 1 where a lent run of records ends inside one, 20." "For 20, needed is the
-- length of the bytes written". "A longer buffer keeps its rest. A refusal changes nothing lent."
use Rattle.std.specs.Prelude.{ℕ, ◌%◌, List, length}
use Rattle.num_whole.specs.Tests.{less, same, pick}
use Rattle.num_whole.specs.Answer.{Answered, given, refused}
use Rattle.byte_words.specs.Words.{lay}
use Rattle.byte_section.specs.Told.{on_done}
use Rattle.arc_heading.specs.Judge.{fields_ok, orders_ok}
use Rattle.arc_heading.specs.declared.Heading.{Heading}
use Rattle.arc_kinds.specs.Kinds.{record_size}
use Rattle.arc_put.specs.Bytes.{allowed, arc_bytes}

-- 2 for the numbers, 4, 5, 1, 20, else the length
unfoldable pub write_arc : Heading → List ℕ → ℕ → Answered ℕ
write_arc h run room =
    pick (allowed h run)
    (pick (fields_ok h)
    (pick (orders_ok h)
    (pick (same (length run % record_size h.parameters) 0)
    (pick (less room (length (arc_bytes h run))) (refused 20) (given (length (arc_bytes h run))))
    (refused 1))
    (refused 5))
    (refused 4))
    (refused 2)

-- what is left in the buffer: the file and the buffer's rest, or the buffer as it was
unfoldable pub arc_left_in : Heading → List ℕ → List ℕ → List ℕ
arc_left_in h run out = on_done (write_arc h run (length out)) (lay out 0 (arc_bytes h run)) out

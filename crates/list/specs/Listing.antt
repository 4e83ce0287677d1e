-- Document 01, 'At the edges' 7: what the arc program prints (list_run/specs/Runs.antt `listing`), into lent room.
use Rattle.std.specs.Prelude.{ℕ, List}
use Rattle.num_whole.specs.Answer.{Answered}
use Rattle.byte_section.specs.Writing.{written, written_in}
use Rattle.list_run.specs.Runs.{listing}

-- 20 where the lent room is shorter than the listing, else its length
unfoldable pub list_answer : List ℕ → ℕ → Answered ℕ
list_answer file room = written 0 (listing file) room

-- the room after it: the listing and the room's rest, or the room as it was
unfoldable pub list_left : List ℕ → List ℕ → List ℕ
list_left file out = written_in 0 (listing file) out

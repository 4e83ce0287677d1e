-- Document 02, #106: "We want a move to the new form, a move back, and the original bytes after both, from either end." "A move to the form a
-- file already has gives its bytes." The file of what a file holds, in a form. 20 comes last, with the file's length as its place; a longer room
-- keeps its rest, and a refusal changes nothing lent.
use Rattle.std.specs.Prelude.{ℕ, List, Bool, length}
use Rattle.num_whole.specs.Tests.{less, pick}
use Rattle.num_whole.specs.Answer.{Judged, good, bad}
use Rattle.byte_words.specs.Words.{lay}
use Rattle.byte_section.specs.Section.{and_then}
use Rattle.norm_read.specs.Normal.{read_normal}
use Rattle.norm_forms.specs.Forms.{form_bytes}

-- the bytes of a file moved to a form, or the file's own refusal
unfoldable pub file_moved : Bool → List ℕ → Judged (List ℕ)
file_moved small file = and_then (read_normal file) (λ x. good (form_bytes small x.holds))

-- then 20 where the room is shorter than they are, with a place
unfoldable pub with_room : ℕ → ℕ → List ℕ → Judged (List ℕ)
with_room place room bytes = pick (less room (length bytes)) (bad 20 place) (good bytes)

unfoldable pub moved_into : Bool → List ℕ → ℕ → Judged (List ℕ)
moved_into small file room = and_then (file_moved small file) (with_room (length file) room)

-- ---- for every file and every room
-- what is answered: the number of bytes
unfoldable pub move_answer : Bool → List ℕ → ℕ → Judged ℕ
move_answer small file room = and_then (moved_into small file room) (λ bytes. good (length bytes))

-- what is left in the room
unfoldable pub laid_in : List ℕ → Judged (List ℕ) → List ℕ
laid_in room (good bytes) = lay room 0 bytes
laid_in room (bad number place) = room

unfoldable pub move_left : Bool → List ℕ → List ℕ → List ℕ
move_left small file room = laid_in room (moved_into small file (length room))

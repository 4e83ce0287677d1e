-- What the calls that merge two files, and that move one to a form, answer.
use Rattle.std.specs.Prelude.{ℕ, ◌+◌, ◌*◌}
use Rattle.num_whole.specs.Answer.{Answered, given, refused, Judged, good, bad}
use Rattle.merge.specs.Files.{Merging, wrote, in_file, refusing}

-- a file's own refusal plus 100 for the first and 200 for the second ("the answer names which")
unfoldable pub merge_call_number : Merging → Answered ℕ
merge_call_number (wrote n) = given n
merge_call_number (in_file file number place) = refused (100 * file + number)
merge_call_number (refusing number) = refused number

-- a move's number of bytes, or the refusal; its place is told by another call
unfoldable pub move_call_number : Judged ℕ → Answered ℕ
move_call_number (good n) = given n
move_call_number (bad number place) = refused number

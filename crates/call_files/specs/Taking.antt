-- What the calls that take records leave of a tally, and what those that ask whether a parameter is seen, by any station or by one, put into
-- lent room.
use Rattle.std.specs.Prelude.{ℕ, List, Bool}
use Rattle.num_whole.specs.Tests.{pick}
use Rattle.num_whole.specs.Answer.{Answered, given, refused}
use Rattle.byte_words.specs.Words.{lay}
use Rattle.call_rooms.specs.Result.{one}
use Rattle.call_tally.specs.Tally.{tally_bytes}
use Rattle.take_tally.specs.declared.Tally.{Tally}

-- the tally in its room, or the room as it was
unfoldable pub tally_left : Answered Tally → List ℕ → List ℕ
tally_left (given t) room = lay room 0 (tally_bytes t)
tally_left (refused k) room = room

-- 1 for seen, 0 for unseen
unfoldable pub seen_numbers : Bool → List ℕ
seen_numbers seen = one (pick seen 1 0)

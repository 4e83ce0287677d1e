-- Document 01: "An entry that unpacks into lent room gives 20 last, with the length as place." A normal file read, and its values put into three
-- lent rooms, one element a value. "A longer buffer keeps its rest. A refusal changes nothing lent."
use Rattle.std.specs.Prelude.{ℕ, List, ℤ, length}
use Rattle.num_whole.specs.Tests.{pick}
use Rattle.num_whole.specs.Answer.{Judged, good, bad}
use Rattle.byte_section.specs.Section.{and_then}
use Rattle.norm_system.specs.System.{System}
use Rattle.norm_read.specs.Normal.{Normal, read_normal}
use Rattle.num_whole.specs.Lists.{over}
use Rattle.norm_room.specs.Room.{roomy_for}

-- 20 where one of the rooms is too short for what the file holds
unfoldable pub roomily : ℕ → ℕ → ℕ → ℕ → Normal → Judged Normal
roomily long heads matrix rights x =
    pick (roomy_for (length x.holds.arcs) (length x.holds.labels) heads matrix rights) (good x) (bad 20 long)

-- the file's own refusal, then 20
unfoldable pub unpack_normal : List ℕ → ℕ → ℕ → ℕ → Judged Normal
unpack_normal s heads matrix rights = and_then (read_normal s) (roomily (length s) heads matrix rights)

-- what is left in a room: the values that a file's system has for it and the room's rest, or the room as it was
unfoldable pub filled : {A : Type 0} → (System → List A) → Judged Normal → List A → List A
filled f (good x) room = over (f x.holds) room
filled f (bad number place) room = room

abbrev pub matrix_of : System → List ℤ
matrix_of x = x.matrix

abbrev pub rights_of : System → List ℤ
rights_of x = x.rights

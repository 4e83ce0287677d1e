-- Document 01: a normal file as it is written from a system in lent room. "Writing: 2, 4, 5, 6, .. 20." A system whose room is too short is 20
-- where the judging comes to it, since nothing can be judged of what is not there. "For 20, needed is the length of the bytes written". "A
-- longer buffer keeps its rest. A refusal changes nothing lent."
use Rattle.std.specs.Prelude.{ℕ, List, ℤ}
use Rattle.num_whole.specs.Answer.{Answered}
use Rattle.byte_section.specs.Writing.{writing_number, written, written_in}
use Rattle.norm_kinds.specs.Bytes.{normal_bytes}
use Rattle.norm_room.specs.Room.{system_in_rooms, system_number}

-- the bytes of the system that stands in three rooms
unfoldable pub room_bytes : ℕ → ℕ → List ℕ → List ℤ → List ℤ → List ℕ
room_bytes a p h m r = normal_bytes (system_in_rooms a p h m r)

-- 2, 20 for the heads' room, 4, 5, 20 for the sums' rooms, 6, then 20 for the bytes; 0 where nothing is wrong
unfoldable pub write_number : ℕ → ℕ → List ℕ → List ℤ → List ℤ → ℕ → ℕ
write_number a p h m r room = writing_number (system_number a p h m r) (room_bytes a p h m r) room

-- the length of the file, or the refusal
unfoldable pub write_normal : ℕ → ℕ → List ℕ → List ℤ → List ℤ → ℕ → Answered ℕ
write_normal a p h m r room = written (system_number a p h m r) (room_bytes a p h m r) room

-- what is left in the buffer
unfoldable pub normal_left_in : ℕ → ℕ → List ℕ → List ℤ → List ℤ → List ℕ → List ℕ
normal_left_in a p h m r out = written_in (system_number a p h m r) (room_bytes a p h m r) out

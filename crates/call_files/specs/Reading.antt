-- What the calls that read an arc file answer and leave. Document 01: "An entry that unpacks into lent room gives 20 last, with the length as
-- place."
use Rattle.std.specs.Prelude.{ℕ, List, [], ◌∷◌, Bool, length}
use Rattle.num_whole.specs.Tests.{up_to, pick, both}
use Rattle.num_whole.specs.Answer.{Judged, good, bad}
use Rattle.num_whole.specs.Lists.{over}
use Rattle.byte_words.specs.Words.{lay}
use Rattle.refusal.specs.First.{unless}
use Rattle.arc_read.specs.Arc.{Arc}
use Rattle.call_heading.specs.Lent.{heading_long, heading_bytes}

-- the refusal of a file that was read or unpacked, 0 where there is none
unfoldable pub judged_number : {A : Type 0} → Judged A → ℕ
judged_number (good a) = 0
judged_number (bad number place) = number

-- the place of a refusal, 0 where there is none
unfoldable pub refusal_place : {A : Type 0} → Judged A → ℕ
refusal_place (good a) = 0
refusal_place (bad number place) = place

-- ---- an arc file: its heading in one room, the number of records and the first one's place in another
unfoldable pub read_roomy : ℕ → ℕ → ℕ → ℕ → Bool
read_roomy p t room out = both (up_to (heading_long p t) room) (up_to 2 out)

abbrev pub arc_roomy : Arc → ℕ → ℕ → Bool
arc_roomy a room out = read_roomy a.heading.parameters a.heading.stations room out

-- the file's own refusal, then 20
unfoldable pub read_number : Judged Arc → ℕ → ℕ → ℕ
read_number (good a) room out = unless 20 (arc_roomy a room out)
read_number (bad number place) room out = number

unfoldable pub heading_left : Judged Arc → List ℕ → ℕ → List ℕ
heading_left (good a) room out = pick (arc_roomy a (length room) out) (lay room 0 (heading_bytes a.heading)) room
heading_left (bad number place) room out = room

unfoldable pub places_left : Judged Arc → ℕ → List ℕ → List ℕ
places_left (good a) room out = pick (arc_roomy a room (length out)) (over (a.count ∷ a.start ∷ []) out) out
places_left (bad number place) room out = out

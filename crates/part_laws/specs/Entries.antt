-- Document 02, #102, the entries: the position by value, what they refuse besides the file's form (28, 20, 6), and what they give and leave.
use Rattle.std.specs.Prelude.{ℕ, ◌+◌, List, [], ◌∷◌, ◌++◌, Bool, ℤ, length, take, Result, Ok, Err}
use Rattle.num_whole.specs.Tests.{less, up_to, same, pick, both}
use Rattle.num_limits.specs.Capacities.{parameters_most, records_most}
use Rattle.num_whole.specs.Lists.{all, rest, padded}
use Rattle.num_whole.specs.Answer.{Judged, good, bad}
use Rattle.refusal.specs.Number.{number_of}
use Rattle.refusal.specs.First.{when, unless, first}
use Rattle.byte_words.specs.Words.{lay}
use Rattle.byte_section.specs.Section.{and_then, count_at, section_at}
use Rattle.arc_kinds.specs.Kinds.{settings_kind}
use Rattle.arc_heading.specs.declared.Heading.{Heading}
use Rattle.arc_front.specs.Front.{blank_heading}
use Rattle.arc_read.specs.Arc.{Arc}
use Rattle.num_packed.specs.Room.{sums_roomy}
use Rattle.take_tally.specs.Tally.{accepted, empty_tally}
use Rattle.take_state.specs.State.{State, state_of, sound_state}
use Rattle.part_laws.specs.Beginning.{opened, size_of, done, opened_heading}
use Rattle.part_laws.specs.Feeding.{Position, feed, finish, closing}
use Rattle.part_laws.specs.OneGo.{emptied}
use Rattle.part_laws.specs.declared.Position as ByValue
use Rattle.part_laws.specs.declared.PartRefusal.{PartRefusal}
use Rattle.part_laws.specs.declared.PartRefusal.TheVariants.{Stopped, Broken}

-- ---- the position by value
-- a heading with its counts has no more bytes: 4 and 12 of settings, 4 and 50·16 of parameters, 4 and 16·8 of stations, 4 of records
abbrev pub opened_most : ℕ
opened_most = 956

-- a record of fifty parameters: 32 + 2·50
abbrev pub record_size_most : ℕ
record_size_most = 132

-- the bytes that a position has room for: a heading with its counts, a record but one byte, and one more
abbrev pub position_most : ℕ
position_most = 1088

-- the bytes that count are the first of the room; a length past it is as all of it
abbrev pub position_of : ByValue.Position → Position
position_of p = record { kept = take p.length p.kept; taken = p.taken; over = p.over }

-- what the entries give: the bytes, and zeros to the end of the room
abbrev pub held_of : Position → ByValue.Position
held_of p = record { kept = padded position_most 0 p.kept; length = length p.kept; taken = p.taken; over = p.over }

-- "Its room past the bytes kept is 0, else 6"
unfoldable pub tidy : ByValue.Position → Bool
tidy p = both (up_to p.length position_most) (all (λ b. same b 0) (rest p.kept position_most p.length))

-- ---- 20: "the sums' room by the parameters that the position has read, 50 while it has not read their count"
abbrev pub count_by : Judged ℕ → ℕ
count_by (good n) = n
count_by (bad number place) = parameters_most

unfoldable pub parameters_in : List ℕ → ℕ
parameters_in s = count_by (and_then (section_at settings_kind s 1 1 0) (λ a. count_at s a.next 1 parameters_most))

-- ---- 6: no use of the entries leads to such a position. Before a file is opened it has taken no record, and more bytes may open it; once opened
-- it has taken no more than there are, and keeps no whole record, and no byte after the last
-- (by the number of bytes kept, of records taken, and what opens the file)
abbrev pub placed_by : ℕ → ℕ → Judged Arc → Bool
placed_by long taken (good a) = both (up_to taken a.count) (less long (a.start + pick (less taken a.count) (size_of a) 1))
placed_by long taken (bad number place) = both (same number 1) (same taken 0)

unfoldable pub placed : Position → Bool
placed p = placed_by (length p.kept) p.taken (opened p.kept)

-- of a file that is over: finish keeps the heading with its counts where all records were taken; else no byte is kept
abbrev pub ends_by : ℕ → ℕ → Judged Arc → Bool
ends_by long taken (good a) = both (same long a.start) (same taken a.count)
ends_by long taken (bad number place) = both (same long 0) (up_to taken records_most)

unfoldable pub ends : Position → Bool
ends p = ends_by (length p.kept) p.taken (opened p.kept)

unfoldable pub led : Position → Bool
led p = pick p.over (ends p) (placed p)

-- of the position by value
unfoldable pub fair : ByValue.Position → Bool
fair p = both (tidy p) (led (position_of p))

-- nor to such a state at it: empty before the file is opened, then sound, with no more records accepted than taken
abbrev pub sound_by : ℕ → ℕ → State → Judged Arc → Bool
sound_by parameters taken s (good a) =
    both (sound_state a.heading.stations a.heading.parameters s) (up_to (accepted s.tally) taken)
sound_by parameters taken s (bad number place) = sound_state 0 parameters s

unfoldable pub sound_at : Position → State → Bool
sound_at p s = sound_by (parameters_in p.kept) p.taken s (opened p.kept)

-- ---- what is answered: the number of records that the part completed; 28, 20 or 6; or a refusal in the file's form with the number of all
-- records taken
pub data Told : Type 0 where
  took : ℕ → Told
  stopped : ℕ → Told
  broken : ℕ → ℕ → ℕ → Told

abbrev pub told_part : Result ℕ PartRefusal → Told
told_part (Ok n) = took n
told_part (Err (Stopped r)) = stopped (number_of r)
told_part (Err (Broken f n)) = broken (number_of f.why) f.place n

-- ---- begin: "Begin clears room for fifty parameters, since P is not known yet"
unfoldable pub begin_number : List ℤ → List ℤ → ℕ
begin_number m r = first (unless 20 (sums_roomy parameters_most (length m) (length r)) ∷ [])

unfoldable pub begin_state : List ℤ → List ℤ → State
begin_state m r = pick (same (begin_number m r) 0) (emptied m r) (state_of m r empty_tally)

-- ---- a part: "28, before all others", 20, 6; 0 where nothing is wrong. The answers' room is judged by the records that the part completes
module _ (p : ByValue.Position) (s : State) where
  unfoldable pub part_number : List ℕ → ℕ → ℕ
  part_number l room =
      first
      (when 28 p.over
      ∷ unless 20 (sums_roomy (parameters_in (position_of p).kept) (length s.matrix) (length s.rights))
      ∷ unless 20 (up_to (length (done p.taken ((position_of p).kept ++ l))) room)
      ∷ unless 6 (both (fair p) (sound_at (position_of p) s))
      ∷ [])

  -- where one of these is given nothing changes
  unfoldable pub part_position : List ℕ → ℕ → ByValue.Position
  part_position l room = pick (same (part_number l room) 0) (held_of (feed (position_of p) s l).position) p

  unfoldable pub part_state : List ℕ → ℕ → State
  part_state l room = pick (same (part_number l room) 0) (feed (position_of p) s l).state s

  unfoldable pub part_answers : List ℕ → List ℕ → List ℕ
  part_answers l out = pick (same (part_number l (length out)) 0) (lay out 0 (feed (position_of p) s l).answers) out

abbrev pub told_form : Judged (Unit {0}) → ℕ → ℕ → Told
told_form (good u) now all = took now
told_form (bad number place) now all = broken number place all

unfoldable pub part_told : ByValue.Position → State → List ℕ → ℕ → Told
part_told p s l room =
    pick (same (part_number p s l room) 0)
    (told_form (feed (position_of p) s l).verdict (length (feed (position_of p) s l).answers) (feed (position_of p) s l).position.taken)
    (stopped (part_number p s l room))

-- ---- finish: it takes no sums and no room
unfoldable pub finish_number : ByValue.Position → ℕ
finish_number p = first (when 28 p.over ∷ unless 6 (fair p) ∷ [])

-- what the reading says
abbrev pub told_end : Judged Arc → ℕ → Told
told_end (good a) all = took 0
told_end (bad number place) all = broken number place all

unfoldable pub finish_told : ByValue.Position → Told
finish_told p = pick (same (finish_number p) 0) (told_end (finish (position_of p)) p.taken) (stopped (finish_number p))

unfoldable pub finish_position : ByValue.Position → ByValue.Position
finish_position p = pick (same (finish_number p) 0) (held_of (closing (finish (position_of p)) (position_of p))) p

-- ---- "The heading of a position is handed out by an entry of its own, 1 where it is not complete yet", placed at the number of bytes kept; with a
-- refusal it is blank
unfoldable pub heading_told : ByValue.Position → Told
heading_told p = pick (fair p) (told_end (opened (position_of p).kept) p.taken) (stopped 6)

unfoldable pub heading_given : ByValue.Position → Heading
heading_given p = pick (fair p) (opened_heading (position_of p).kept) blank_heading

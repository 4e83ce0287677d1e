-- What the calls for an arc file in parts answer and leave, for a position and a state in lent room, of any values. 20 comes first where a position,
-- a tally or the room for two numbers is not there whole. "A longer buffer keeps its rest. A refusal changes nothing lent", but for a refusal in the
-- file's form: the records completed before it stay taken.
use Rattle.std.specs.Prelude.{ℕ, List, [], ◌∷◌, Bool, ℤ, length}
use Rattle.num_whole.specs.Tests.{up_to, same, pick, both}
use Rattle.byte_words.specs.Words.{lay}
use Rattle.refusal.specs.First.{unless, first}
use Rattle.arc_heading.specs.declared.Heading.{Heading}
use Rattle.arc_front.specs.Front.{blank_heading}
use Rattle.take_state.specs.State.{State, state_of}
use Rattle.call_tally.specs.Tally.{tally_in, tally_bytes, has_tally}
use Rattle.call_heading.specs.Lent.{heading_bytes}
use Rattle.part_laws.specs.Feeding.{begun}
use Rattle.part_laws.specs.Entries.{Told, took, stopped, broken, held_of, begin_number, begin_state, part_told, part_position, part_state, part_answers, finish_told, finish_position, heading_told, heading_given}
use Rattle.part_laws.specs.declared.Position.{Position}
use Rattle.call_position.specs.Position.{position_in, position_bytes, has_position, marked}
use Rattle.call_told.specs.Told.{changes, tells, with_all, head_roomy}

-- a position and a state in lent room: the position's bytes, the tally's, the matrix sums, the right sides
pub record Rooms : Type 0 where
  pub position : List ℕ
  pub tally : List ℕ
  pub matrix : List ℤ
  pub rights : List ℤ

abbrev pub rooms : List ℕ → List ℕ → List ℤ → List ℤ → Rooms
rooms p t m r = record { position = p; tally = t; matrix = m; rights = r }

abbrev pub place_in : Rooms → Position
place_in x = position_in x.position

abbrev pub rooms_state : Rooms → State
rooms_state x = state_of x.matrix x.rights (tally_in x.tally)

abbrev pub has_state : List ℕ → List ℕ → Bool
has_state b t = both (has_position b) (has_tally t)

-- a position and a state put into the rooms
abbrev pub put : Position → State → Rooms → Rooms
put p s x = rooms (lay x.position 0 (position_bytes p)) (lay x.tally 0 (tally_bytes s.tally)) s.matrix s.rights

-- ---- begin
unfoldable pub begin_call : Rooms → ℕ
begin_call x = first (unless 20 (has_state x.position x.tally) ∷ begin_number x.matrix x.rights ∷ [])

unfoldable pub begin_left : Rooms → Rooms
begin_left x = pick (same (begin_call x) 0) (put (held_of begun) (begin_state x.matrix x.rights) x) x

-- ---- a part l, with room for so many answers and numbers
abbrev pub part_lent : Rooms → ℕ → Bool
part_lent x out = both (has_state x.position x.tally) (up_to 2 out)

unfoldable pub part_call : Rooms → List ℕ → ℕ → ℕ → Told
part_call x l room out = pick (part_lent x out) (part_told (place_in x) (rooms_state x) l room) (stopped 20)

unfoldable pub part_left : Rooms → List ℕ → ℕ → ℕ → Rooms
part_left x l room out =
    pick (changes (part_call x l room out)) (put (part_position (place_in x) (rooms_state x) l room) (part_state (place_in x) (rooms_state x) l room) x) x

unfoldable pub part_answers_left : Rooms → List ℕ → List ℕ → ℕ → List ℕ
part_answers_left x l answers out = pick (part_lent x out) (part_answers (place_in x) (rooms_state x) l answers) answers

-- ---- finish, for a position's bytes b: the number of all records taken is told with 0 too
abbrev pub place_lent : List ℕ → ℕ → Bool
place_lent b out = both (has_position b) (up_to 2 out)

unfoldable pub finish_call : List ℕ → ℕ → Told
finish_call b out = pick (place_lent b out) (with_all (position_in b).taken (finish_told (position_in b))) (stopped 20)

unfoldable pub finish_left : List ℕ → ℕ → List ℕ
finish_left b out = pick (changes (finish_call b out)) (lay b 0 (position_bytes (finish_position (position_in b)))) b

-- ---- the heading of a position: 6 also where the word for whether the file is over is neither 0 nor 1; 20 for the heading's room last
unfoldable pub head_told : List ℕ → Told
head_told b = pick (marked b) (heading_told (position_in b)) (stopped 6)

unfoldable pub head_given : List ℕ → Heading
head_given b = pick (marked b) (heading_given (position_in b)) blank_heading

abbrev pub head_fits : Bool → ℕ → Told → Told
head_fits roomy n (took k) = pick roomy (took n) (stopped 20)
head_fits roomy n (stopped k) = stopped k
head_fits roomy n (broken k place m) = broken k place m

unfoldable pub head_call : List ℕ → ℕ → ℕ → Told
head_call b room out =
    pick (place_lent b out) (head_fits (head_roomy (head_given b) room) (position_in b).taken (head_told b)) (stopped 20)

unfoldable pub head_left : List ℕ → List ℕ → ℕ → List ℕ
head_left b room out = pick (tells (head_call b (length room) out)) (lay room 0 (heading_bytes (head_given b))) room

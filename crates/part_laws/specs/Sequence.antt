-- Document 02, #102, the entries one after another: parts handed over from begin on, each with a room of its own for its answers.
use Rattle.std.specs.Prelude.{ℕ, ◌-◌, ◌≤◌, ◌≡◌, List, [], ◌∷◌, ◌++◌, map, false, ℤ, length, take, drop}
use Rattle.num_whole.specs.Answer.{Judged, good, bad}
use Rattle.byte_section.specs.Section.{and_then}
use Rattle.byte_words.specs.Words.{lay}
use Rattle.arc_read.specs.Arc.{Arc}
use Rattle.num_limits.specs.Capacities.{parameters_most}
use Rattle.arc_heading.specs.declared.Heading.{Heading}
use Rattle.num_packed.specs.Triangle.{tri}
use Rattle.take_room.specs.Room.{cleared}
use Rattle.take_state.specs.State.{State, started}
use Rattle.take_laws.specs.Taking.{run_number, run_state, run_answers}
use Rattle.part_laws.specs.Beginning.{done}
use Rattle.part_laws.specs.Feeding.{Fed, begun, concat}
use Rattle.part_laws.specs.OneGo.{TakenOneByOne, MixedAlike}
use Rattle.part_laws.specs.Entries.{position_of, held_of, Told, took, stopped, broken, begin_state, part_position, part_state, part_answers, part_told, finish_told, finish_position, heading_told, heading_given}
use Rattle.part_laws.specs.declared.Position as ByValue

-- a part that is handed over: its bytes, and the room for its answers
pub record Piece : Type 0 where
  pub bytes : List ℕ
  pub room : List ℕ

-- the bytes of pieces, end to end
abbrev pub bytes_in : List Piece → List ℕ
bytes_in xs = concat (map (λ x. x.bytes) xs)

-- what an answer says of the form; 28, 20 and 6 carry no place
abbrev pub form_of : Told → Judged (Unit {0})
form_of (took n) = good tt
form_of (stopped number) = bad number 0
form_of (broken number place all) = bad number place

-- what was made of pieces: the position and the state after them, the answers written, end to end, and what was said of the form
pub record Gone : Type 0 where
  pub position : ByValue.Position
  pub state : State
  pub answers : List ℕ
  pub form : Judged (Unit {0})

-- one piece: as many answers are written as records are taken
abbrev pub gone_part : ByValue.Position → State → Piece → Gone
gone_part p s x =
    record {
      position = part_position p s x.bytes (length x.room);
      state = part_state p s x.bytes (length x.room);
      answers = take ((part_position p s x.bytes (length x.room)).taken - p.taken) (part_answers p s x.bytes x.room);
      form = form_of (part_told p s x.bytes (length x.room));
    }

-- one after another: the first refusal in form is what is said
abbrev pub gone_on : Gone → Gone → Gone
gone_on x y =
    record {
      position = y.position;
      state = y.state;
      answers = x.answers ++ y.answers;
      form = and_then x.form (λ u. y.form);
    }

unfoldable pub gone : ByValue.Position → State → List Piece → Gone
gone p s [] = record { position = p; state = s; answers = []; form = good tt }
gone p s (x ∷ xs) = gone_on (gone_part p s x) (gone (gone_part p s x).position (gone_part p s x).state xs)

-- each has room enough for the records that it completes, while the file is not over
unfoldable pub Enough : ByValue.Position → State → List Piece → Type 0
Enough p s [] = Unit {0}
Enough p s (x ∷ xs) =
    (p.over ≡ false → length (done p.taken ((position_of p).kept ++ x.bytes)) ≤ length x.room)
    × Enough (gone_part p s x).position (gone_part p s x).state xs

-- the same of the definition without rooms
abbrev pub gone_of : Fed → Gone
gone_of f = record { position = held_of f.position; state = f.state; answers = f.answers; form = f.verdict }

-- what the reading of a file says of its form alone
abbrev pub form_only : {A : Type 0} → Judged A → Judged (Unit {0})
form_only (good a) = good tt
form_only (bad number place) = bad number place

-- ---- pieces from begin on, and finish after them
module _ (m r : List ℤ) (xs : List Piece) where
  abbrev pub gone_all : Gone
  gone_all = gone (held_of begun) (begin_state m r) xs

  -- "For a file of good form, answers and end state equal those of the file in one go"; its heading can still be asked for
  module _ (a : Arc) where
    abbrev run : List ℕ
    run = drop a.start (bytes_in xs)

    abbrev empty : State
    empty = started a.heading (cleared (tri parameters_most) m) (cleared parameters_most r)

    pub record GoodForm : Type 0 where
      pub form : gone_all.form ≡ good tt
      pub finished : finish_told gone_all.position ≡ took 0
      pub told_heading_lem : heading_told (finish_position gone_all.position) ≡ took 0
      pub heading : heading_given (finish_position gone_all.position) ≡ a.heading
      pub taken : gone_all.position.taken ≡ a.count
      pub state : (room : ℕ) → run_number a.heading run room empty ≡ 0 → gone_all.state ≡ run_state a.heading run room empty
      pub answers : (out : List ℕ) → run_number a.heading run (length out) empty ≡ 0 → lay out 0 gone_all.answers ≡ run_answers a.heading run out empty

  -- "For one of bad form the number and place are equal, but the records completed before it stay taken, and their number is given"
  pub record BadForm (number place : ℕ) : Type 0 where
    pub said : and_then gone_all.form (λ u. form_of (finish_told gone_all.position)) ≡ bad number place
    pub taken : gone_all.position.taken ≡ length (done 0 (bytes_in xs))
    pub answers : length gone_all.answers ≡ length (done 0 (bytes_in xs))

  -- of every file that is opened, bad form too: its records so far were taken one by one from the empty state, and demand 2 holds of them
  abbrev pub TakenParts : Arc → Type 0
  TakenParts a = TakenOneByOne m r a.heading (done 0 (bytes_in xs)) gone_all.answers gone_all.state

-- demand 3 of two files in parts that open with one heading, however the stations' records are mixed and however the bytes are cut
abbrev pub MixedParts : List ℤ → List ℤ → List Piece → List Piece → Heading → Type 0
MixedParts m r xs ys h =
    MixedAlike h (done 0 (bytes_in xs)) (done 0 (bytes_in ys)) (gone_all m r xs).answers (gone_all m r ys).answers (gone_all m r xs).state (gone_all m r ys).state

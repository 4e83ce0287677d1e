-- Document 02, #102: "an arc file handed over in parts cut anywhere .. Records are taken as they complete. A call to finish says the file is
-- over." What a part does to a position and a state, what finish does, and what each says of the file's form.
use Rattle.std.specs.Prelude.{ℕ, ◌+◌, List, [], ◌∷◌, ◌++◌, Bool, true, false, length}
use Rattle.num_whole.specs.Tests.{same, pick}
use Rattle.num_whole.specs.Answer.{Judged, good, bad}
use Rattle.byte_section.specs.Section.{and_then}
use Rattle.arc_read.specs.Arc.{Arc}
use Rattle.take_state.specs.State.{State}
use Rattle.take_laws.specs.Machine.{run, answers}
use Rattle.take_laws.specs.Taking.{Frame, frame_of, record_answer, record_step}
use Rattle.part_laws.specs.Beginning.{done, left, read_at, opened_heading}

-- A position: the bytes handed over without those of the records taken, so the heading as far as it is read and the bytes of an unfinished
-- count or record; how many records were taken; whether the file is over. One that is over after a refusal keeps no bytes, one after a finish
-- that found nothing missing the heading with its counts.
pub record Position : Type 0 where
  pub kept : List ℕ
  pub taken : ℕ
  pub over : Bool

abbrev pub begun : Position
begun = record { kept = []; taken = 0; over = false }

abbrev pub ended : ℕ → Position
ended n = record { kept = []; taken = n; over = true }

-- "1 only at finish": what the reading says of a beginning, 1 left out
unfoldable pub so_far : {A : Type 0} → Judged A → Judged (Unit {0})
so_far (good a) = good tt
so_far (bad number place) = pick (same number 1) (good tt) (bad number place)

-- where a part leads: a refusal in the file's form closes the file
abbrev pub moved : Judged (Unit {0}) → ℕ → List ℕ → Position
moved (good u) n l = record { kept = l; taken = n; over = false }
moved (bad number place) n l = ended n

-- what a part makes of a position and a state: both of them anew, the answers of the records that it completes, and what is said of the form
pub record Fed : Type 0 where
  pub position : Position
  pub state : State
  pub answers : List ℕ
  pub verdict : Judged (Unit {0})

-- the bytes s of a file without `taken` records: the whole ones are taken
module _ (taken : ℕ) (s : List ℕ) (old : State) where
  abbrev frame : Frame
  frame = frame_of (opened_heading s)

  abbrev pub handed : Fed
  handed =
      record {
        position = moved (so_far (read_at taken s)) (taken + length (done taken s)) (left taken s);
        state = run (record_step frame) old (done taken s);
        answers = answers (record_step frame) (record_answer frame) old (done taken s);
        verdict = so_far (read_at taken s);
      }

-- "a part or a finish after finish or after a refusal in the file's form: 28"; it carries no place
unfoldable pub feed : Position → State → List ℕ → Fed
feed p s l =
    pick p.over (record { position = p; state = s; answers = []; verdict = bad 28 0 }) (handed p.taken (p.kept ++ l) s)

-- the file is over: what its reading says, 1 too
unfoldable pub finish : Position → Judged Arc
finish p = pick p.over (bad 28 0) (read_at p.taken p.kept)

-- where finish leads: a file of good form keeps its heading, so that it can still be asked for
abbrev pub closing : Judged Arc → Position → Position
closing (good a) p = record { kept = p.kept; taken = p.taken; over = true }
closing (bad number place) p = ended p.taken

-- ---- one part after another: the answers of both; of the form, what the first refuses, else what the second says
abbrev pub fed_on : Fed → Fed → Fed
fed_on x y =
    record {
      position = y.position;
      state = y.state;
      answers = x.answers ++ y.answers;
      verdict = and_then x.verdict (λ u. y.verdict);
    }

-- the bytes of parts, end to end
unfoldable pub concat : List (List ℕ) → List ℕ
concat [] = []
concat (l ∷ ls) = l ++ concat ls

-- a part, and the parts after it
unfoldable pub feeds : Position → State → List ℕ → List (List ℕ) → Fed
feeds p s l [] = feed p s l
feeds p s l (m ∷ ms) = fed_on (feed p s l) (feeds (feed p s l).position (feed p s l).state m ms)

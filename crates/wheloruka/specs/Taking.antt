-- What the calls that take records answer and leave, for a heading and a state in lent room, of any values. 20 comes first where a heading or a
-- tally is not there whole, since nothing can be judged of it. "A longer buffer keeps its rest. A refusal changes nothing lent."
use Rattle.std.specs.Prelude.{ℕ, List, [], ◌∷◌, ℤ}
use Rattle.num_whole.specs.Tests.{same, pick}
use Rattle.num_whole.specs.Answer.{Answered, refused}
use Rattle.byte_words.specs.Words.{lay}
use Rattle.refusal.specs.First.{unless, first}
use Rattle.call_rooms.specs.Result.{told_values, one}
use Rattle.take_state.specs.State.{State, state_of, room_number, state_number, started, sight_of, carriers_of, carries_of}
use Rattle.take_laws.specs.Taking.{take_answer, take_step, run_number, run_state, run_answers}
use Rattle.call_heading.specs.Lent.{heading_in, has_both}
use Rattle.call_tally.specs.Tally.{tally_in, tally_bytes}
use Rattle.call_files.specs.Taking.{seen_numbers}

-- a state in lent room: the tally's bytes, the matrix sums, the right sides
pub record Lent : Type 0 where
  pub tally : List ℕ
  pub matrix : List ℤ
  pub rights : List ℤ

abbrev pub lent : List ℕ → List ℤ → List ℤ → Lent
lent t m r = record { tally = t; matrix = m; rights = r }

abbrev pub state_in : Lent → State
state_in x = state_of x.matrix x.rights (tally_in x.tally)

-- 20 where the heading b or the tally is short
unfoldable pub lent_number : List ℕ → Lent → ℕ
lent_number b x = unless 20 (has_both b x.tally)

-- that 20, then the number that follows
unfoldable pub call_number : List ℕ → Lent → ℕ → ℕ
call_number b x k = first (lent_number b x ∷ k ∷ [])

-- a state put into the rooms where the call is done, else the rooms as they were
unfoldable pub call_left : List ℕ → Lent → ℕ → State → Lent
call_left b x k s =
    pick (same (call_number b x k) 0) (lent (lay x.tally 0 (tally_bytes s.tally)) s.matrix s.rights) x

-- ---- the empty state
abbrev pub start_number : List ℕ → Lent → ℕ
start_number b x = call_number b x (room_number (heading_in b) x.matrix x.rights)

abbrev pub start_left : List ℕ → Lent → Lent
start_left b x = call_left b x (room_number (heading_in b) x.matrix x.rights) (started (heading_in b) x.matrix x.rights)

-- ---- a state judged
abbrev pub judge_number : List ℕ → Lent → ℕ
judge_number b x = call_number b x (state_number (heading_in b) (state_in x))

-- ---- one record r
abbrev pub take_number : List ℕ → List ℕ → Lent → ℕ
take_number b r x = call_number b x (take_answer (heading_in b) r (state_in x))

abbrev pub take_left : List ℕ → List ℕ → Lent → Lent
take_left b r x = call_left b x (take_answer (heading_in b) r (state_in x)) (take_step (heading_in b) r (state_in x))

-- ---- a run of records l, with room for so many answers
abbrev pub run_call_number : List ℕ → List ℕ → ℕ → Lent → ℕ
run_call_number b l room x = call_number b x (run_number (heading_in b) l room (state_in x))

abbrev pub run_left : List ℕ → List ℕ → ℕ → Lent → Lent
run_left b l room x = call_left b x (run_number (heading_in b) l room (state_in x)) (run_state (heading_in b) l room (state_in x))

unfoldable pub answers_left : List ℕ → List ℕ → List ℕ → Lent → List ℕ
answers_left b l out x = pick (same (lent_number b x) 0) (run_answers (heading_in b) l out (state_in x)) out

-- ---- whether a parameter is seen: 1 or 0
unfoldable pub seen_values : List ℕ → Lent → ℕ → Answered (List ℕ)
seen_values b x i = pick (has_both b x.tally) (told_values seen_numbers (sight_of (heading_in b) (state_in x) i)) (refused 20)

-- ---- 02, #105: "give the number of stations for each parameter"
unfoldable pub carriers_values : List ℕ → Lent → ℕ → Answered (List ℕ)
carriers_values b x i = pick (has_both b x.tally) (told_values one (carriers_of (heading_in b) (state_in x) i)) (refused 20)

-- ---- "which stations carry a parameter": 1 or 0 for the station of row k of the heading
unfoldable pub carries_values : List ℕ → Lent → ℕ → ℕ → Answered (List ℕ)
carries_values b x i k = pick (has_both b x.tally) (told_values seen_numbers (carries_of (heading_in b) (state_in x) i k)) (refused 20)

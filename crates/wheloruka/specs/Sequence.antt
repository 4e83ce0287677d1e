-- Calls one after the other: what stands in the rooms after each is the very state that the definitions step to. So what is shown of an arc's
-- records taken one by one, the demands among it, holds of what a caller has in its rooms.
use Rattle.std.specs.Prelude.{ℕ, ◌<◌, ◌≡◌, false, List, [], ◌∷◌, ◌++◌, map, ◌↔◌, pos, length, get_or}
use Rattle.num_limits.specs.Capacities.{stations_most}
use Rattle.num_whole.specs.Tests.{same, pick}
use Rattle.num_whole.specs.Lists.{Each}
use Rattle.take_state.specs.State.{started, seen_in}
use Rattle.take_laws.specs.Machine.{run}
use Rattle.take_laws.specs.Taking.{frame_of, take_answer, take_step, records_in, run_number, run_state}
use Rattle.take_laws.specs.Mix.{pairs, taken, told_to}
use Rattle.take_laws.specs.Arc.{end_of, told_in}
use Rattle.take_laws.specs.Order.{whose, Mixes}
use Rattle.take_laws.specs.SumsOver.{partial_of, SumsOver}
use Rattle.call_heading.specs.Lent.{heading_in}
use Rattle.wheloruka.specs.Taking.{Lent, state_in, lent_number, start_number, start_left, judge_number, take_number, take_left, run_call_number, run_left, answers_left}

-- the elements are bytes
abbrev pub OfBytes : List ℕ → Type 0
OfBytes l = (i : ℕ) → get_or l i 0 < 256

-- the rooms are as long as they were
pub record SameRooms (x y : Lent) : Type 0 where
  pub tally : length x.tally ≡ length y.tally
  pub matrix : length x.matrix ≡ length y.matrix
  pub rights : length x.rights ≡ length y.rights

-- ---- one call, for a heading b and rooms x of any values
pub record OneCall (b : List ℕ) (x : Lent) : Type 0 where
  -- it is done where its number is 0, and the state that it leaves is the definition's
  pub start : start_number b x ≡ 0 → state_in (start_left b x) ≡ started (heading_in b) x.matrix x.rights
  -- with a heading and a tally that are there whole: done or refused, the number and the state are the definition's
  pub take_number_lem : (r : List ℕ) → lent_number b x ≡ 0 → take_number b r x ≡ take_answer (heading_in b) r (state_in x)
  pub take : (r : List ℕ) → lent_number b x ≡ 0 → OfBytes x.tally → state_in (take_left b r x) ≡ take_step (heading_in b) r (state_in x)
  pub run_number_lem : (l : List ℕ) (room : ℕ) → lent_number b x ≡ 0 → run_call_number b l room x ≡ run_number (heading_in b) l room (state_in x)
  pub run : (l : List ℕ) (room : ℕ) → lent_number b x ≡ 0 → OfBytes x.tally → state_in (run_left b l room x) ≡ run_state (heading_in b) l room (state_in x)
  -- else the rooms are as they were
  pub start_kept : (start_number b x ≡ 0 → ⊥) → start_left b x ≡ x
  pub take_kept : (r : List ℕ) → (take_number b r x ≡ 0 → ⊥) → take_left b r x ≡ x
  pub run_kept : (l : List ℕ) (room : ℕ) → (run_call_number b l room x ≡ 0 → ⊥) → run_left b l room x ≡ x
  -- and in each case as long
  pub start_rooms : SameRooms (start_left b x) x
  pub take_rooms : (r : List ℕ) → SameRooms (take_left b r x) x
  pub run_rooms : (l : List ℕ) (room : ℕ) → SameRooms (run_left b l room x) x

-- ---- calls one after the other
-- what one call hands in: a record to be taken, or a run of records with the room for their answers
pub data Handed : Type 0 where
  single : List ℕ → Handed
  several : List ℕ → List ℕ → Handed

module _ (b : List ℕ) where
  -- the rooms after a call
  unfoldable pub handed_left : Handed → Lent → Lent
  handed_left (single r) x = take_left b r x
  handed_left (several l out) x = run_left b l (length out) x

  -- the records that it hands in; none where a run is refused
  unfoldable pub handed_in : Handed → Lent → List (List ℕ)
  handed_in (single r) x = r ∷ []
  handed_in (several l out) x = pick (same (run_call_number b l (length out) x) 0) (records_in (heading_in b) l) []

  -- each of these with its answer: the call's own number, or that in the room for answers
  unfoldable pub handed_told : Handed → Lent → List (List ℕ × ℕ)
  handed_told (single r) x = (r, take_number b r x) ∷ []
  handed_told (several l out) x = pick (same (run_call_number b l (length out) x) 0) (pairs (records_in (heading_in b) l) (answers_left b l out x)) []

  -- what each of some calls has, in their order
  unfoldable pub of_each : {A : Type 0} → (Handed → Lent → List A) → Lent → List Handed → List A
  of_each f x [] = []
  of_each f x (c ∷ cs) = f c x ++ of_each f (handed_left c x) cs

  -- a start in rooms x, and then the calls cs: the rooms after them, the records handed in, and each with its answer
  module _ (x : Lent) (cs : List Handed) where
    abbrev pub calls_end : Lent
    calls_end = run handed_left (start_left b x) cs

    abbrev pub calls_in : List (List ℕ)
    calls_in = of_each handed_in (start_left b x) cs

    abbrev pub calls_told : List (List ℕ × ℕ)
    calls_told = of_each handed_told (start_left b x) cs

-- for rooms x in which the start is not refused
pub record Sequence (b : List ℕ) (x : Lent) : Type 0 where
  -- the state in the rooms and the answers are those of the records handed in, taken one by one from the empty state
  pub end : (cs : List Handed) → state_in (calls_end b x cs) ≡ end_of (heading_in b) x.matrix x.rights (calls_in b x cs)
  pub told : (cs : List Handed) → calls_told b x cs ≡ told_in (heading_in b) x.matrix x.rights (calls_in b x cs)
  pub rooms : (cs : List Handed) → SameRooms (calls_end b x cs) x
  -- where each call hands in a record, these are just the records
  pub singles : (bs : List (List ℕ)) → calls_in b x (map single bs) ≡ bs
  -- the demands
  pub sound : (cs : List Handed) → judge_number b (calls_end b x cs) ≡ 0
  pub sums : (cs : List Handed) → SumsOver (frame_of (heading_in b)) (state_in (calls_end b x cs)) (taken (calls_told b x cs))
  pub unseen : (cs : List Handed) (i : ℕ) → i < (heading_in b).parameters
      → (seen_in (calls_end b x cs).matrix i ≡ false) ↔ Each (λ r. partial_of (frame_of (heading_in b)) r i ≡ pos 0) (taken (calls_told b x cs))
  pub same_answers : (cs ds : List Handed) → Mixes (frame_of (heading_in b)) (calls_in b x cs) (calls_in b x ds) → (k : ℕ) → k < stations_most
      → told_to (whose (frame_of (heading_in b))) k (calls_told b x cs) ≡ told_to (whose (frame_of (heading_in b))) k (calls_told b x ds)
  pub same_end : (cs ds : List Handed) → Mixes (frame_of (heading_in b)) (calls_in b x cs) (calls_in b x ds)
      → state_in (calls_end b x cs) ≡ state_in (calls_end b x ds)

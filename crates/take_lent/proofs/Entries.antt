-- What the entries hand to the parts of the taking: the parts of the heading and of the lent room, and what comes back.
-- Assumes nothing.
use Prim.Native.Nat.{ℕ, ◌≤◌}
use mathlib.Core.Path.{◌≡◌, sym, ap, ◌∙◌}
use mathlib.Core.List.{List, ◌++◌}
use native.Mathlib.Omega.{arith}
use lib.IntN.{ℤ}
use lib.ListN.{length, take, drop, length-map}
use lib.Seq.{length-take-le}
use Rattle.arc_limits.specs.Limits.{station_key}
use Rattle.arc_heading.specs.Judge.{stations_of, numbers_of}
use Rattle.arc_heading.specs.declared.Heading.{Heading}
use Rattle.arc_heading.proofs.Sound.{sound}
use Rattle.num_packed.specs.Triangle.{tri}
use Rattle.take_tally.specs.declared.Tally.{Tally}
use Rattle.take_state.specs.State.{State, state_of, state_number}
use Rattle.take_state.proofs.Rooms.{state_roomed}
use Rattle.take_laws.specs.Machine.{run, answers}
use Rattle.take_laws.specs.Taking.{frame, frame_of, corrections_of, record_answer, record_step}
use Rattle.take_laws.proofs.Guarded.{Held, held_heading, whole}
use Rattle.take_steps.specs.Runs.{Prepared}
use Rattle.take_lent.proofs.Wide.{Just, widened, answer_wide, step_wide, run_wide, answers_wide, parted, sound_part}
use Rattle.take_lent.proofs.Copies.{take_copied}

-- the bounds of a heading with its state, found sound
module _ (h : Heading) (s : State) (e : state_number h s ≡ 0) where
  pub parameters_few : h.parameters ≤ 50
  parameters_few = (sound h (whole h s e).heading).few

  pub stations_few : h.stations ≤ 16
  stations_few = (sound h (whole h s e).heading).seats

  pub matrix_room : tri h.parameters ≤ length s.matrix
  matrix_room = (state_roomed h s e).matrix

  pub rights_room : h.parameters ≤ length s.rights
  rights_room = (state_roomed h s e).rights

-- a heading with its state, found sound, of arrays that are whole
pub record Handed (h : Heading) (s : State) : Type 0 where
  pub number : state_number h s ≡ 0
  pub listed : length h.listed ≡ 16
  pub counts : length s.tally.counts ≡ 16
  pub rows : length s.tally.rows ≡ 16
  pub marks : length s.tally.marks ≡ 50

module _ (h : Heading) (s : State) (v : Handed h s) where
  abbrev held : Held h s
  held = record { number = v.number; counts = v.counts; rows = v.rows; marks = v.marks }

  -- the part of the room that holds the sums
  abbrev pub part : State
  part = state_of (take (tri h.parameters) s.matrix) (take h.parameters s.rights) s.tally

  matrix_long : length part.matrix ≡ tri h.parameters
  matrix_long = length-take-le (tri h.parameters) s.matrix (matrix_room h s v.number)

  pub rights_long : length part.rights ≡ h.parameters
  rights_long = length-take-le h.parameters s.rights (rights_room h s v.number)

  numbers_are : take h.stations (numbers_of h.listed) ≡ numbers_of (stations_of h)
  unfolding numbers_of stations_of
  numbers_are = take_copied station_key h.stations h.listed

  corrections_are : take h.stations (corrections_of h.listed) ≡ corrections_of (stations_of h)
  unfolding corrections_of stations_of
  corrections_are = take_copied (λ t. t.correction) h.stations h.listed

  numbers_long : length (numbers_of (stations_of h)) ≡ h.stations
  unfolding numbers_of stations_of
  numbers_long = length-map (take h.stations h.listed) station_key ∙ length-take-le h.stations h.listed (omega (arith, v.listed, stations_few h s v.number))

  corrections_long : length (corrections_of (stations_of h)) ≡ h.stations
  unfolding corrections_of stations_of
  corrections_long = length-map (take h.stations h.listed) (λ t. t.correction) ∙ length-take-le h.stations h.listed (omega (arith, v.listed, stations_few h s v.number))

  pub prepared : Prepared h.settings (take h.stations (numbers_of h.listed)) (take h.stations (corrections_of h.listed)) part
  prepared =
      let ok = held_heading h s held in
      record {
        settings = ok.settings;
        seats = rw (numbers_are, numbers_long) (stations_few h s v.number);
        corrected = omega (arith, ap length numbers_are, numbers_long, ap length corrections_are, corrections_long);
        few = rw rights_long (parameters_few h s v.number);
        matrix = matrix_long ∙ ap tri (sym rights_long);
        counts = v.counts;
        rows = v.rows;
        marks = v.marks;
        sound = rw (numbers_are, numbers_long, rights_long) (sound_part h.stations h.parameters s (whole h s v.number).state);
      }

  pub frame_is : frame h.settings (length part.rights) (take h.stations (numbers_of h.listed)) (take h.stations (corrections_of h.listed)) ≡ frame_of h
  frame_is = λ i. frame h.settings (rights_long i) (numbers_are i) (corrections_are i)

  just : Just (frame_of h) part
  just = record { matrix = matrix_long; rights = rights_long }

  back : widened (drop (tri h.parameters) s.matrix) (drop h.parameters s.rights) part ≡ s
  back = parted (tri h.parameters) h.parameters s

  pub answer_back : (b : List ℕ) → record_answer (frame_of h) b part ≡ record_answer (frame_of h) b s
  answer_back b = sym (answer_wide (frame_of h) _ _ b part) ∙ ap (record_answer (frame_of h) b) back

  pub step_back : (b : List ℕ) (m r : List ℤ) (t : Tally) → state_of m r t ≡ record_step (frame_of h) b part
      → state_of (m ++ drop (tri h.parameters) s.matrix) (r ++ drop h.parameters s.rights) t ≡ record_step (frame_of h) b s
  unfolding widened
  step_back b m r t e =
      ap (widened (drop (tri h.parameters) s.matrix) (drop h.parameters s.rights)) e
      ∙ sym (step_wide (frame_of h) _ _ b part just) ∙ ap (record_step (frame_of h) b) back

  pub run_back : (bs : List (List ℕ)) (m r : List ℤ) (t : Tally) → state_of m r t ≡ run (record_step (frame_of h)) part bs
      → state_of (m ++ drop (tri h.parameters) s.matrix) (r ++ drop h.parameters s.rights) t ≡ run (record_step (frame_of h)) s bs
  unfolding widened
  run_back bs m r t e =
      ap (widened (drop (tri h.parameters) s.matrix) (drop h.parameters s.rights)) e
      ∙ sym (run_wide (frame_of h) _ _ bs part just) ∙ ap (λ u. run (record_step (frame_of h)) u bs) back

  pub answers_back : (bs : List (List ℕ)) → answers (record_step (frame_of h)) (record_answer (frame_of h)) part bs ≡ answers (record_step (frame_of h)) (record_answer (frame_of h)) s bs
  answers_back bs = sym (answers_wide (frame_of h) _ _ bs part just) ∙ ap (λ u. answers (record_step (frame_of h)) (record_answer (frame_of h)) u bs) back

-- the copied parts are as many as the stations
module _ (h : Heading) (long : length h.listed ≡ 16) where
  pub numbers_16 : length (numbers_of h.listed) ≡ 16
  unfolding numbers_of
  numbers_16 = length-map h.listed station_key ∙ long

  pub corrections_16 : length (corrections_of h.listed) ≡ 16
  unfolding corrections_of
  corrections_16 = length-map h.listed (λ t. t.correction) ∙ long

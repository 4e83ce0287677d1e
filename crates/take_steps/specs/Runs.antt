-- For the proofs of the code alone: no public promise and no law cites this, and an auditor may skip it.
-- What the parts of the taking ask of each other, and the records of a run taken one after another.
use Rattle.std.specs.Prelude.{ℕ, ◌≤◌, ◌/◌, ◌≡◌, true, List, ℤ, length}
use Rattle.num_limits.specs.Capacities.{parameters_most, stations_most}
use Rattle.arc_limits.specs.Limits.{settings_ok}
use Rattle.arc_limits.specs.declared.Settings.{Settings}
use Rattle.num_packed.specs.Triangle.{tri}
use Rattle.take_state.specs.State.{State, sound_state}
use Rattle.arc_kinds.specs.Kinds.{record_size}
use Rattle.take_laws.specs.Machine.{run, answers}
use Rattle.take_laws.specs.Taking.{Frame, record_answer, record_step, cut}

-- what the parts of the taking ask of each other: a heading's rules and a state of just its parameters that is sound
pub record Prepared (a : Settings) (ns : List ℕ) (cs : List ℤ) (s : State) : Type 0 where
  pub settings : settings_ok a ≡ true
  pub seats : length ns ≤ stations_most
  pub corrected : length ns ≤ length cs
  pub few : length s.rights ≤ parameters_most
  pub matrix : length s.matrix ≡ tri (length s.rights)
  pub counts : length s.tally.counts ≡ stations_most
  pub rows : length s.tally.rows ≡ stations_most
  pub marks : length s.tally.marks ≡ parameters_most
  pub sound : sound_state (length ns) (length s.rights) s ≡ true

-- the records of a run that a frame's parameters give, taken one after another: the end, and the answers
unfoldable pub run_by : Frame → State → List ℕ → State
run_by f s l = run (record_step f) s (cut (record_size f.parameters) (length l / record_size f.parameters) l)

unfoldable pub answers_by : Frame → State → List ℕ → List ℕ
answers_by f s l = answers (record_step f) (record_answer f) s (cut (record_size f.parameters) (length l / record_size f.parameters) l)

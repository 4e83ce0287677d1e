-- Document 01, 'Taking a record': what is answered to a record, what an accepted one adds, and a run of records.
use Rattle.std.specs.Prelude.{ℕ, zero, suc, ◌-◌, ◌*◌, ◌/◌, List, [], ◌∷◌, map, Bool, ℤ, pos, ◌*ℤ◌, nat_abs, length, get_or, take, drop}
use Rattle.num_limits.specs.Capacities.{count_most, stations_most}
use Rattle.num_whole.specs.Tests.{less, up_to, same, pick}
use Rattle.num_whole.specs.Sums.{plus}
use Rattle.num_whole.specs.Answer.{Answered}
use Rattle.refusal.specs.First.{when, unless, number_in, first, value_or}
use Rattle.byte_words.specs.Words.{lay}
use Rattle.arc_limits.specs.declared.Settings.{Settings}
use Rattle.arc_limits.specs.declared.Station.{Station}
use Rattle.arc_heading.specs.Judge.{stations_of, numbers_of, find_from}
use Rattle.arc_heading.specs.declared.Heading.{Heading}
use Rattle.arc_kinds.specs.Kinds.{record_size}
use Rattle.unit_types.specs.Types.{is_type, row_of_type}
use Rattle.unit_measure.specs.Measures.{reading}
use Rattle.unit_residual.specs.Residuals.{residual_of}
use Rattle.take_rules.specs.Rules.{sigma_ok, weight_of, clock_ok, time_of, in_window, passes_edit}
use Rattle.num_packed.specs.Triangle.{times, triangle_terms}
use Rattle.arc_record.specs.Record.{record_in, partials_in}
use Rattle.take_tally.specs.Tally.{count_of, last_times, tally_with}
use Rattle.take_tally.specs.declared.Tally.{Tally}
use Rattle.take_state.specs.State.{State, capped, state_number}
use Rattle.take_laws.specs.Machine.{run, answers}

-- ---- what of a heading a record is judged by
pub record Frame : Type 0 where
  pub settings : Settings
  pub parameters : ℕ
  pub numbers : List ℕ
  pub corrections : List ℤ

abbrev pub frame : Settings → ℕ → List ℕ → List ℤ → Frame
frame a p ns cs = record { settings = a; parameters = p; numbers = ns; corrections = cs }

-- the corrections of the stations, in their order
unfoldable pub corrections_of : List Station → List ℤ
corrections_of ts = map (λ t. t.correction) ts

abbrev pub frame_of : Heading → Frame
frame_of h = frame h.settings h.parameters (numbers_of (stations_of h)) (corrections_of (stations_of h))

-- ---- what a record says
module _ (f : Frame) (b : List ℕ) where
  -- where its station is listed, or 10
  unfoldable pub station_in : Answered ℕ
  station_in = find_from (record_in b).station 0 f.numbers

  -- its row in the state; 16, past the last, where its station is not listed
  unfoldable pub station_row : ℕ
  station_row = value_or stations_most station_in

  -- its corrected time t, and t as the state holds it: in the window no time is below 0
  unfoldable pub moment_of : ℤ
  moment_of = time_of (record_in b).day (record_in b).ms (get_or f.corrections station_row (pos 0))

  unfoldable pub stamp : ℕ
  stamp = nat_abs moment_of

-- its column in the state
unfoldable pub type_column : List ℕ → ℕ
type_column b = (record_in b).kind - 1

-- its residual, or 15 or 16
unfoldable pub residual_in : List ℕ → Answered ℤ
residual_in b = residual_of (reading (record_in b).kind (record_in b).observed (record_in b).computed)

unfoldable pub residual : List ℕ → ℤ
residual b = value_or (pos 0) (residual_in b)

-- "R = r·F"
unfoldable pub scaled : List ℕ → ℤ
scaled b = residual b *ℤ pos (row_of_type (record_in b).kind).factor

unfoldable pub weight_in : List ℕ → ℕ
weight_in b = weight_of (record_in b).sigma

-- ---- the answer
-- 1 and 3: the length
unfoldable pub length_tests : Frame → List ℕ → List ℕ
length_tests f b =
    when 1 (less (length b) (record_size f.parameters)) ∷ when 3 (less (record_size f.parameters) (length b)) ∷ []

-- 10 to 16: the record against the heading
unfoldable pub record_tests : Frame → List ℕ → List ℕ
record_tests f b =
    number_in (station_in f b)
    ∷ unless 11 (is_type (record_in b).kind)
    ∷ unless 12 (sigma_ok (record_in b).sigma)
    ∷ unless 13 (clock_ok (record_in b).day (record_in b).ms)
    ∷ unless 14 (in_window f.settings.first f.settings.days (moment_of f b))
    ∷ number_in (residual_in b)
    ∷ []

-- 17 to 19: against the last time of its station and type, the edit, and its station's count
unfoldable pub station_tests : Frame → List ℕ → ℕ → ℕ → List ℕ
station_tests f b last count =
    unless 17 (less last (stamp f b))
    ∷ unless 18 (passes_edit f.settings.level (record_in b).sigma (row_of_type (record_in b).kind).step (residual b))
    ∷ unless 19 (less count count_most)
    ∷ []

-- "1, 3, then 10 to 19"; 0 where the record is accepted. Of the tally only the station's own count and last time are heard.
unfoldable pub judged_by : Frame → List ℕ → ℕ → ℕ → ℕ
judged_by f b last count = first (first (length_tests f b) ∷ first (record_tests f b) ∷ first (station_tests f b last count) ∷ [])

unfoldable pub record_number : Frame → List ℕ → Tally → ℕ
record_number f b t = judged_by f b (get_or (last_times t (station_row f b)).times (type_column b) 0) (count_of t (station_row f b))

-- ---- what an accepted record adds
-- "w·aᵢ·aⱼ to each matrix sum, w·aᵢ·R to each right side, w·R² to the square sum, 1 to the station's count, and sets the last time of that
-- station and type to t". These are the terms of one observation in the normal equations of GEODYN volume 1, section 10.1 (source document
-- 004): B has the record's partials a as a row, the diagonal W its weight w and the residuals dm its R. Row i and column j of BᵀWB gain
-- w·aᵢ·aⱼ, row i of BᵀW·dm gains w·aᵢ·R. The a priori terms of that section, the prior weights, are not added. 02, #105: "for each parameter, a
-- mark for each station that gave an accepted partial other than zero".
unfoldable pub matrix_terms : Frame → List ℕ → List ℤ
matrix_terms f b = triangle_terms (pos (weight_in b)) (partials_in f.parameters b)

unfoldable pub right_terms : Frame → List ℕ → List ℤ
right_terms f b = times (pos (weight_in b) *ℤ scaled b) (partials_in f.parameters b)

unfoldable pub square_term : List ℕ → ℕ
square_term b = weight_in b * (nat_abs (scaled b) * nat_abs (scaled b))

unfoldable pub book : Frame → List ℕ → State → State
book f b s =
    record {
      matrix = plus s.matrix (matrix_terms f b);
      rights = plus s.rights (right_terms f b);
      tally = tally_with s.tally (station_row f b) (type_column b) (stamp f b) (square_term b) (partials_in f.parameters b);
    }

-- ---- one record, the heading and the state found good
unfoldable pub record_answer : Frame → List ℕ → State → ℕ
record_answer f b s = record_number f b s.tally

unfoldable pub record_step : Frame → List ℕ → State → State
record_step f b s = pick (same (record_answer f b s) 0) (book f b s) s

-- ---- one record, with a heading and a state of any values: "Taking: 20, 2, 4, 5, 6, 1, 3, then 10 to 19"
unfoldable pub take_answer : Heading → List ℕ → State → ℕ
take_answer h b s = first (state_number h s ∷ record_answer (frame_of h) b s ∷ [])

unfoldable pub take_step : Heading → List ℕ → State → State
take_step h b s = pick (same (take_answer h b s) 0) (book (frame_of h) b s) s

-- ---- a run of records
-- n records of one size, end to end
unfoldable pub cut : ℕ → ℕ → List ℕ → List (List ℕ)
cut size zero l = []
cut size (suc n) l = take size l ∷ cut size n (drop size l)

-- how many records a run has whole, for a heading
unfoldable pub whole_records : Heading → List ℕ → ℕ
whole_records h l = length l / record_size (capped h)

unfoldable pub records_in : Heading → List ℕ → List (List ℕ)
records_in h l = cut (record_size (capped h)) (whole_records h l) l

-- nothing is left over
unfoldable pub whole_run : Heading → List ℕ → Bool
whole_run h l = same (whole_records h l * record_size (capped h)) (length l)

-- 20 where the room for the answers is short too, then 2, 4, 5, 6, then 1 where the run ends inside a record
unfoldable pub run_number : Heading → List ℕ → ℕ → State → ℕ
run_number h l room s = first (unless 20 (up_to (whole_records h l) room) ∷ state_number h s ∷ unless 1 (whole_run h l) ∷ [])

unfoldable pub run_state : Heading → List ℕ → ℕ → State → State
run_state h l room s = pick (same (run_number h l room s) 0) (run (record_step (frame_of h)) s (records_in h l)) s

-- the answers in their room, one a record from its beginning on; the rest of the room is as it was
unfoldable pub run_answers : Heading → List ℕ → List ℕ → State → List ℕ
run_answers h l out s =
    pick (same (run_number h l (length out) s) 0)
    (lay out 0 (answers (record_step (frame_of h)) (record_answer (frame_of h)) s (records_in h l))) out

-- Demand 2, the sums: a state has the sums, counts, marks and last times of just these records, by document 01's terms: "w·aᵢ·aⱼ to each matrix sum,
-- w·aᵢ·R to each right side, w·R² to the square sum, 1 to the station's count". No prior weight stands in it. Entry by entry it is BᵀWB and
-- BᵀW times the residuals of GEODYN volume 1, section 10.1 (source document 004), where B has a row of partials for each accepted record, W
-- is diagonal with their weights, and the residuals are their R.
use Rattle.std.specs.Prelude.{ℕ, ◌≤◌, ◌<◌, ◌≡◌, Bool, false, not, List, [], ◌∷◌, map, ℤ, pos, ◌*ℤ◌, length, get_or}
use Rattle.num_limits.specs.Capacities.{stations_most, types_most, parameters_most}
use Rattle.num_whole.specs.Sums.{total}
use Rattle.num_whole.specs.Tests.{either}
use Rattle.num_packed.specs.Sound.{entry, is_zero}
use Rattle.arc_record.specs.Record.{partials_in}
use Rattle.take_marks.specs.Marks.{has_mark, mark_count, rows_from}
use Rattle.take_tally.specs.Tally.{count_of, last_times, mark_of, accepted}
use Rattle.take_state.specs.State.{State}
use Rattle.take_laws.specs.Taking.{Frame, station_row, stamp, type_column, scaled, weight_in}
use Rattle.take_laws.specs.Mix.{only, last_or}

-- the partial of parameter i
abbrev pub partial_of : Frame → List ℕ → ℕ → ℤ
partial_of f b i = get_or (partials_in f.parameters b) i (pos 0)

-- one of the entries passes a test
unfoldable pub any_of : {A : Type 0} → (A → Bool) → List A → Bool
any_of t [] = false
any_of t (x ∷ l) = either (t x) (any_of t l)

-- 02, #105: the station in row k is one "that gave an accepted partial other than zero" for parameter i, these records being the accepted ones
abbrev pub gave_one : Frame → List (List ℕ) → ℕ → ℕ → Bool
gave_one f bs i k = any_of (λ b. not (is_zero (partial_of f b i))) (only (station_row f) k bs)

pub record SumsOver (f : Frame) (s : State) (bs : List (List ℕ)) : Type 0 where
  -- each matrix sum, of row i and column j
  pub matrix : (i j : ℕ) → i ≤ j → j < f.parameters → entry s.matrix i j ≡ total (λ b. pos (weight_in b) *ℤ (partial_of f b i *ℤ partial_of f b j)) bs
  pub rights : (i : ℕ) → i < f.parameters → get_or s.rights i (pos 0) ≡ total (λ b. pos (weight_in b) *ℤ (partial_of f b i *ℤ scaled b)) bs
  pub square : pos s.tally.square ≡ total (λ b. pos (weight_in b) *ℤ (scaled b *ℤ scaled b)) bs
  -- the count of the station in row k, and n, their total
  pub counts : (k : ℕ) → k < stations_most → count_of s.tally k ≡ length (only (station_row f) k bs)
  pub accepted : accepted s.tally ≡ length bs
  -- 02, #105: whether the station in row k has a mark for parameter i: exactly where one of its records has a partial other than zero for it
  pub marks : (i k : ℕ) → i < parameters_most → k < stations_most → has_mark (mark_of s.tally i) k ≡ gave_one f bs i k
  -- "give the number of stations for each parameter"
  pub carriers : (i : ℕ) → i < parameters_most → mark_count (mark_of s.tally i) ≡ rows_from (gave_one f bs i) 0 stations_most
  -- the last time of the station in row k and of type c + 1; 0 for none
  pub times : (k c : ℕ) → k < stations_most → c < types_most → get_or (last_times s.tally k).times c 0 ≡ last_or 0 (map (stamp f) (only type_column c (only (station_row f) k bs)))

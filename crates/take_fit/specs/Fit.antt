-- For the proofs of the code alone: no public promise and no law cites this, and an auditor may skip it.
-- What the code keeps of a record once it fits its heading.
use Rattle.std.specs.Prelude.{ℕ, ◌≡◌, List, [], ◌∷◌, ℤ, pos, nat_abs, get_or, Result}
use Rattle.num_whole.specs.Answer.{Answered, given, refused}
use Rattle.num_whole.specs.Tests.{pick}
use Rattle.refusal.specs.Number.{number_of}
use Rattle.refusal.specs.declared.Refusal.{Refusal}
use Rattle.refusal.specs.First.{first, answered}
use Rattle.refusal.specs.Told.{told}
use Rattle.arc_limits.specs.declared.Settings.{Settings}
use Rattle.unit_types.specs.Types.{row_of_type}
use Rattle.unit_types.specs.declared.TypeRow.{TypeRow}
use Rattle.arc_record.specs.declared.Record.{Record}
use Rattle.take_rules.specs.Rules.{clock_ok, time_of, in_window}
use Rattle.arc_record.specs.Record.{record_in}
use Rattle.take_laws.specs.Taking.{Frame, frame, station_in, station_row, stamp, type_column, residual, length_tests, record_tests}
use Rattle.take_fit.specs.declared.Fit.{Fit}

-- what is kept of a record: where it stands in the state, its time, its sigma and residual, and its type's step and F
unfoldable pub fit_of : Frame → List ℕ → Fit
fit_of f b =
    record {
      place = station_row f b;
      column = type_column b;
      time = stamp f b;
      sigma = (record_in b).sigma;
      residual = residual b;
      step = (row_of_type (record_in b).kind).step;
      factor = (row_of_type (record_in b).kind).factor;
    }

-- 1, 3, 10 to 16, or what is kept
unfoldable pub fitted : Frame → List ℕ → Answered Fit
fitted f b = answered (first (first (length_tests f b) ∷ first (record_tests f b) ∷ [])) (fit_of f b)

-- 13, 14, or the time
unfoldable pub timed : Settings → ℕ → ℕ → ℤ → Answered ℕ
timed a day ms correction =
    pick (clock_ok day ms)
    (pick (in_window a.first a.days (time_of day ms correction)) (given (nat_abs (time_of day ms correction))) (refused 14))
    (refused 13)

-- ---- what the parts of the judging promise each other, of any bytes that the record was decoded from
-- a record r of a listed station and of a type
abbrev pub Listed : Settings → ℕ → ℤ → TypeRow → Record → Result Fit Refusal → Type 0
Listed a place correction row r x =
    (f : Frame) (b : List ℕ) → f.settings ≡ a → station_in f b ≡ given place → get_or f.corrections place (pos 0) ≡ correction
    → row ≡ row_of_type r.kind → r ≡ record_in b → told x ≡ answered (first (record_tests f b)) (fit_of f b)

-- a record r
abbrev pub Decoded : Settings → List ℕ → List ℤ → Record → Result Fit Refusal → Type 0
Decoded a ns cs r x =
    (p : ℕ) (b : List ℕ) → r ≡ record_in b → told x ≡ answered (first (record_tests (frame a p ns cs) b)) (fit_of (frame a p ns cs) b)

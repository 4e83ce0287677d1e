-- Document 01, 'At the edges': the cases marked (proved), and those of document 02's #103, about the definitions that the promises cite.
use Rattle.std.specs.Prelude.{ℕ, ◌+◌, ◌-◌, ◌*◌, ◌^◌, ◌≡◌, List, [], ◌∷◌, ◌++◌, ℤ, pos, negsuc, Float}
use Rattle.std.specs.Float.{binary64}
use Rattle.std.specs.Float.Ieee.{of_bits}
use Rattle.num_whole.specs.Answer.{given, refused}
use Rattle.days.specs.Calendar.{day_of_date, date_of}
use Rattle.unit_nearest.specs.Doubles.{nearest_unit, quotient}
use Rattle.unit_types.specs.Types.{turn}
use Rattle.unit_measure.specs.Measures.{reading}
use Rattle.unit_convert.specs.Units.{unit_of}
use Rattle.unit_residual.specs.Residuals.{residual_of}
use Rattle.byte_words.specs.Words.{bytes_of}
use Rattle.take_rules.specs.Rules.{weight_of}
use Rattle.take_laws.specs.Taking.{Frame, frame, residual, judged_by}

infix 20 ◌gives◌
-- a case: what a definition gives, and what the paper says
pub data Edge : Type 1 where
  ◌gives◌ : {A : Type 0} → A → A → Edge

-- the case holds
abbrev pub Holds : Edge → Type 0
Holds (x gives y) = x ≡ y

-- every case of a list holds
abbrev pub AllHold : List Edge → Type 0
AllHold [] = Unit {0}
AllHold (e ∷ l) = Holds e × AllHold l

-- a double above zero by its exponent's field and its fraction, and one below zero
abbrev pub above : ℕ → ℕ → Float
above e f = of_bits binary64 (e * 2 ^ 52 + f)

abbrev pub under : ℕ → ℕ → Float
under e f = of_bits binary64 (2 ^ 63 + e * 2 ^ 52 + f)

-- the double nearest to -0.001, whose pattern is bf50624dd2f1a9fc
abbrev pub less_milli : Float
less_milli = under 1013 108086391056892

-- edge 7's heading as far as a record is judged by it: first day 8,036, days 1, K 30, one parameter, station 12 with correction 0
abbrev pub arc_seven : Frame
arc_seven = frame (record { arc = 7; first = 8036; days = 1; level = 30 }) 1 (12 ∷ []) (pos 0 ∷ [])

-- a range of that station with sigma s, at 0 ms of the day, by its observed double's pattern; computed 0, partial 3
abbrev pub range_record : ℕ → ℕ → List ℕ
range_record s observed =
    bytes_of 2 12 ++ (bytes_of 2 s ++ (bytes_of 4 1 ++ (bytes_of 4 8036 ++ (bytes_of 4 0 ++ (bytes_of 8 observed ++ (bytes_of 8 0 ++ bytes_of 2 3))))))

-- what it is answered where its station has no record yet
abbrev pub answer_of : ℕ → ℕ → ℕ
answer_of s observed = judged_by arc_seven (range_record s observed) 0 0

-- 02, #103: an arc of one day whose station 12 has a correction, and what a range of that station is answered at a day and a millisecond
abbrev pub arc_of_day : ℕ → ℤ → Frame
arc_of_day first correction = frame (record { arc = 7; first = first; days = 1; level = 30 }) 1 (12 ∷ []) (correction ∷ [])

abbrev pub range_at : ℕ → ℕ → List ℕ
range_at day ms =
    bytes_of 2 12 ++ (bytes_of 2 2 ++ (bytes_of 4 1 ++ (bytes_of 4 day ++ (bytes_of 4 ms ++ (bytes_of 8 0 ++ (bytes_of 8 0 ++ bytes_of 2 3))))))

abbrev pub clock_answer : ℕ → ℤ → ℕ → ℕ → ℕ
clock_answer first correction day ms = judged_by (arc_of_day first correction) (range_at day ms) 0 0

-- 384 and 385 units of a range: 1.5 and 385/256 times 2^-2
abbrev pub pattern384 : ℕ
pattern384 = 1021 * 2 ^ 52 + 2 ^ 51

abbrev pub pattern385 : ℕ
pattern385 = 1021 * 2 ^ 52 + 129 * 2 ^ 44

abbrev pub edges : List Edge
edges =
    -- 1. 1972 Jan 1 is 8,036; 2000 Jan 1 is 18,263; 2000 Feb 29 is 18,322; 1950 Jan 0 as a date: 4
    (day_of_date (date_of 1972 1 1) gives given 8036)
    ∷ (day_of_date (date_of 2000 1 1) gives given 18263)
    ∷ (day_of_date (date_of 2000 2 29) gives given 18322)
    ∷ (day_of_date (date_of 1950 1 0) gives refused 4)
    -- 2. Ranges: 2^-11 m gives 0, 3·2^-11 gives 2, −2^-11 gives 0; −0.001 gives −1, so 16
    ∷ (unit_of 1 (above 1012 0) gives given (pos 0))
    ∷ (unit_of 1 (above 1013 (2 ^ 51)) gives given (pos 2))
    ∷ (unit_of 1 (under 1012 0) gives given (pos 0))
    ∷ (nearest_unit 10 less_milli gives negsuc 0)
    ∷ (unit_of 1 less_milli gives refused 16)
    -- 3. Azimuth observed 5, computed T−5: r = 10
    ∷ (residual_of (reading 7 (quotient 28 (pos 5)) (quotient 28 (pos (turn - 5)))) gives given (pos 10))
    -- 4. K 30, s 2, range: r = 384 passes, 385 gives 18
    ∷ (residual (range_record 2 pattern384) gives pos 384)
    ∷ (answer_of 2 pattern384 gives 0)
    ∷ (residual (range_record 2 pattern385) gives pos 385)
    ∷ (answer_of 2 pattern385 gives 18)
    -- 5, as 02's #101 has it: s = 1: w 65,536; s = 200: 2; s = 256: 1; s = 0 or 257: 12
    ∷ (weight_of 1 gives 65536)
    ∷ (weight_of 200 gives 2)
    ∷ (weight_of 256 gives 1)
    ∷ (answer_of 0 pattern384 gives 12)
    ∷ (answer_of 257 pattern384 gives 12)
    -- 02, #103: 1972 Jun 30 is 8,217, and on it 23:59:60.000 and 23:59:60.999 are taken, 23:59:61 is refused with 13; 23:59:60 on the day before: 13
    ∷ (day_of_date (date_of 1972 6 30) gives given 8217)
    ∷ (clock_answer 8217 (pos 0) 8217 86400000 gives 0)
    ∷ (clock_answer 8217 (pos 0) 8217 86400999 gives 0)
    ∷ (clock_answer 8217 (pos 0) 8217 86401000 gives 13)
    ∷ (clock_answer 8216 (pos 0) 8216 86400000 gives 13)
    -- a window that ends on it: a correction of +1 ms leads over its end from 23:59:60.999, not from the millisecond before
    ∷ (clock_answer 8217 (pos 1) 8217 86400999 gives 14)
    ∷ (clock_answer 8217 (pos 1) 8217 86400998 gives 0)
    -- the first millisecond of the day after is past it, and the first of that day's window
    ∷ (clock_answer 8217 (pos 0) 8218 0 gives 14)
    ∷ (clock_answer 8218 (pos 0) 8218 0 gives 0)
    ∷ []

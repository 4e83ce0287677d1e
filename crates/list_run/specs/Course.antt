-- For the proofs of the code alone: no public promise and no law cites this, and an auditor may skip it.
-- How far the listing of a file has come after some of its bytes, handed over in parts.
use Rattle.std.specs.Prelude.{ℕ, ◌≤◌, ◌≡◌, List, ◌++◌, ℤ, length, take, Result}
use Rattle.refusal.specs.Told.{told_placed}
use Rattle.num_whole.specs.Answer.{Judged, good, bad}
use Rattle.refusal.specs.declared.Fault.{Fault}
use Rattle.decimal.specs.Laid.{laid}
use Rattle.take_state.specs.State.{state_of}
use Rattle.part_laws.specs.Feeding.{begun, Fed, feed}
use Rattle.part_laws.specs.Entries.{held_of, Told, took, stopped, broken}
use Rattle.list_lines.specs.Lines.{tallies_of}
use Rattle.list_tallies.specs.Tables.{counted, CountsFit}
use Rattle.list_run.specs.Runs.{empty_state, listing}
use Rattle.list_run.specs.declared.Course.{Course}
use Rattle.list_run.specs.declared.Heard.{Heard}

-- the bytes handed over in one go, from the empty state
abbrev pub heard : List ℕ → Fed
heard s = feed begun empty_state s

-- nothing was refused in the form so far; position, state and table are those of the bytes
pub record Follows (s : List ℕ) (c : Course) (m r : List ℤ) (table : List ℕ) : Type 0 where
  pub going : (heard s).verdict ≡ good tt
  pub position : c.position ≡ held_of (heard s).position
  pub state : state_of m r c.tally ≡ (heard s).state
  pub tallies : table ≡ tallies_of (heard s).answers

-- some bytes led here
abbrev pub Open : Course → List ℤ → List ℤ → List ℕ → Type 0
Open c m r table = (s : List ℕ) × Follows s c m r table

-- after a part: on the way still, or refused in the form
abbrev pub AfterBy : Judged (Unit {0}) → List ℕ → Course → List ℤ → List ℤ → List ℕ → Type 0
AfterBy (good u) s c m r table = Follows s c m r table
AfterBy (bad number place) s c m r table = (heard s).verdict ≡ bad number place

-- the table with the answers of the records that it took; they are there, and can be counted
abbrev pub counted_by : Told → List ℕ → List ℕ → List ℕ
counted_by (took n) table told = counted table (take n told)
counted_by (stopped number) table told = table
counted_by (broken number place all) table told = table

abbrev pub Countable : Told → List ℕ → List ℕ → Type 0
Countable (took n) table told = (n ≤ length told) × CountsFit table n
Countable (stopped number) table told = Unit {0}
Countable (broken number place all) table told = Unit {0}

-- whatever bytes led here, the part leads on from them
abbrev pub Leads : Course → List ℤ → List ℤ → List ℕ → List ℕ → Heard → List ℤ → List ℤ → List ℕ → Type 0
Leads c m r table bytes x m₁ r₁ table₁ =
    (s : List ℕ) → Follows s c m r table → AfterBy (told_placed x.answer) (s ++ bytes) x.course m₁ r₁ table₁

-- whatever bytes led here, the text is their listing
abbrev pub Texts : Course → List ℤ → List ℤ → List ℕ → List ℕ → List ℕ → ℕ → Type 0
Texts c m r table room room₁ n = (s : List ℕ) → Follows s c m r table → (room₁, n) ≡ laid room 0 (listing s)

-- some bytes led to what was answered last, a refusal in the form or none
abbrev pub Ended : Result (Unit {0}) Fault → Course → List ℤ → List ℤ → List ℕ → Type 0
Ended answer c m r table = (s : List ℕ) × AfterBy (told_placed answer) s c m r table

-- whatever bytes did, the text is their listing
abbrev pub EndTexts : Result (Unit {0}) Fault → Course → List ℤ → List ℤ → List ℕ → List ℕ → List ℕ → ℕ → Type 0
EndTexts answer c m r table room room₁ n =
    (s : List ℕ) → AfterBy (told_placed answer) s c m r table → (room₁, n) ≡ laid room 0 (listing s)

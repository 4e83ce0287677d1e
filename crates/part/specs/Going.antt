-- For the proofs of the code alone: no public promise and no law cites this, and an auditor may skip it.
-- What is known of a part that nothing but the file's form refuses.
use Rattle.std.specs.Prelude.{ℕ, ◌+◌, ◌≤◌, ◌≡◌, false, List, ◌++◌, length, Result, IfOk}
use Rattle.num_whole.specs.Answer.{Judged, good, bad}
use Rattle.num_limits.specs.Capacities.{parameters_most, records_most}
use Rattle.refusal.specs.Told.{told_placed}
use Rattle.refusal.specs.declared.Fault.{Fault}
use Rattle.arc_read.specs.declared.ArcRead.{ArcRead}
use Rattle.take_state.specs.State.{State}
use Rattle.part_laws.specs.Beginning.{opened, done}
use Rattle.part_laws.specs.Feeding.{ended}
use Rattle.part_laws.specs.Entries.{position_of, held_of, part_number}
use Rattle.part_laws.specs.declared.Position as ByValue
use Rattle.part_place.specs.Looks.{FrontOf}
use Rattle.part_place.specs.declared.Front.{Front}

-- where a part leads that does not open the file
abbrev pub grown : Judged (Unit {0}) → Front → ℕ → ByValue.Position
grown (good u) f taken = record { kept = f.room; length = f.length; taken = taken; over = false }
grown (bad number place) f taken = held_of (ended taken)

pub record Going (p : ByValue.Position) (s : State) (l : List ℕ) (room : ℕ) (new : Result ArcRead Fault) (f : Front) (n : ℕ) : Type 0 where
  pub number : part_number p s l room ≡ 0
  pub opens : told_placed new ≡ opened ((position_of p).kept ++ l)
  pub fits : IfOk new (λ a. (a.heading.parameters ≤ parameters_most) × (a.count ≤ records_most))
  pub front : FrontOf p l f
  pub many : n ≡ length (done p.taken ((position_of p).kept ++ l))

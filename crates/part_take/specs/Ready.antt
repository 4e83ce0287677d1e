-- For the proofs of the code alone: no public promise and no law cites this, and an auditor may skip it.
-- What the taking of a part's records asks: a front and a part that a file opens with, and how many records they complete.
use Rattle.std.specs.Prelude.{ℕ, ◌+◌, ◌≤◌, ◌≡◌, List, ◌++◌, length, take}
use Rattle.num_whole.specs.Answer.{good}
use Rattle.num_whole.specs.Lists.{padded}
use Rattle.arc_read.specs.Arc.{Arc}
use Rattle.part_laws.specs.Beginning.{opened, done, size_of}
use Rattle.part_laws.specs.Entries.{position_most}
use Rattle.part_place.specs.declared.Front.{Front}

-- what is kept and handed over
abbrev pub beginning : Front → List ℕ → List ℕ
beginning f bytes = take f.held f.room ++ bytes

pub record Ready (a : Arc) (f : Front) (taken n : ℕ) (bytes : List ℕ) : Type 0 where
  pub opens : opened (beginning f bytes) ≡ good a
  pub number : n ≡ length (done taken (beginning f bytes))
  pub near : f.held ≤ a.start + size_of a
  pub within : f.held ≤ position_most
  pub room : f.room ≡ padded position_most 0 (take position_most (beginning f bytes))

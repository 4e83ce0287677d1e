-- For the proofs of the code alone: no public promise and no law cites this, and an auditor may skip it.
-- What the code's answer on two systems that were read comes to: what is answered, and what is left of the room.
use Rattle.std.specs.Prelude.{◌≡◌, List, ℕ, length, Result}
use Rattle.norm_system.specs.System.{System}
use Rattle.merge.specs.Files.{pair_answer, pair_left, told_merge}
use Rattle.merge.specs.declared.MergeRefusal.{MergeRefusal}

abbrev pub Merges : Result ℕ MergeRefusal → System → System → List ℕ → List ℕ → Type 0
Merges r x y out left = (told_merge r ≡ pair_answer x y (length out)) × (left ≡ pair_left x y out)

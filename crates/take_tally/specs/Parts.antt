-- For the proofs of the code alone: no public promise and no law cites this, and an auditor may skip it.
-- A parameter's word of marks, judged by the word of the stations that have records.
use Rattle.std.specs.Prelude.{ℕ, List, Bool, not, ℤ}
use Rattle.num_whole.specs.Tests.{less, same, pick, both}
use Rattle.num_packed.specs.Sound.{entry, is_zero}
use Rattle.take_marks.specs.Parts.{among_marks}

unfoldable pub mark_good : ℕ → List ℤ → ℕ → ℕ → ℕ → Bool
mark_good p m i word heard =
    pick (less i p) (pick (is_zero (entry m i i)) (same word 0) (both (not (same word 0)) (among_marks word heard))) (same word 0)

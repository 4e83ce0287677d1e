-- For the proofs of the code alone: no public promise and no law cites this, and an auditor may skip it.
-- One record of a normal file that is judged and not kept.
use Rattle.std.specs.Prelude.{ℕ, List}
use Rattle.num_whole.specs.Answer.{Judged, good}
use Rattle.byte_section.specs.Section.{Kind, and_then, judged_at}

-- the least key that may follow it
unfoldable pub floor_at : {A : Type 0} → Kind A → List ℕ → ℕ → ℕ → Judged ℕ
floor_at K s at floor = and_then (judged_at K s at floor) (λ a. good (K.after a))

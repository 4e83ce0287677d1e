-- Whether two tests hold, by the first of them.
-- Assumes nothing.
use mathlib.Core.Path.{◌≡◌, ◌∙◌}
use mathlib.Core.Bool.{Bool, false}
use Rattle.num_whole.specs.Tests.{both}
use Rattle.num_whole.proofs.Cases.{fails}

-- the first of two tests fails
pub stops : {a x : Bool} (b : Bool) → x ≡ a → a ≡ false → x ≡ both a b
stops b e f = e ∙ f ∙ fails _ _ f

-- `norm_fields::counts_fit` meets its contract.
use mathlib.Core.Path.{sym, ◌∙◌}
use Rattle.num_whole.proofs.Cases.{holds, fails}
use Rattle.norm_room.specs.Room.{counts_fit}
use Rattle.norm_fields.proofs.counts_fit.Goals as goal

pub returns-then-within : goal.returns-then-within
unfolding counts_fit
returns-then-within c = holds _ _ (sym c.within.ensures ∙ c.if-within.true) c.within-then-within.ensures

pub returns-else-within : goal.returns-else-within
unfolding counts_fit
returns-else-within c = c.if-within.false ∙ fails _ _ (sym c.within.ensures ∙ c.if-within.false)

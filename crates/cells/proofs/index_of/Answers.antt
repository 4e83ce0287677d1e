-- `cells::index_of` meets its contract: the limits' test, and the index rule of the letter.
use mathlib.Core.Path.{refl, ap, sym, ◌∙◌}
use native.Mathlib.Omega.{arith}
use Rattle.num_whole.specs.Answer.{given}
use Rattle.num_whole.proofs.Cases.{yes, no}
use Rattle.cells.specs.Cells.{index_of, cell_index}
use Rattle.cells.proofs.Owners.{limits}
use Rattle.cells.proofs.index_of.Goals as goal

pub overflow_sub-result : goal.overflow_sub-result
overflow_sub-result c = omega (arith, limits c.args.cell (sym c.within.ensures ∙ c.if-within.true))

pub overflow_mul-result : goal.overflow_mul-result
overflow_mul-result c = omega (arith, limits c.args.cell (sym c.within.ensures ∙ c.if-within.true))

pub overflow_add-result : goal.overflow_add-result
overflow_add-result c = omega (arith, limits c.args.cell (sym c.within.ensures ∙ c.if-within.true))

pub overflow_sub-result-in-S : goal.overflow_sub-result-in-S
overflow_sub-result-in-S c = omega (arith, limits c.args.cell (sym c.within.ensures ∙ c.if-within.true))

pub overflow_sub-result-in-S-2 : goal.overflow_sub-result-in-S-2
overflow_sub-result-in-S-2 c = omega (arith, limits c.args.cell (sym c.within.ensures ∙ c.if-within.true))

pub returns-in-C : goal.returns-in-C
unfolding index_of cell_index
returns-in-C c = yes _ _ _ (sym c.within.ensures ∙ c.if-within.true) (ap given (rw c.in-C.is (omega arith)))

pub returns-in-S : goal.returns-in-S
unfolding index_of cell_index
returns-in-S c =
    yes _ _ _ (sym c.within.ensures ∙ c.if-within.true) (ap given (rw c.in-S.is (omega (arith, limits c.args.cell (sym c.within.ensures ∙ c.if-within.true)))))

pub returns-else-within : goal.returns-else-within
unfolding index_of
returns-else-within c = no _ _ _ (sym c.within.ensures ∙ c.if-within.false) refl

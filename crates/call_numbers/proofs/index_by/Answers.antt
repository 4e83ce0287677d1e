-- `call_numbers::index_by` meets its contract: one test a letter.
use mathlib.Core.Path.{refl}
use native.Mathlib.Omega.{arith}
use Rattle.num_whole.proofs.Cases.{yes, no, is_same, not_same}
use Rattle.call_numbers.specs.Given.{index_by}
use Rattle.call_numbers.proofs.index_by.Goals as goal

pub returns-in-67 : goal.returns-in-67
unfolding index_by
returns-in-67 c = yes _ _ _ (is_same _ _ (omega arith)) c.index_of.ensures

pub returns-in-83 : goal.returns-in-83
unfolding index_by
returns-in-83 c = no _ _ _ (not_same _ _ (λ e. omega (arith, e))) (yes _ _ _ (is_same _ _ (omega arith)) c.index_of-in-83.ensures)

pub returns-in_default : goal.returns-in_default
unfolding index_by
returns-in_default c =
    let other = c.in_default.in_default-own.rest in
    no _ _ _ (not_same _ _ other.0.1) (no _ _ _ (not_same _ _ other.1) refl)

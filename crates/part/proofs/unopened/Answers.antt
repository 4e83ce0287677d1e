-- `part::unopened` meets its contract: 1 is left out, any other refusal closes the file.
use native.Mathlib.Omega.{arith}
use mathlib.Core.Path.{◌≡◌, refl, ap, ◌∙◌}
use Rattle.num_whole.specs.Answer.{good, bad}
use Rattle.num_whole.proofs.Cases.{yes, no, is_same, not_same}
use Rattle.refusal.specs.Number.{number_of}
use Rattle.arc_read.specs.Arc.{Arc}
use Rattle.part_laws.specs.Feeding.{so_far}
use Rattle.part_laws.specs.Entries.{told_form}
use Rattle.part.specs.Going.{grown}
use Rattle.part.proofs.unopened.Goals as goal

pub returns-then-number-eq1 : goal.returns-then-number-eq1
unfolding so_far
returns-then-number-eq1 c =
    let a = c.args in let is : good tt ≡ so_far {A = Arc} (bad (number_of a.fault.why) a.fault.place) = yes _ _ _ (is_same _ _ (omega (arith, c.number.ensures))) refl in record {
      answer_value = ap (λ v. told_form v 0 a.taken) is;
      position = ap (λ v. grown v a.f a.taken) is;
    }

pub returns-else-number-eq1 : goal.returns-else-number-eq1
unfolding so_far
returns-else-number-eq1 c =
    let a = c.args in let is : bad (number_of a.fault.why) a.fault.place ≡ so_far {A = Arc} (bad (number_of a.fault.why) a.fault.place) = no _ _ _ (not_same _ _ (λ e. omega (arith, c.number.ensures))) refl in record {
      answer_value = ap (λ v. told_form v 0 a.taken) is;
      position = c.ended.ensures ∙ ap (λ v. grown v a.f a.taken) is;
    }

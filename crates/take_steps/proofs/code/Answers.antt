-- `take_steps::code` meets its contract: every number fits a byte.
use Rattle.std.proofs.Common.{arith, sym, ap, ◌∙◌}
use Rattle.refusal.specs.First.{number_in}
use Rattle.refusal.specs.Told.{told}
use Rattle.refusal.proofs.Apart.{few}
use Rattle.take_steps.proofs.code.Goals as goal

pub overflow_cast-result : goal.overflow_cast-result
overflow_cast-result c = record { fits = omega (arith, c.number.ensures, few c.in-Err.e) }

pub returns-in-Ok : goal.returns-in-Ok
unfolding number_in
returns-in-Ok c = ap (λ v. number_in (told v)) (sym c.in-Ok.is)

pub returns-in-Err : goal.returns-in-Err
unfolding number_in
returns-in-Err c = c.number.ensures ∙ ap (λ v. number_in (told v)) (sym c.in-Err.is)

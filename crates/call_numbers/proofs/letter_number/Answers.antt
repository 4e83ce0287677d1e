-- `call_numbers::letter_number` meets its contract.
use mathlib.Core.Path.{sym, ap}
use Rattle.call_numbers.specs.Given.{letter_number}
use Rattle.call_numbers.proofs.letter_number.Goals as goal

pub returns-in-C : goal.returns-in-C
unfolding letter_number
returns-in-C c = sym (ap letter_number c.in-C.is)

pub returns-in-S : goal.returns-in-S
unfolding letter_number
returns-in-S c = sym (ap letter_number c.in-S.is)

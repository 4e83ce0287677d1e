-- `arc_kinds::read_record` meets its contract: 1, 4 and 5 in the definition's order.
use native.Mathlib.Omega.{arith}
use mathlib.Core.Path.{sym, ap, ◌∙◌}
use Rattle.num_whole.specs.Answer.{bad}
use Rattle.arc_kinds.proofs.Judging.{record_cut, record_passed, record_low, record_outside}
use Rattle.arc_kinds.proofs.read_record.Goals as goal

pub load-requires : goal.load-requires
load-requires g c = omega (arith, g.met.R.Record.sized)

pub returns-then-left-SIZE : goal.returns-then-left-SIZE
returns-then-left-SIZE g c = record_cut _ _ _ _ (omega (arith, g.met.R.Record.sized))

pub returns-in-None : goal.returns-in-None
returns-in-None g c = c.refused.ensures ∙ ap (bad 4) (omega arith) ∙ record_outside _ _ _ _ (omega (arith, g.met.R.Record.sized)) (sym c.load.ensures ∙ c.in-None.is)

pub returns-in-Some : goal.returns-in-Some
returns-in-Some g c =
    c.refused-in-Some.ensures ∙ record_low _ _ _ _ (omega (arith, g.met.R.Record.sized)) _ (sym c.load.ensures ∙ c.in-Some.is) (omega (arith, c.key.ensures))

pub returns-in-Some-2 : goal.returns-in-Some-2
returns-in-Some-2 g c =
    record_passed _ _ _ _ (omega (arith, g.met.R.Record.sized)) _ (sym c.load.ensures ∙ c.in-Some.is) (omega (arith, c.key.ensures))

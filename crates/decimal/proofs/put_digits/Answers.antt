-- `decimal::put_digits` meets its contract: the digits stand at the end of the twenty bytes, and that part is laid.
use mathlib.Core.Path.{ap, ◌∙◌}
use Rattle.decimal.specs.Laid.{laid}
use Rattle.decimal.proofs.Laying.{part_to_end}
use Rattle.decimal.proofs.put_digits.Goals as goal

pub returns : goal.returns
returns c =
    let t = c.put_text in
    let d = c.digits-k in
    t.ensures ∙ ap (laid _ _) (part_to_end d.result d.new.last ∙ d.ensures.1)

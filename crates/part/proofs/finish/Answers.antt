-- `part::finish` meets its contract: 28, 6, or what the reading says.
use mathlib.Core.Path.{sym, ◌∙◌}
use Rattle.part.proofs.Stops.{end_over, end_unsound, end_told}
use Rattle.part.proofs.finish.Goals as goal

pub returns-then-p : goal.returns-then-p
returns-then-p c =
    let got = end_over _ c.if-p.true in record {
      answer_value = got.0;
      position = got.1;
    }

pub end_of-requires : goal.end_of-requires
end_of-requires c = (c.open_at-old.ensures, sym c.is_fair.ensures ∙ c.if-not-is_fair.false, c.if-p.false)

pub returns : goal.returns
returns c =
    let v = end_told c.args.p c.if-p.false (sym c.is_fair.ensures ∙ c.if-not-is_fair.false) in record {
      answer_value = c.end_of.ensures.answer_value ∙ v.0;
      position = c.end_of.ensures.position ∙ v.1;
    }

pub returns-then-not-is_fair : goal.returns-then-not-is_fair
returns-then-not-is_fair c =
    let got = end_unsound c.args.p c.if-p.false (sym c.is_fair.ensures ∙ c.if-not-is_fair.true) in record {
      answer_value = got.0;
      position = got.1;
    }

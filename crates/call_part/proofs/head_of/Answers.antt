-- `call_part::head_of` meets its contract: 6, or what the entry says.
use mathlib.Core.Path.{refl, sym, ◌∙◌}
use Rattle.call_part.proofs.Heads.{looked, looked_not, fits_if}
use Rattle.call_part.proofs.head_of.Goals as goal

pub returns-then-is_marked : goal.returns-then-is_marked
returns-then-is_marked c =
    let got = looked _ _ _ (sym c.is_marked.ensures ∙ c.if-is_marked.true) _ c.position_in.ensures
    c.heading.ensures.answer_value c.heading.ensures.heading in record {
      answer_value = got.0;
      heading = got.1.0;
      fits = fits_if c.heading.result got.1.1;
    }

pub returns-else-is_marked : goal.returns-else-is_marked
returns-else-is_marked c =
    let got = looked_not _ _ _ (sym c.is_marked.ensures ∙ c.if-is_marked.false) refl refl in record {
      answer_value = got.0;
      heading = got.1.0;
      fits = tt;
    }

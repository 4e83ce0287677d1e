-- `list_run::begin` meets its contract: nothing was heard yet.
use mathlib.Core.Path.{sym, ap, ◌∙◌}
use Rattle.part_laws.specs.Entries.{held_of}
use Rattle.list_lines.specs.Lines.{tallies_of}
use Rattle.list_run.proofs.Courses.{heard_nothing, begins_ok, begin_state_lem}
use Rattle.list_run.proofs.begin.Goals as goal

pub unwrap-b-requires : goal.unwrap-b-requires
unwrap-b-requires c = begins_ok _ _ c.begin.result c.requires.0 c.requires.1 c.begin.ensures.answer_value

pub returns : goal.returns
returns c =
    let position = rw c.unwrap-b.ensures at c.begin.ensures.position in
    let state = rw c.unwrap-b.ensures at c.begin.ensures.state in record {
      going = ap (λ z. z.verdict) heard_nothing;
      position = position ∙ ap (λ z. held_of z.position) (sym heard_nothing);
      state = state ∙ begin_state_lem _ _ c.requires.0 c.requires.1 ∙ ap (λ z. z.state) (sym heard_nothing);
      tallies = c.requires.2 ∙ ap (λ z. tallies_of z.answers) (sym heard_nothing);
    }

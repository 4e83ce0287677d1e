-- `list_run::hear` meets its contract: whatever bytes led here, what the entry for parts promises leads on from them.
use mathlib.Core.Path.{◌≡◌, sym, ap, ◌∙◌, subst₂}
use mathlib.Core.List.{◌++◌}
use lib.ListN.{length}
use Rattle.take_state.specs.State.{state_of}
use Rattle.list_run.specs.Course.{AfterBy}
use Rattle.list_run.proofs.Courses.{countable, leads}
use Rattle.list_run.proofs.hear.Goals as goal

pub note-requires : goal.note-requires
note-requires c =
    let a = c.args in
    countable c.requires.0.0 a.c a.matrix.now a.rights.now a.table.now c.requires.0.1 a.bytes.now c.requires.1
    c.told_room-told.result (sym c.told_room-told.ensures) _ c.part-x.ensures.answer_value _ c.part-x.auto.answers

pub returns : goal.returns
returns c s h =
    let a = c.args in let n = c.note in
    subst₂ (λ j t. AfterBy j (s ++ a.bytes.now) n.result.course c.part-x.new.matrix c.part-x.new.rights t) (sym n.ensures.answer) (sym n.ensures.table)
    (leads s a.c a.matrix.now a.rights.now a.table.now h a.bytes.now c.requires.1
    c.told_room-told.result (sym c.told_room-told.ensures) _ c.part-x.ensures.answer_value n.result.course c.part-x.new.matrix c.part-x.new.rights c.part-x.new.answers
    (n.ensures.course.0 ∙ c.part-x.ensures.position) (ap (state_of c.part-x.new.matrix c.part-x.new.rights) n.ensures.course.1 ∙ c.part-x.ensures.state) c.part-x.ensures.told)

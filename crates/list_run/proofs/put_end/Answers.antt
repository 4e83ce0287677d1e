-- `list_run::put_end` meets its contract.
use mathlib.Core.Path.{ap, ◌∙◌, subst}
use Rattle.refusal.specs.Told.{told_placed}
use mathlib.Core.List.{[], append-nil}
use Rattle.decimal.specs.Laid.{laid}
use Rattle.list_run.specs.Runs.{listing}
use Rattle.list_run.specs.Course.{AfterBy}
use Rattle.list_run.proofs.Courses.{refused_so}
use Rattle.list_run.proofs.put_end.Goals as goal

pub put_text-requires : goal.put_text-requires
put_text-requires c =
    let a = c.args in
    ((c.requires.0.0, subst (λ r. AfterBy (told_placed r) c.requires.0.0 a.c a.matrix.now a.rights.now a.table.now) c.in-Ok.is c.requires.0.1), c.requires.1, c.requires.2)

pub returns-in-Ok : goal.returns-in-Ok
returns-in-Ok c s h =
    let a = c.args in
    c.put_text.ensures s (subst (λ r. AfterBy (told_placed r) s a.c a.matrix.now a.rights.now a.table.now) c.in-Ok.is h)

pub returns-in-Err : goal.returns-in-Err
returns-in-Err c s h =
    let a = c.args in
    c.put_fault.ensures
    ∙ ap (laid a.room.now 0)
    (refused_so s [] _ _ (subst (λ r. AfterBy (told_placed r) s a.c a.matrix.now a.rights.now a.table.now) c.in-Err.is h) ∙ ap listing (append-nil s))

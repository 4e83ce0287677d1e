-- `list_run::put_text` meets its contract: whatever bytes led here, finish says of them what reading them says.
use mathlib.Core.Path.{sym, ap, ◌∙◌, subst}
use Prim.Native.Nat.{◌≤◌}
use native.Mathlib.Omega.{arith}
use Rattle.num_limits.specs.Capacities.{parameters_most}
use Rattle.decimal.specs.Laid.{laid}
use Rattle.part_laws.specs.Entries.{told_part}
use Rattle.list_lines.specs.Lines.{arc_lines}
use Rattle.list_run.proofs.Courses.{sums_fit_lem, heading_ok, heading_took, heading_few, text_good, end_good, end_refused}
use Rattle.list_run.proofs.put_text.Goals as goal

pub unwrap-h-requires : goal.unwrap-h-requires
unwrap-h-requires c =
    let a = c.args in
    let w = c.requires.0 in
    let e = end_good w.0 a.c a.matrix.now a.rights.now a.table.now w.1 _ (sym (ap told_part c.in-Ok.is) ∙ c.finish-f.ensures.answer_value) in
    heading_ok c.heading.result (c.heading.ensures.answer_value ∙ heading_took w.0 a.c a.matrix.now a.rights.now a.table.now w.1 e.0 e.1)

pub put_arc-requires : goal.put_arc-requires
put_arc-requires c =
    let a = c.args in
    let w = c.requires.0 in
    let e = end_good w.0 a.c a.matrix.now a.rights.now a.table.now w.1 _ (sym (ap told_part c.in-Ok.is) ∙ c.finish-f.ensures.answer_value) in
    let given = rw c.unwrap-h.ensures at c.heading.ensures.heading in
    let few : c.unwrap-h.result.parameters ≤ parameters_most =
    subst (λ g. g.parameters ≤ parameters_most) (sym given) (heading_few w.0 a.c a.matrix.now a.rights.now a.table.now w.1 e.0 e.1) in
    (few, omega (arith, sums_fit_lem _ few, c.requires.1), omega (arith, c.requires.2))

pub returns-in-Ok : goal.returns-in-Ok
returns-in-Ok c s h =
    let a = c.args in
    let e = end_good s a.c a.matrix.now a.rights.now a.table.now h _ (sym (ap told_part c.in-Ok.is) ∙ c.finish-f.ensures.answer_value) in
    let given = rw c.unwrap-h.ensures at c.heading.ensures.heading in
    c.put_arc.ensures
    ∙ ap (laid a.room.now 0)
    (ap (λ g. arc_lines g a.c.position.taken a.table.now a.matrix.now a.rights.now a.c.tally) given
    ∙ text_good s a.c a.matrix.now a.rights.now a.table.now h e.0 e.1)

pub returns-in-Err : goal.returns-in-Err
returns-in-Err c s h =
    let a = c.args in
    c.put_fault.ensures
    ∙ ap (laid a.room.now 0)
    (end_refused s a.c a.matrix.now a.rights.now a.table.now h c.in-Err.r _ _ (sym (ap told_part c.in-Err.is) ∙ c.finish-f.ensures.answer_value) c.fault_of.ensures)

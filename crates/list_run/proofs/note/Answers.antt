-- `list_run::note` meets its contract.
use mathlib.Core.Path.{◌≡◌, refl, sym, ap, ◌∙◌, subst}
use native.Mathlib.Omega.{arith}
use lib.ListN.{length-take}
use Rattle.part_laws.specs.Entries.{took, told_part}
use Rattle.part_laws.specs.Sequence.{form_of}
use Rattle.list_run.specs.Course.{counted_by, Countable}
use Rattle.list_run.proofs.Courses.{none_counted}
use Rattle.list_run.proofs.note.Goals as goal

pub slice_bounds-count-end : goal.slice_bounds-count-end
slice_bounds-count-end c =
    let a = c.args in
    let fits = subst (λ t. Countable t a.table.now a.told.now) (ap told_part c.in-Ok.is) c.requires in
    simp length-take (omega (arith, fits.0))

pub count-requires : goal.count-requires
count-requires c k =
    let a = c.args in
    let fits = subst (λ t. Countable t a.table.now a.told.now) (ap told_part c.in-Ok.is) c.requires in
    simp length-take (omega (arith, fits.0, fits.1 k))

pub returns-in-Ok : goal.returns-in-Ok
returns-in-Ok c =
    let a = c.args in let e = sym (ap told_part c.in-Ok.is) in record {
      answer = ap form_of e;
      course = (refl, refl);
      table = c.count.ensures ∙ ap (λ t. counted_by t a.table.now a.told.now) e;
    }

pub returns-in-Err : goal.returns-in-Err
returns-in-Err c =
    let a = c.args in let e = sym (ap told_part c.in-Err.is) in record {
      answer = c.fault_of.ensures ∙ ap form_of e;
      course = (refl, refl);
      table = none_counted c.in-Err.r a.table.now a.told.now ∙ ap (λ t. counted_by t a.table.now a.told.now) e;
    }

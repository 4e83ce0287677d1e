-- `part_place::end_of` meets its contract: 1 where something is missing, else all is there.
use native.Mathlib.Omega.{arith}
use mathlib.Core.Path.{sym, ◌∙◌}
use Rattle.part_place.proofs.Ends.{taken_small, fits, ends_short, ends_all, ends_before}
use Rattle.part_place.proofs.end_of.Goals as goal

pub overflow_mul-total : goal.overflow_mul-total
overflow_mul-total c =
    let told = rw c.in-Ok.is at c.requires.0.told in
    let f = rw c.in-Ok.is at c.requires.0.fits in
    omega (arith, taken_small c.args.p c.well_formed.0.1.1.0.1.0.1 c.requires.1 c.requires.2 _ (sym told) f.2 f.0)

pub overflow_add-total : goal.overflow_add-total
overflow_add-total c =
    let told = rw c.in-Ok.is at c.requires.0.told in
    let f = rw c.in-Ok.is at c.requires.0.fits in
    omega (arith, taken_small c.args.p c.well_formed.0.1.1.0.1.0.1 c.requires.1 c.requires.2 _ (sym told) f.2 f.0, fits c.args.p c.well_formed.0.1.1.0.1.0.1 c.requires.1 c.requires.2)

pub returns-then-total-a : goal.returns-then-total-a
returns-then-total-a c =
    let told = rw c.in-Ok.is at c.requires.0.told in
    let v = ends_short c.args.p c.well_formed.0.1.1.0.1.0.1 c.requires.1 c.requires.2 _ (sym told) (omega arith) in record {
      answer_value = v.0;
      position = c.ended.ensures ∙ v.1;
    }

pub returns-else-total-a : goal.returns-else-total-a
returns-else-total-a c =
    let told = rw c.in-Ok.is at c.requires.0.told in
    let v = ends_all c.args.p c.well_formed.0.1.1.0.1.0.1 c.requires.1 c.requires.2 _ (sym told) (omega arith) in record {
      answer_value = v.0;
      position = v.1;
    }

pub returns-in-Err : goal.returns-in-Err
returns-in-Err c =
    let told = rw c.in-Err.is at c.requires.0.told in
    let v = ends_before c.args.p c.well_formed.0.1.1.0.1.0.1 c.requires.1 c.requires.2 _ _ (sym told) in record {
      answer_value = v.0;
      position = c.ended-in-Err.ensures ∙ v.1;
    }

use native.Mathlib.Omega.{arith}
use mathlib.Core.Path.{sym, ◌∙◌}
use Rattle.std.proofs.lemmas.Result.{err_from_is_err_and}
use Rattle.byte_section.specs.Section.{and_then}
use Rattle.byte_section.proofs.Walk.{judged_read}
use Rattle.arc_sections.specs.Sections.{run_left}
use Rattle.arc_sections.proofs.Filling.{fill_start, fill_end, fill_good, fill_bad}
use Rattle.arc_sections.proofs.fill.Goals as goal

pub loop-i-init : goal.loop-i-init
loop-i-init g c = (omega arith, fill_start g.R.Record.kind _ _ _)

pub overflow_add-at : goal.overflow_add-at
overflow_add-at g c =
    omega (arith, g.met.R.Record.sized, (judged_read g.R.Record.kind _ _ _ _ (sym c.in_ok-item.ensures)).whole)

pub loop-i-preserved : goal.loop-i-preserved
loop-i-preserved g c = (
  omega (arith, g.met.R.Record.sized, (judged_read g.R.Record.kind _ _ _ _ (sym c.in_ok-item.ensures)).whole),
  c.loop-i.invariant.1
      ∙ rw (c.floor_after-floor.ensures, ← (g.met.R.Record.sized ∙ sym c.SIZE-at.ensures)) (fill_good g.R.Record.kind _ _ _ _ _ _ (omega arith) _ (sym c.in_ok-item.ensures)),
)

pub returns-in_err-item : goal.returns-in_err-item
unfolding run_left and_then
returns-in_err-item g c =
    let p = err_from_is_err_and c.from_residual.result c.from_residual.ensures.1 in
    rw (p.1, p.2) (sym (c.loop-i.invariant.1 ∙ fill_bad g.R.Record.kind _ _ _ _ _ _ (omega arith) _ _ (sym c.in_err-item.ensures)))

pub returns : goal.returns
unfolding run_left and_then
returns g c = fill_end g.R.Record.kind _ _ _ _ _ _ (omega arith) ∙ sym c.loop-i.invariant.1

-- `norm_state::put_file` meets its contract: each section is laid where the last one ends.
use native.Mathlib.Omega.{arith}
use Rattle.take_state.specs.State.{state_of}
use Rattle.norm_state.proofs.Laid.{arc_laid, state_laid}
use Rattle.norm_state.proofs.put_file.Goals as goal

-- Each `let` of a place leads from a later one to an earlier one; they stand here since `rw` takes no view.
pub returns : goal.returns
returns c =
    let a = c.args in
    let long = c.well_formed.0.1.1.1.1.1.0.1.0.1 in
    rw (
      c.put_tail.ensures,
      c.put_labels.ensures,
      c.write_u32-2.ensures,
      c.write_u32.ensures,
      c.accepted-n.ensures.0,
      arc_laid a.out.now a.h.settings.arc,
    )
    (state_laid a.h (state_of a.matrix.now a.rights.now a.t) (omega (arith, c.requires.parameters_le_parameters_most.0)) a.out.now)

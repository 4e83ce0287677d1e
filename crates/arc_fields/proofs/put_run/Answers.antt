-- `arc_fields::put_run` meets its contract: a byte is put at each turn.
use native.Mathlib.Omega.{arith}
use mathlib.Core.Path.{refl, sym, ◌∙◌}
use lib.ListN.{length-set}
use native.Mathlib.Nat.{add-zero}
use Rattle.arc_fields.proofs.Run.{run_end_lem, run_turn}
use Rattle.arc_fields.proofs.put_run.Goals as goal

pub loop-i-init : goal.loop-i-init
loop-i-init c = (omega arith, refl, rw add-zero)

pub loop-i-preserved : goal.loop-i-preserved
loop-i-preserved c = let inv = c.loop-i.invariant in (omega arith, simp length-set inv.1, inv.2 ∙ run_turn _ _ _ _ (omega arith))

pub returns : goal.returns
returns c = sym (c.loop-i.invariant.2 ∙ run_end_lem _ _ _ _ (omega arith))

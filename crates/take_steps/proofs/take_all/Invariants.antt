-- `take_steps::take_all` meets its contract. The loop's invariant: what is left to take decides the end and the answers.
use Rattle.std.proofs.Common.{◌/◌, length}
use Rattle.take_state.specs.State.{state_of}
use Rattle.take_steps.proofs.Runs.{Turn}
use Rattle.take_steps.proofs.take_all.Given as goal

abbrev pub invariant-loop-i : goal.invariant-loop-i
invariant-loop-i l = Turn l.settings l.numbers l.corrections (length l.initial.rights) l.size (length l.run / l.size) l.run (state_of l.initial.matrix l.initial.rights l.initial.u) l.initial.out l.i l.at (state_of l.matrix l.rights l.u) l.room l.out

-- `test_desk::run_all`: the command that is heard begins no later than the next word.
use Rattle.std.proofs.Common.{◌≤◌}
use Rattle.test_desk.proofs.run_all.Given as goal

abbrev pub invariant-loop-i : goal.invariant-loop-i
invariant-loop-i g l = l.at ≤ l.i

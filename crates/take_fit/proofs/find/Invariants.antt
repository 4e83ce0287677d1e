-- `take_fit::find` meets its contract. The loop's invariant: what is left to search decides the whole.
use Rattle.std.proofs.Common.{◌≡◌, ◌≤◌, length, drop}
use Rattle.arc_heading.specs.Judge.{find_from}
use Rattle.take_fit.proofs.find.Given as goal

abbrev pub invariant-loop-i : goal.invariant-loop-i
invariant-loop-i l = find_from l.number 0 l.numbers ≡ find_from l.number l.i (drop l.i l.numbers)

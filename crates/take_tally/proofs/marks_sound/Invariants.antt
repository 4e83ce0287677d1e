-- `take_tally::marks_sound` meets its contract. The loop's invariant: the marks of each parameter before the ith are sound.
use mathlib.Core.Path.{◌≡◌}
use mathlib.Core.Bool.{true}
use Prim.Native.Nat.{◌≤◌}
use Rattle.num_whole.specs.Tests.{below}
use Rattle.take_tally.specs.Tally.{mark_sound}
use Rattle.take_tally.proofs.marks_sound.Given as goal

abbrev pub invariant-loop-i : goal.invariant-loop-i
invariant-loop-i l = (l.i ≤ 50) × (below (mark_sound l.p l.matrix l.t) l.i ≡ true)

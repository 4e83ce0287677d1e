-- `arc_fields::put_run` meets its contract. The loop's invariant: the bytes left, laid at the place, make the whole.
use Prim.Native.Nat.{◌≤◌, ◌+◌}
use mathlib.Core.Path.{◌≡◌}
use lib.ListN.{length, drop}
use Rattle.byte_words.specs.Words.{lay}
use Rattle.arc_fields.proofs.put_run.Given as goal

abbrev pub invariant-loop-i : goal.invariant-loop-i
invariant-loop-i l =
    (l.i ≤ length l.run)
    × (length l.out ≡ length l.initial.out)
    × (lay l.initial.out l.start l.run ≡ lay l.out (l.start + l.i) (drop l.i l.run))

-- `decimal::put_text` meets its contract. The loop's invariant: what is laid and the bytes still to come are the whole.
use Prim.Native.Nat.{◌+◌, ◌≤◌}
use mathlib.Core.Path.{◌≡◌}
use lib.ListN.{length, drop}
use Rattle.byte_words.specs.Words.{lay}
use Rattle.decimal.proofs.put_text.Given as goal

abbrev pub invariant-loop-i : goal.invariant-loop-i
invariant-loop-i l =
    (l.i ≤ l.n) × (length l.room ≡ length l.initial.room) × (lay l.room (l.at + l.i) (drop l.i l.text) ≡ lay l.initial.room l.at l.text)

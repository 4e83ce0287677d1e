-- `take_marks::heard` meets its contract. The loop's invariant: the word is that of the first k rows.
use mathlib.Core.Path.{◌≡◌}
use Prim.Native.Nat.{◌≤◌}
use Rattle.take_marks.specs.Parts.{heard_word}
use Rattle.take_marks.proofs.heard.Given as goal

abbrev pub invariant-loop-k : goal.invariant-loop-k
invariant-loop-k l = (l.k ≤ 16) × (l.word ≡ heard_word l.counts l.k)

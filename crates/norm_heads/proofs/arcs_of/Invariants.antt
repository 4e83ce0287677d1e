-- `norm_heads::arcs_of` meets its contract. The loop's invariant: what is left to put makes the whole.
use mathlib.Core.Path.{◌≡◌}
use Prim.Native.Nat.{◌+◌, ◌*◌, ◌-◌, ◌≤◌}
use lib.ListN.{length}
use lib.Seq.{sets}
use Rattle.byte_words.specs.Words.{word}
use Rattle.byte_words.specs.Stands.{stands}
use Rattle.norm_heads.specs.Heads.{arcs_at}
use Rattle.norm_heads.proofs.arcs_of.Given as goal

abbrev pub invariant-loop-i : goal.invariant-loop-i
invariant-loop-i l = (l.i ≤ l.n) × (length l.initial.arcs ≡ 16) × (length l.arcs ≡ 16) × (sets l.initial.arcs 0 (arcs_at l.s l.n) ≡ sets l.arcs l.i (stands (word 4 l.s) 4 (l.n - l.i) (4 + 4 * l.i)))

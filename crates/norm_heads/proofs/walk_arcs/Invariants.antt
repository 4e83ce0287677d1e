-- `norm_heads::walk_arcs` meets its contract. The loop's invariant: what is left to read makes the whole.
use mathlib.Core.Path.{◌≡◌}
use Prim.Native.Nat.{◌+◌, ◌*◌, ◌-◌, ◌≤◌}
use Rattle.byte_section.specs.Section.{records}
use Rattle.norm_kinds.specs.Kinds.{arc_kind}
use Rattle.byte_section.specs.Told.{span_of}
use Rattle.norm_heads.proofs.Loops.{reaching}
use Rattle.norm_heads.proofs.walk_arcs.Given as goal

abbrev pub invariant-loop-i : goal.invariant-loop-i
invariant-loop-i l = (l.i ≤ l.count) × (span_of (records arc_kind l.s l.count l.start 0) ≡ reaching l.count (records arc_kind l.s (l.count - l.i) (l.start + 4 * l.i) l.floor))

-- `arc_sections::fill` meets its contract. The loop's invariant: what is left to read and to put makes the whole.
use Prim.Native.Nat.{◌-◌, ◌≤◌}
use mathlib.Core.Path.{◌≡◌}
use lib.ListN.{length}
use Rattle.byte_section.specs.Section.{records}
use Rattle.arc_sections.proofs.Filling.{filling}
use Rattle.arc_sections.proofs.fill.Given as goal

abbrev pub invariant-loop-i : goal.invariant-loop-i
invariant-loop-i g l =
    (l.at ≤ length l.s)
    × (records g.R.Record.kind l.s (length l.fn.slots) l.start 0
    ≡ filling l.slots l.i (records g.R.Record.kind l.s (length l.fn.slots - l.i) l.at l.floor))

-- `take_rules::between_ends` meets its contract: the two ends are numbers of the machine, and the tests are the definition's.
use native.Mathlib.Omega.{arith}
use mathlib.Core.Path.{◌≡◌, ap, ◌∙◌}
use mathlib.Core.Bool.{true, false}
use Prim.Native.Nat.{ℕ, ◌+◌, ◌≤◌}
use lib.IntN.{pos}
use lib.Signed.{le_z}
use mir.Syntax.{w64}
use mir.Val.{to_z}
use mir.ValLaws.{to_z-of_z, to_z_pos}
use Rattle.days_leap.specs.Leap.{day_start}
use Rattle.days_leap.specs.Parts.{start_most}
use Rattle.take_rules.specs.Rules.{in_window}
use Rattle.take_rules.proofs.between_ends.Goals as goal

-- a start as the machine has it
signed : (d n : ℕ) → (n ≡ day_start d) × (n ≤ start_most) → to_z w64 n ≡ pos (day_start d)
signed d n s = to_z_pos w64 n (omega (arith, s.1)) ∙ ap pos s.0

pub returns-then-from-t : goal.returns-then-from-t
unfolding in_window
returns-then-from-t c =
    let a = c.args in
    let from = signed a.first _ c.start-from.ensures in
    let end = signed (a.first + a.days) _ c.start-end.ensures in
    let begins : le_z (pos (day_start a.first)) a.t ≡ true = rw (from, to_z-of_z w64 a.t c.ranges.t) at c.if-from-t.true in
    rw (to_z-of_z w64 a.t c.ranges.t, end, begins)

pub returns-else-from-t : goal.returns-else-from-t
unfolding in_window
returns-else-from-t c =
    let a = c.args in
    let from = signed a.first _ c.start-from.ensures in
    let begins : le_z (pos (day_start a.first)) a.t ≡ false = rw (from, to_z-of_z w64 a.t c.ranges.t) at c.if-from-t.false in
    rw (from, to_z-of_z w64 a.t c.ranges.t, begins)

-- `unit_convert::allowed` meets its contract: the two tests are those of `fitsIn`.
use mir.Syntax.{w64}
use mathlib.Core.Path.{sym, ap, ap₂, ◌∙◌}
use mathlib.Core.Bool.{true, false, ◌&&◌}
use lib.Signed.{le_z}
use mir.Facts.{to_z-of_z}
use borrow.Author.Rules.{rules}
use Rattle.unit_nearest.proofs.Laws.{tested}
use Rattle.unit_turn.specs.Turning.{top_of}
use Rattle.unit_convert.proofs.allowed.Goals as goal

pub returns-then-row-q : goal.returns-then-row-q
returns-then-row-q c =
    let t = c.top_of in
    let a = c.args in
    ap₂ (λ x y. le_z x y) (to_z-of_z c.ranges.q) (to_z-of_z {w = w64} (record { sfits = t.type_inv }) ∙ t.ensures)
    ∙ sym (ap (λ b. b && le_z a.q (top_of a.row)) (tested a.row.low a.q true (record { sfits = c.struct_told-1.given.1.0.1 }) c.ranges.q c.if-row-q.true))

pub returns-else-row-q : goal.returns-else-row-q
returns-else-row-q c =
    let a = c.args in
    search (c.if-row-q.false, rules) ∙ sym (ap (λ b. b && le_z a.q (top_of a.row)) (tested a.row.low a.q false (record { sfits = c.struct_told-1.given.1.0.1 }) c.ranges.q c.if-row-q.false))

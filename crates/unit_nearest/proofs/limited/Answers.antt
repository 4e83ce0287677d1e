-- `unit_nearest::limited` meets its contract: the two tests are those of `within`. Assumes nothing.
use mathlib.Core.Path.{◌≡◌, sym, ap, ap₂, ◌∙◌}
use mathlib.Core.Bool.{Bool, true, false, cond, ◌&&◌}
use lib.Signed.{le_z}
use mir.Facts.{to_z-of_z}
use Rattle.num_whole.specs.Answer.{given, refused}
use Rattle.unit_nearest.proofs.Laws.{tested}
use Rattle.unit_nearest.proofs.limited.Goals as goal

and_false : (a : Bool) → a && false ≡ false
and_false true = λ i. false
and_false false = λ i. false

pub returns-then-q-high : goal.returns-then-q-high
returns-then-q-high c =
    let a = tested c.args.low c.args.q true c.ranges.low c.ranges.q c.if-low-q.true in
    let b = tested c.args.q c.args.high true c.ranges.q c.ranges.high c.if-q-high.true in
    ap given (to_z-of_z c.ranges.q) ∙ sym (ap₂ (λ (x y : Bool). cond (x && y) (given c.args.q) (refused 16)) a b)

pub returns-else-q-high : goal.returns-else-q-high
returns-else-q-high c =
    let b = tested c.args.q c.args.high false c.ranges.q c.ranges.high c.if-q-high.false in
    sym (ap (λ (y : Bool). cond (le_z c.args.low c.args.q && y) (given c.args.q) (refused 16)) b
    ∙ ap (λ (y : Bool). cond y (given c.args.q) (refused 16)) (and_false (le_z c.args.low c.args.q)))

pub returns-else-low-q : goal.returns-else-low-q
returns-else-low-q c =
    let a = tested c.args.low c.args.q false c.ranges.low c.ranges.q c.if-low-q.false in
    sym (ap (λ (x : Bool). cond (x && le_z c.args.q c.args.high) (given c.args.q) (refused 16)) a)

use mathlib.Core.Path.{refl, sym, ap, ◌∙◌}
use Prim.Native.Nat.{◌+◌, ◌-◌, ◌*◌}
use native.Mathlib.Omega.{arith}
use borrow.Author.Rules.{rules}
use lib.ListN.{set, length-set}
use lib.Seq.{sets}
use mir.Syntax.{w64}
use mir.ValLaws.{to_z-of_z}
use Rattle.norm_labels.specs.Table.{rows_of}
use Rattle.norm_spread.specs.Spread.{spread_row_at}
use Rattle.norm_spread.proofs.Rows.{rows_start, rows_end, rows_turn, before_start, row_is, one_more}
use Rattle.norm_spread.proofs.spread_row.Goals as goal

pub loop-i-init : goal.loop-i-init
loop-i-init c =
    let a = c.args in
    let z = before_start a.s.now a.labels 0 in
    (omega arith, omega (arith, z), omega (arith, z), refl, rows_start _ _ _ _)

pub loop-i-preserved : goal.loop-i-preserved
loop-i-preserved c =
    let l = c.loop-i in
    let a = c.args in
    let field = c.read_u32-field.ensures in
    let more = one_more a.s.now a.labels l.i c.counted.result _ (a.labels + 24 * l.i) field refl c.counted.ensures.0 in
    let x = to_z-of_z w64 c.sum_for.result (search rules) ∙ c.sum_for.ensures
    ∙ row_is a.s.now a.labels a.start l.i l.at (a.labels + 24 * l.i) _ field refl l.invariant.1 in (
      omega arith,
      omega (arith, l.invariant.1, more),
      omega (arith, l.invariant.2, more, c.counted.ensures.1),
      length-set l.out _ _ ∙ l.invariant.3,
      l.invariant.4 ∙ rows_turn (spread_row_at a.s.now a.labels a.start) l.out a.n l.i a.k (omega arith)
          ∙ ap (λ v. sets (set l.out (a.k + l.i) v) (a.k + (l.i + 1)) (rows_of (spread_row_at a.s.now a.labels a.start) (l.i + 1) (a.n - (l.i + 1)))) (sym x),
    )

pub returns : goal.returns
returns c = sym (c.loop-i.invariant.4 ∙ rows_end _ _ _ _ _ (omega arith))

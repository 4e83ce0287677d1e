use Rattle.std.specs.Prelude.{Err}
use borrow.Author.Rules.{rules}
use native.Mathlib.Omega.{arith}
use mathlib.Core.Path.{◌≡◌, sym, ap, ◌∙◌}
use Prim.Native.Nat.{◌+◌, ◌*◌}
use Rattle.refusal.specs.Told.{told_placed}
use Rattle.norm_kinds.specs.Kinds.{arc_kind}
use Rattle.norm_heads.proofs.Loops.{reach_start, reach_all, reach_good, reach_bad}
use Rattle.norm_heads.proofs.walk_arcs.Goals as goal

pub loop-i-init : goal.loop-i-init
loop-i-init c =
    let first : c.args.start + 4 * 0 ≡ c.args.start = omega arith in
    (omega arith, rw first (reach_start arc_kind _ _ _))

pub loop-i-preserved : goal.loop-i-preserved
loop-i-preserved c =
    let l = c.loop-i in
    let next : c.args.start + 4 * l.i + 4 ≡ c.args.start + 4 * (l.i + 1) = omega arith in
    (omega arith, rw (← next) (l.invariant.1 ∙ reach_good arc_kind _ _ _ _ _ (omega arith) _ (sym c.in_ok-floor.ensures)))

pub returns-in_err-floor : goal.returns-in_err-floor
returns-in_err-floor c =
    let e : c.from_residual.result ≡ Err c.in_err-floor.field-0.0 = search rules in
    ap told_placed e ∙ sym (c.loop-i.invariant.1 ∙ reach_bad arc_kind _ _ _ _ _ (omega arith) _ _ (sym c.in_err-floor.ensures))

pub returns : goal.returns
returns c = sym (c.loop-i.invariant.1 ∙ reach_all arc_kind _ _ _ _ _ (omega arith) (omega arith))

use Rattle.std.specs.Prelude.{Err}
use borrow.Author.Rules.{rules}
use native.Mathlib.Omega.{arith}
use mathlib.Core.Path.{◌≡◌, sym, ap, ◌∙◌}
use Prim.Native.Nat.{◌+◌, ◌*◌}
use Rattle.refusal.specs.Told.{told_placed}
use Rattle.norm_kinds.specs.Kinds.{fielded_kind}
use Rattle.norm_heads.proofs.Loops.{reach_start, reach_all, reach_good, reach_bad}
use Rattle.norm_heads.proofs.walk_labels.Goals as goal

pub loop-i-init : goal.loop-i-init
loop-i-init c =
    let first : c.args.start + 24 * 0 ≡ c.args.start = omega arith in
    (omega arith, rw first (reach_start (fielded_kind c.args.is_small c.args.arcs.now) _ _ _))

pub loop-i-preserved : goal.loop-i-preserved
loop-i-preserved c =
    let l = c.loop-i in
    let next : c.args.start + 24 * l.i + 24 ≡ c.args.start + 24 * (l.i + 1) = omega arith in
    (omega arith, rw (← next) (l.invariant.1 ∙ reach_good (fielded_kind c.args.is_small c.args.arcs.now) _ _ _ _ _ (omega arith) _ (sym c.in_ok-floor.ensures)))

pub returns-in_err-floor : goal.returns-in_err-floor
returns-in_err-floor c =
    let e : c.from_residual.result ≡ Err c.in_err-floor.field-0.0 = search rules in
    ap told_placed e ∙ sym (c.loop-i.invariant.1 ∙ reach_bad (fielded_kind c.args.is_small c.args.arcs.now) _ _ _ _ _ (omega arith) _ _ (sym c.in_err-floor.ensures))

pub returns : goal.returns
returns c = sym (c.loop-i.invariant.1 ∙ reach_all (fielded_kind c.args.is_small c.args.arcs.now) _ _ _ _ _ (omega arith) (omega arith))

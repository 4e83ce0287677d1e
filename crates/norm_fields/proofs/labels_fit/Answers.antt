use mathlib.Core.Path.{◌≡◌, sym, ◌∙◌}
use Prim.Native.Nat.{◌+◌, ◌*◌}
use native.Mathlib.Omega.{arith}
use native.Mathlib.Nat.{sub-zero, add-zero}
use Rattle.byte_words.proofs.Stands.{stands_done, stands_next}
use Rattle.num_whole.proofs.Walks.{all_done, all_on, all_off}
use Rattle.norm_fields.proofs.labels_fit.Goals as goal

pub loop-i-init : goal.loop-i-init
loop-i-init c = (omega arith, rw (sub-zero, add-zero))

pub loop-i-preserved : goal.loop-i-preserved
loop-i-preserved c =
    let next : c.args.from + 5 * (c.loop-i.i + 1) ≡ c.args.from + 5 * c.loop-i.i + 5 = omega arith in
    (omega arith, rw next (c.loop-i.invariant.1 ∙ all_on _ (stands_next _ _ _ _ _ (omega arith)) (sym c.label_fits.ensures ∙ c.if-not-label_fits.false)))

pub returns-then-not-label_fits : goal.returns-then-not-label_fits
returns-then-not-label_fits c =
    sym (c.loop-i.invariant.1 ∙ all_off _ (stands_next _ _ _ _ _ (omega arith)) (sym c.label_fits.ensures ∙ c.if-not-label_fits.true))

pub returns : goal.returns
returns c = sym (c.loop-i.invariant.1 ∙ all_done _ (stands_done _ _ _ _ _ (omega arith)))

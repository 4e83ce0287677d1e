use mathlib.Core.Path.{◌≡◌, refl, sym, ◌∙◌}
use Prim.Native.Nat.{◌+◌, ◌*◌}
use native.Mathlib.Nat.{sub-zero, add-zero}
use native.Mathlib.Omega.{arith}
use Rattle.byte_words.proofs.Words.{length_lay}
use Rattle.norm_unpack.proofs.Laid.{labels_end, labels_turn}
use Rattle.norm_unpack.proofs.fill_labels.Goals as goal

pub loop-i-init : goal.loop-i-init
loop-i-init c = (refl, rw (sub-zero, add-zero, add-zero))

pub loop-i-preserved : goal.loop-i-preserved
loop-i-preserved c =
    let l = c.loop-i in
    let e = c.fill_label.ensures in
    let next : c.args.first + 5 * (l.i + 1) ≡ c.args.first + 5 * l.i + 5 = omega arith in
    let label : c.args.start + 24 * (l.i + 1) ≡ c.args.start + 24 * l.i + 24 = omega arith in (
      rw e (length_lay _ _ _ ∙ l.invariant.0),
      rw (e, next, label) (l.invariant.1 ∙ labels_turn _ l.heads _ l.i _ _ (omega arith)),
    )

pub returns : goal.returns
returns c = sym (c.loop-i.invariant.1 ∙ labels_end _ _ _ _ _ _ (omega arith))

use mathlib.Core.Path.{◌≡◌, refl, sym, ◌∙◌}
use Prim.Native.Nat.{◌+◌, ◌*◌}
use native.Mathlib.Nat.{sub-zero, add-zero}
use native.Mathlib.Omega.{arith}
use Rattle.byte_words.proofs.Words.{length_lay}
use Rattle.byte_section.proofs.Laid.{laid_none, laid_one}
use Rattle.byte_words.proofs.Stands.{length_stands, stands_done, stands_next}
use Rattle.norm_kinds.specs.Kinds.{normal_label_bytes}
use Rattle.norm_kinds.proofs.Records.{length_label}
use Rattle.norm_put.proofs.Laid.{section_laid}
use Rattle.norm_put.proofs.put_labels.Goals as goal

pub loop-i-init : goal.loop-i-init
loop-i-init c = (refl, rw (sub-zero, add-zero, add-zero))

pub loop-i-preserved : goal.loop-i-preserved
loop-i-preserved c =
    let l = c.loop-i in
    let e = c.put_label.ensures in
    let next : c.args.start + 4 + 24 * (l.i + 1) ≡ c.args.start + 4 + 24 * l.i + 24 = omega arith in
    let label : c.args.from + 5 * (l.i + 1) ≡ c.args.from + 5 * l.i + 5 = omega arith in (
      rw e (length_lay _ _ _ ∙ l.invariant.0),
      rw (e, next, label) (l.invariant.1 ∙ laid_one normal_label_bytes _ length_label _ _ (stands_next _ _ _ _ _ (omega arith))),
    )

pub returns : goal.returns
returns c =
    sym (c.loop-i.invariant.1 ∙ laid_none normal_label_bytes _ length_label _ _ (stands_done _ _ _ _ _ (omega arith)))
    ∙ section_laid normal_label_bytes _ _ _ _ _ c.write_u32.ensures (length_stands _ _ _ _)

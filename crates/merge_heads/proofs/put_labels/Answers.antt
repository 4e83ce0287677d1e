use mathlib.Core.Path.{◌≡◌, refl, sym, ap, ◌∙◌}
use Prim.Native.Nat.{◌+◌, ◌*◌}
use native.Mathlib.Nat.{sub-zero, add-zero}
use native.Mathlib.Omega.{arith}
use Rattle.byte_words.specs.Words.{lay}
use Rattle.byte_words.proofs.Words.{length_lay}
use Rattle.norm_kinds.specs.Kinds.{normal_label_bytes}
use Rattle.norm_kinds.proofs.Records.{length_label}
use Rattle.merge_sums.proofs.Writing.{rows_end, rows_turn}
use Rattle.merge_heads.specs.Heads.{label_of_union}
use Rattle.merge_heads.proofs.put_labels.Goals as goal

pub loop-i-init : goal.loop-i-init
loop-i-init c = (refl, rw (sub-zero, add-zero))

pub label_in-l-requires : goal.label_in-l-requires
label_in-l-requires c = (c.requires.n_in_bounds.0, c.requires.n_in_bounds.1, c.requires.somewhere c.loop-i.i (omega arith))

pub loop-i-preserved : goal.loop-i-preserved
unfolding label_of_union
loop-i-preserved c =
    let l = c.loop-i in
    let s = c.args in
    let next : s.at + 24 * (l.i + 1) ≡ s.at + 24 * l.i + 24 = omega arith in
    let is : c.label_in-l.result ≡ label_of_union s.a.now s.start s.n s.left.now s.b.now s.begin s.right.now l.i =
    c.label_in-l.ensures in
    let e : c.put_label.new.out ≡ lay l.out (s.at + 24 * l.i) (normal_label_bytes (label_of_union s.a.now s.start s.n s.left.now s.b.now s.begin s.right.now l.i)) =
    c.put_label.ensures ∙ ap (λ v. lay l.out (s.at + 24 * l.i) (normal_label_bytes v)) is in (
      rw e (length_lay _ _ _ ∙ l.invariant.0),
      rw (e, next) (l.invariant.1 ∙ rows_turn _ _ length_label _ _ _ _ _ (omega arith)),
    )

pub returns : goal.returns
returns c = sym (c.loop-i.invariant.1 ∙ rows_end _ _ length_label _ _ _ _ _ (omega arith))

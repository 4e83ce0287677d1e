use mathlib.Core.Path.{◌≡◌, refl, sym, ap, ◌∙◌}
use Prim.Native.Nat.{◌+◌, ◌*◌}
use native.Mathlib.Nat.{sub-zero, add-zero}
use native.Mathlib.Omega.{arith}
use Rattle.byte_words.specs.Words.{lay}
use Rattle.byte_words.proofs.Words.{length_lay}
use Rattle.norm_kinds.specs.Kinds.{arc_number_bytes}
use Rattle.norm_kinds.proofs.Records.{length_arc}
use Rattle.merge_sums.proofs.Writing.{rows_end, rows_turn}
use Rattle.merge_heads.specs.Heads.{number_at}
use Rattle.merge_heads.proofs.Chosen.{number_short}
use Rattle.merge_heads.proofs.put_arcs.Goals as goal

pub loop-i-init : goal.loop-i-init
loop-i-init c = (refl, rw (sub-zero, add-zero))

pub number_in-a-requires : goal.number_in-a-requires
number_in-a-requires c = c.requires.somewhere c.loop-i.i (omega arith)

pub put_arc-requires : goal.put_arc-requires
put_arc-requires c = rw c.number_in-a.ensures (number_short _ _ _ _ c.requires.short.0 c.requires.short.1)

pub loop-i-preserved : goal.loop-i-preserved
unfolding number_at
loop-i-preserved c =
    let l = c.loop-i in
    let s = c.args in
    let next : s.at + 4 * (l.i + 1) ≡ s.at + 4 * l.i + 4 = omega arith in
    let is : c.number_in-a.result ≡ number_at s.xs.now s.left.now s.ys.now s.right.now l.i = c.number_in-a.ensures in
    let e : c.put_arc.new.out ≡ lay l.out (s.at + 4 * l.i) (arc_number_bytes (number_at s.xs.now s.left.now s.ys.now s.right.now l.i)) =
    c.put_arc.ensures ∙ ap (λ v. lay l.out (s.at + 4 * l.i) (arc_number_bytes v)) is in (
      rw e (length_lay _ _ _ ∙ l.invariant.0),
      rw (e, next) (l.invariant.1 ∙ rows_turn _ _ length_arc _ _ _ _ _ (omega arith)),
    )

pub returns : goal.returns
returns c = sym (c.loop-i.invariant.1 ∙ rows_end _ _ length_arc _ _ _ _ _ (omega arith))

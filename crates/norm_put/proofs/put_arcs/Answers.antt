use mathlib.Core.Path.{◌≡◌, refl, sym, ap, ◌∙◌}
use Prim.Native.Nat.{◌+◌, ◌*◌}
use native.Mathlib.Omega.{arith}
use lib.Seq.{length-take-le}
use Rattle.num_whole.specs.Lists.{rest}
use Rattle.num_whole.proofs.Walks.{rest_end, rest_more}
use Rattle.byte_words.specs.Words.{bytes_of, lay}
use Rattle.byte_words.proofs.Words.{low, length_lay}
use Rattle.byte_section.proofs.Laid.{laid_none, laid_one}
use Rattle.norm_kinds.specs.Kinds.{arc_number_bytes}
use Rattle.norm_kinds.proofs.Records.{length_arc}
use Rattle.norm_put.proofs.Laid.{section_laid}
use Rattle.norm_put.proofs.put_arcs.Goals as goal

pub loop-i-init : goal.loop-i-init
loop-i-init c = (refl, refl)

pub loop-i-preserved : goal.loop-i-preserved
unfolding arc_number_bytes
loop-i-preserved c =
    let l = c.loop-i in
    let next : 4 + 4 * (l.i + 1) ≡ 4 + 4 * l.i + 4 = omega arith in
    let e = c.write_u32-in-loop-i.ensures ∙ ap (lay l.out (4 + 4 * l.i)) (ap (bytes_of 4) c.low32.ensures ∙ low 4 _) in (
      rw e (length_lay _ _ _ ∙ l.invariant.0),
      rw (e, next) (l.invariant.1 ∙ laid_one arc_number_bytes _ length_arc _ _ (rest_more _ _ _ 0 (omega arith) (omega arith))),
    )

pub returns : goal.returns
unfolding rest
returns c =
    let start = c.args in
    sym (c.loop-i.invariant.1 ∙ laid_none arc_number_bytes _ length_arc _ _ (rest_end start.heads.now start.n c.loop-i.i (omega arith)))
    ∙ section_laid arc_number_bytes _ _ 0 _ _ c.write_u32.ensures (length-take-le _ _ (omega arith))

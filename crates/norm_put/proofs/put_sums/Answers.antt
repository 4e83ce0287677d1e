use borrow.Author.Rules.{rules}
use mathlib.Core.Path.{◌≡◌, refl, sym, ◌∙◌}
use Prim.Native.Nat.{◌+◌, ◌*◌}
use native.Mathlib.Nat.{add-zero}
use native.Mathlib.Omega.{arith}
use lib.ListN.{get_or}
use lib.Seq.{length-take-le}
use Rattle.num_whole.specs.Lists.{rest}
use Rattle.num_whole.proofs.Walks.{rest_end, rest_more}
use Rattle.byte_words.proofs.Words.{length_lay}
use Rattle.byte_section.proofs.Laid.{laid_none, laid_one}
use lib.IntN.{pos}
use mir.Syntax.{w64}
use mir.ValLaws.{to_z-of_z}
use Rattle.norm_kinds.specs.Kinds.{sum_bytes}
use Rattle.norm_kinds.proofs.Records.{length_sum}
use Rattle.norm_put.proofs.Laid.{section_laid}
use Rattle.norm_put.proofs.put_sums.Goals as goal

pub loop-i-init : goal.loop-i-init
loop-i-init c = (refl, rw add-zero)

pub loop-i-preserved : goal.loop-i-preserved
unfolding sum_bytes
loop-i-preserved c =
    let l = c.loop-i in
    let next : c.args.start + 4 + 8 * (l.i + 1) ≡ c.args.start + 4 + 8 * l.i + 8 = omega arith in
    let e = rw (to_z-of_z w64 (get_or c.args.sums.now l.i (pos 0)) (search rules)) at c.write_i64.ensures in (
      rw e (length_lay _ _ _ ∙ l.invariant.0),
      rw (e, next) (l.invariant.1 ∙ laid_one sum_bytes _ length_sum _ _ (rest_more _ _ _ (pos 0) (omega arith) (omega arith))),
    )

pub returns : goal.returns
unfolding rest
returns c =
    let start = c.args in
    sym (c.loop-i.invariant.1 ∙ laid_none sum_bytes _ length_sum _ _ (rest_end start.sums.now start.n c.loop-i.i (omega arith)))
    ∙ section_laid sum_bytes _ _ _ _ _ c.write_u32.ensures (length-take-le _ _ (omega arith))

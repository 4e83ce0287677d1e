-- `norm_gather::put_file` meets its contract: the three parts, one after the other.
use mathlib.Core.Path.{refl, ap, ◌∙◌}
use Prim.Native.Nat.{◌+◌, ◌*◌}
use lib.ListN.{length}
use native.Mathlib.Omega.{arith}
use Rattle.byte_words.specs.Words.{lay}
use Rattle.norm_gather.specs.Gather.{sums_gathered, totals_copied}
use Rattle.norm_gather.proofs.Laid.{parts_laid}
use Rattle.norm_gather.proofs.put_file.Goals as goal

pub returns : goal.returns
returns c =
    let s = c.args in
    let u = s.u.now in
    let w = s.w.now in
    let m = 8 + 4 * s.r.arcs + 24 * length w in
    let n = m + 8 + 8 * c.triangle.result + 8 * length u in
    c.put_totals.ensures
    ∙ ap (λ o. lay o n (totals_copied s.s.now s.r)) (c.put_sums.ensures ∙ ap (λ o. lay o m (sums_gathered s.s.now s.r u)) c.put_heads.ensures)
    ∙ parts_laid s.is_small s.s.now s.r w u s.out.now m n refl (omega (arith, c.triangle.ensures.0))

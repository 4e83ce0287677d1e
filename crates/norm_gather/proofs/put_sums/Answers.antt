-- `norm_gather::put_sums` meets its contract: two sections, one after the other.
use mathlib.Core.Path.{refl, ap, ◌∙◌}
use Prim.Native.Nat.{◌+◌, ◌*◌}
use lib.ListN.{length}
use Rattle.byte_words.specs.Words.{bytes_of, lay}
use Rattle.byte_section.specs.Section.{encoded}
use Rattle.norm_kinds.specs.Kinds.{sum_bytes}
use Rattle.norm_gather.proofs.Laid.{columns_found, sides_found, sum_part_laid}
use Rattle.norm_gather.proofs.put_sums.Goals as goal

pub returns : goal.returns
returns c =
    let s = c.args in
    let u = s.u.now in
    let m = c.triangle-sums.result in
    let next = s.at + 4 + 8 * m in
    c.put_gathered.ensures
    ∙ ap (λ o. lay o (next + 4) (encoded sum_bytes (sides_found s.s.now s.r u)))
    (c.write_u32-2.ensures
    ∙ ap (λ o. lay o next (bytes_of 4 (length u)))
    (c.put_columns.ensures ∙ ap (λ o. lay o (s.at + 4) (encoded sum_bytes (columns_found s.s.now s.r u))) c.write_u32.ensures))
    ∙ sum_part_laid s.s.now s.r u s.out.now s.at next m c.triangle-sums.ensures.0 refl

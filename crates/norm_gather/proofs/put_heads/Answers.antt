-- `norm_gather::put_heads` meets its contract: two sections, one after the other.
use mathlib.Core.Path.{refl, ap, ◌∙◌}
use Prim.Native.Nat.{◌+◌, ◌*◌}
use lib.ListN.{length}
use native.Mathlib.Omega.{arith}
use Rattle.byte_words.specs.Words.{bytes_of, lay}
use Rattle.byte_section.specs.Section.{encoded}
use Rattle.norm_kinds.specs.Kinds.{arc_number_bytes, fielded_bytes}
use Rattle.norm_labels.specs.Table.{rows_of}
use Rattle.norm_heads.specs.Heads.{arcs_at}
use Rattle.norm_gather.specs.Gather.{fielded_by_seat}
use Rattle.norm_gather.proofs.Laid.{head_part_laid}
use Rattle.norm_gather.proofs.put_heads.Goals as goal

pub returns : goal.returns
returns c =
    let s = c.args in
    let r = s.r in
    let next = 4 + 4 * r.arcs in
    c.put_labels.ensures
    ∙ ap (λ o. lay o (next + 4) (encoded fielded_bytes (rows_of (fielded_by_seat s.is_small s.s.now (next + 4) r.matrix r.stored s.w.now) 0 (length s.w.now))))
    (c.write_u32-2.ensures
    ∙ ap (λ o. lay o next (bytes_of 4 (length s.w.now)))
    (c.put_arcs.ensures ∙ ap (λ o. lay o 4 (encoded arc_number_bytes (arcs_at s.s.now r.arcs))) c.write_u32.ensures))
    ∙ head_part_laid s.is_small s.s.now r s.w.now s.out.now next (next + 4) refl (omega arith)

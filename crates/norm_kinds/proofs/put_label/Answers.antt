-- `norm_kinds::put_label` meets its contract: the six fields are laid one after the other.
use native.Mathlib.Omega.{arith}
use mathlib.Core.Path.{◌∙◌}
use mir.Syntax.{w64}
use mir.ValLaws.{to_z-of_z}
use Rattle.byte_words.proofs.Words.{lay_append, length_bytes_of}
use Rattle.norm_kinds.specs.Kinds.{fielded_bytes}
use Rattle.norm_kinds.proofs.put_label.Goals as goal

pub returns : goal.returns
unfolding fielded_bytes
returns c =
    let l = c.args.l in
    let back = to_z-of_z w64 l.estimate (record { sfits = c.struct_told-1.given.1.1.1.1.0.1 }) in
    rw (c.write_i64.ensures, c.write_u32-3.ensures, c.write_u32-2.ensures, c.write_u32.ensures, c.write_u16-2.ensures, c.write_u16.ensures, back)
    (lay_append _ _ _ _ _ (simp length_bytes_of (omega arith))
    ∙ lay_append _ _ _ _ _ (simp length_bytes_of (omega arith))
    ∙ lay_append _ _ _ _ _ (simp length_bytes_of (omega arith))
    ∙ lay_append _ _ _ _ _ (simp length_bytes_of (omega arith))
    ∙ lay_append _ _ _ _ _ (simp length_bytes_of))

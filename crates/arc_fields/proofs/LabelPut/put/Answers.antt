-- `Put::put` of a label meets its contract: the four fields are laid one after the other.
use native.Mathlib.Omega.{arith}
use mathlib.Core.Path.{◌∙◌}
use mir.Syntax.{w64}
use mir.ValLaws.{to_z-of_z}
use Rattle.byte_words.proofs.Words.{lay_append, length_bytes_of}
use Rattle.arc_kinds.specs.Kinds.{label_bytes}
use Rattle.arc_fields.proofs.LabelPut.put.Goals as goal

pub returns : goal.returns
unfolding label_bytes
returns c =
    let l = c.args.self in
    let back = to_z-of_z w64 l.estimate (record { sfits = c.struct_told-1.given.1.1.1.0.1 }) in
    rw (c.write_i64.ensures, c.write_u32.ensures, c.write_u16-2.ensures, c.write_u16.ensures, back)
    (lay_append _ _ _ _ _ (simp length_bytes_of (omega arith))
    ∙ lay_append _ _ _ _ _ (simp length_bytes_of (omega arith))
    ∙ lay_append _ _ _ _ _ (simp length_bytes_of))

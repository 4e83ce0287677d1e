-- `Put::put` of a station meets its contract: the number, two zero bytes and the correction are laid one after the other.
use native.Mathlib.Omega.{arith}
use mathlib.Core.Path.{◌∙◌}
use mir.Syntax.{w32}
use mir.ValLaws.{to_z-of_z}
use Rattle.byte_words.proofs.Words.{lay_append, length_bytes_of}
use Rattle.arc_kinds.specs.Kinds.{station_bytes}
use Rattle.arc_fields.proofs.StationPut.put.Goals as goal

pub returns : goal.returns
unfolding station_bytes
returns c =
    let t = c.args.self in
    let back = to_z-of_z w32 t.correction (record { sfits = c.struct_told-1.given.1.0.1 }) in
    rw (c.write_i32.ensures, c.write_u16-2.ensures, c.write_u16.ensures, back)
    (lay_append _ _ _ _ _ (simp length_bytes_of (omega arith))
    ∙ lay_append _ _ _ _ _ (simp length_bytes_of))

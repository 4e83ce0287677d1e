-- `arc_kinds::load_label` meets its contract: each field is the word at its place.
use mir.Syntax.{w64}
use mir.ValLaws.{to_z-of_z}
use Rattle.arc_kinds.specs.Kinds.{label_at}
use Rattle.arc_kinds.proofs.load_label.Goals as goal

pub returns : goal.returns
unfolding label_at
returns c =
    rw (to_z-of_z w64 c.read_i64.result (record { sfits = c.read_i64.type_inv }), c.read_u16.ensures, c.read_u16-2.ensures, c.read_u32.ensures, c.read_i64.ensures)

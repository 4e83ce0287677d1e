-- `norm_kinds::load_label` meets its contract: each field is the word at its place.
use mir.Syntax.{w64}
use mir.ValLaws.{to_z-of_z}
use Rattle.norm_kinds.specs.Kinds.{normal_label_at}
use Rattle.norm_kinds.proofs.load_label.Goals as goal

pub returns : goal.returns
unfolding normal_label_at
returns c =
    rw (to_z-of_z w64 c.read_i64.result (record { sfits = c.read_i64.type_inv }), c.read_u16.ensures, c.read_u16-2.ensures, c.read_u32.ensures, c.read_u32-2.ensures, c.read_i64.ensures)

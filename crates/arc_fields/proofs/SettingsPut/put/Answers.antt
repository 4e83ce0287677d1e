-- `Put::put` of the settings meets its contract: the four fields are laid one after the other.
use native.Mathlib.Omega.{arith}
use mathlib.Core.Path.{◌∙◌}
use Rattle.byte_words.proofs.Words.{lay_append, length_bytes_of}
use Rattle.arc_kinds.specs.Kinds.{settings_bytes}
use Rattle.arc_fields.proofs.SettingsPut.put.Goals as goal

pub returns : goal.returns
unfolding settings_bytes
returns c =
    rw (c.write_u16-2.ensures, c.write_u16.ensures, c.write_u32-2.ensures, c.write_u32.ensures)
    (lay_append _ _ _ _ _ (simp length_bytes_of (omega arith))
    ∙ lay_append _ _ _ _ _ (simp length_bytes_of (omega arith))
    ∙ lay_append _ _ _ _ _ (simp length_bytes_of))

-- `arc_kinds::load_settings` meets its contract: each field is the word at its place.
use Rattle.arc_kinds.specs.Kinds.{settings_at}
use Rattle.arc_kinds.proofs.load_settings.Goals as goal

pub returns : goal.returns
unfolding settings_at
returns c = rw (c.read_u32.ensures, c.read_u32-2.ensures, c.read_u16.ensures, c.read_u16-2.ensures)

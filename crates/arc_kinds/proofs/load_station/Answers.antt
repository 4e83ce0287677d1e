-- `arc_kinds::load_station` meets its contract: each field is the word at its place.
use mir.Syntax.{w32}
use mir.ValLaws.{to_z-of_z}
use Rattle.arc_kinds.specs.Kinds.{station_at}
use Rattle.arc_kinds.proofs.load_station.Goals as goal

pub returns : goal.returns
unfolding station_at
returns c = rw (to_z-of_z w32 c.read_i32.result (record { sfits = c.read_i32.type_inv }), c.read_u16.ensures, c.read_i32.ensures)

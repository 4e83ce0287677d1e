-- `list::put_listing` meets its contract: its own room is empty.
use mathlib.Core.Path.{refl, sym}
use Rattle.take_laws.specs.Mix.{keep}
use Rattle.list_lines.specs.Lines.{tally_of, tallies_from}
use Rattle.list.proofs.put_listing.Goals as goal

pub put_parts-requires : goal.put_parts-requires
unfolding tallies_from tally_of keep
put_parts-requires c = (sym c.sums_room-matrix.ensures, refl, refl)

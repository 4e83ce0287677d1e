use Rattle.std.proofs.Common.{refl, sym, rules}
use Rattle.take_laws.specs.Mix.{keep}
use Rattle.list_lines.specs.Lines.{tally_of, tallies_from}
use Rattle.desk_commands.proofs.read_arc.Goals as goal

pub follow-f-requires : goal.follow-f-requires
unfolding tallies_from tally_of keep
follow-f-requires g c = (search rules, sym c.sums_room-matrix.ensures, refl, refl)

-- `take_tally::no_tally` meets its contract.
use Rattle.take_tally.specs.declared.Tally.{Tally}
use Rattle.take_tally.specs.declared.Row.{Row}
use lib.ListN.{replicate}
use mathlib.Core.List.{List}
use mathlib.Core.Path.{ap}
use Rattle.take_tally.proofs.no_tally.Goals as goal

abbrev with_rows : List Row → Tally
with_rows w = record { square = 0; counts = replicate 16 0; rows = w; marks = replicate 50 0 }

pub returns : goal.returns
returns c = ap with_rows c.no_rows.ensures

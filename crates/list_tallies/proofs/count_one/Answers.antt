-- `list_tallies::count_one` meets its contract.
use mathlib.Core.Path.{sym}
use native.Mathlib.Omega.{arith}
use lib.Seq.{set_out}
use Rattle.list_tallies.proofs.count_one.Goals as goal

pub returns-else-k-table : goal.returns-else-k-table
returns-else-k-table c = sym (set_out _ _ _ (omega arith))

-- `call_position::put_kept` meets its contract.
use native.Mathlib.Omega.{arith}
use mathlib.Core.Path.{◌≡◌}
use lib.ListN.{length}
use borrow.Author.Rules.{rules}
use Rattle.call_position.proofs.put_kept.Goals as goal

pub put_run-requires : goal.put_run-requires
put_run-requires c = let long : length c.args.p.kept ≡ 1088 = search rules in omega arith

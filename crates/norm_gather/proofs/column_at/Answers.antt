-- `norm_gather::column_at` meets its contract: as it stands, or without rows.
use mathlib.Core.Path.{sym}
use native.Mathlib.Omega.{arith}
use lib.ListN.{length}
use Rattle.norm_add.proofs.Held.{column_is, column_none, column_fits}
use Rattle.norm_gather.proofs.column_at.Goals as goal

pub returns-then-j-n : goal.returns-then-j-n
returns-then-j-n c =
    let e = column_is c.args.start c.args.n c.args.j c.triangle.result c.triangle.ensures.0 c.if-j-n.true in
    (e, column_fits c.args.start c.args.n c.args.j _ (length c.args.s.now) e c.requires.1)

pub returns-else-j-n : goal.returns-else-j-n
returns-else-j-n c = (sym (column_none c.args.start c.args.n c.args.j (omega arith)), omega (arith, c.requires.1))

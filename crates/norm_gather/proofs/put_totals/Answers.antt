-- `norm_gather::put_totals` meets its contract: the two words as they stand.
use mathlib.Core.Path.{◌∙◌}
use Rattle.norm_gather.proofs.Laid.{totals_laid}
use Rattle.norm_gather.proofs.put_totals.Goals as goal

pub returns : goal.returns
returns c =
    c.put_totals.ensures
    ∙ totals_laid c.args.out.now c.args.at c.args.s.now c.args.r _ _ c.read_u64-accepted.ensures c.read_u64-square.ensures

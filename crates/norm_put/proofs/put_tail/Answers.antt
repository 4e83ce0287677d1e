-- `norm_put::put_tail` meets its contract: each section is laid where the last one ends.
use lib.Seq.{length-take-le}
use Rattle.norm_put.proofs.Laid.{tail_laid}
use Rattle.norm_put.proofs.put_tail.Goals as goal

-- Each `let` of a place leads from a later one to an earlier one; they stand here since `rw` takes no view.
pub returns : goal.returns
returns c =
    rw (c.put_totals.ensures, c.put_sums-2.ensures, c.put_sums.ensures, c.triangle-sums.ensures.0)
    (tail_laid _ _ _ _ _ (length-take-le _ _ c.requires.p_le_labels_most.1) (length-take-le _ _ c.requires.p_le_labels_most.2) _ _)

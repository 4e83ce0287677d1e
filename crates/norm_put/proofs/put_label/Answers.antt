-- `norm_put::put_label` meets its contract: the name, then the estimate as its bits.
use Prim.Native.Nat.{◌+◌}
use Rattle.norm_put.proofs.Laid.{label_laid}
use Rattle.norm_put.proofs.put_label.Goals as goal

pub returns : goal.returns
returns c =
    let start = c.args in
    rw (c.write_u64.ensures, c.put_name.ensures)
    (label_laid start.heads.now start.k _ _ (c.shared_slice_known-6-1.given (start.k + 4)).fits)

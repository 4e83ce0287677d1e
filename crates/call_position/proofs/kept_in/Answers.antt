-- `call_position::kept_in` meets its contract: the bytes laid into zeros.
use native.Mathlib.Omega.{arith}
use mathlib.Core.Path.{sym}
use Prim.Native.Nat.{◌≤◌}
use lib.ListN.{length}
use lib.Seq.{length-take-le}
use Rattle.call_position.proofs.Bytes.{kept_laid}
use Rattle.call_position.proofs.kept_in.Goals as goal

pub slice_bounds-put_run-end : goal.slice_bounds-put_run-end
slice_bounds-put_run-end c = sym (length-take-le _ _ (omega (arith, c.least-n.ensures)))

pub put_run-requires : goal.put_run-requires
put_run-requires c =
    let few : c.least-n.result ≤ length c.args.b.now = omega (arith, c.least-n.ensures) in
    omega (arith, length-take-le c.least-n.result c.args.b.now few, c.least-n.ensures)

pub returns : goal.returns
returns c = kept_laid _ _ _ c.least-n.ensures c.put_run.ensures

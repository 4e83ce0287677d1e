-- `call_position::put_position` meets its contract: its parts one after the other.
use Rattle.call_position.proofs.Bytes.{position_put}
use Rattle.call_position.proofs.put_position.Goals as goal

pub returns : goal.returns
returns c =
    let a = c.args in
    position_put a.p a.out.now c.put_kept.ensures.1 c.put_kept.ensures.0 c.write_u64.ensures c.write_u64-2.ensures
    c.flag.ensures c.write_u64-3.ensures

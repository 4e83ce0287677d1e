-- `call_rooms::give` meets its contract: 20 where the room is short, else the values over the room's front.
use Rattle.std.proofs.Common.{arith, ap, ◌∙◌, ◌++◌, drop, length}
use Rattle.num_whole.specs.Lists.{over}
use Rattle.call_rooms.proofs.Rooms.{short, roomy}
use Rattle.call_rooms.proofs.give.Goals as goal

pub returns-then-out-n : goal.returns-then-out-n
returns-then-out-n g c = let got = short c.args.values.now c.args.out.now (omega arith) in record { value = got.0; left = got.1 }

pub returns : goal.returns
unfolding over
returns g c =
    let got = roomy c.args.values.now c.args.out.now (omega arith) in
    record { value = got.0; left = ap (λ l. l ++ drop (length c.args.values.now) c.args.out.now) c.copy_from_slice.ensures.after ∙ got.1 }

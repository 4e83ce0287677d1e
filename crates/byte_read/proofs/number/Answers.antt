use Rattle.std.proofs.Common.{◌≡◌, ◌<◌, ◌^◌, arith}
use Rattle.byte_read.proofs.Backward.{reads_none, reads_room, reads_turn, reads_all}
use Rattle.byte_read.proofs.number.Goals as goal

pub loop-x-init : goal.loop-x-init
loop-x-init c =
    let start : c.into_iter-x-iterator.result.iter.rest.now ≡ c.args.bytes.now = cc (c.iter.ensures.rest) in
    rw start (reads_none c.args.bytes.now)

pub overflow_mul-v : goal.overflow_mul-v
overflow_mul-v c =
    let room : c.loop-x.v < 256 ^ 7 = reads_room _ _ c.loop-x.invariant c.in-Some.ensures.steps c.requires in
    omega arith

pub overflow_add-v : goal.overflow_add-v
overflow_add-v c =
    let room : c.loop-x.v < 256 ^ 7 = reads_room _ _ c.loop-x.invariant c.in-Some.ensures.steps c.requires in
    omega arith

pub loop-x-preserved : goal.loop-x-preserved
loop-x-preserved c = rw c.from.ensures (reads_turn _ _ c.loop-x.invariant c.in-Some.ensures.steps (omega arith))

pub returns : goal.returns
returns c =
    let all = reads_all _ _ _ c.loop-x.invariant c.in-None.ensures.steps.0 in
    record { value = all.0; small = all.1 }

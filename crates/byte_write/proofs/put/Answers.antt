use Rattle.std.proofs.Common.{◌≡◌, length, append-nil, sym, ◌∙◌, ap, arith, ◌++◌}
use native.Mathlib.Nat.{zero-add, sub-zero}
use lib.ListN.{drop_of_length-le}
use Rattle.byte_words.specs.Words.{bytes_of}
use Rattle.byte_words.proofs.Words.{length_bytes_of, lay_front, write_turn, write_end}
use Rattle.byte_write.proofs.put.Goals as goal

pub loop-x-init : goal.loop-x-init
loop-x-init c =
    let room = c.args.room.now in
    let bs = bytes_of (length room) c.args.number in
    let n : length bs ≡ length room = length_bytes_of _ _ in
    rw sub-zero (lay_front room bs (omega arith) ∙ ap (λ r. bs ++ r) (drop_of_length-le room (omega arith)) ∙ append-nil bs)

pub loop-x-preserved : goal.loop-x-preserved
loop-x-preserved c =
    let l = c.loop-x in
    sym (simp zero-add at (write_turn l.x-items 0 (length c.args.room.now) l.left l.x-index (omega arith))) ∙ l.invariant

pub returns : goal.returns
returns c =
    let l = c.loop-x in
    sym (simp zero-add at (write_end l.x-items 0 (length c.args.room.now) l.left l.x-index (omega arith))) ∙ l.invariant

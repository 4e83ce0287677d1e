use Rattle.std.proofs.Common.{◌≡◌, length, ◌-◌}
use Rattle.byte_words.specs.Words.{lay, bytes_of}
use Rattle.byte_write.proofs.put.Given as goal

abbrev pub invariant-loop-x : goal.invariant-loop-x
invariant-loop-x l = lay l.x-items l.x-index (bytes_of (length l.fn.room - l.x-index) l.left) ≡ bytes_of (length l.fn.room) l.number

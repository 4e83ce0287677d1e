use Rattle.byte_read.proofs.Backward.{Reads}
use Rattle.byte_read.proofs.number.Given as goal

abbrev pub invariant-loop-x : goal.invariant-loop-x
invariant-loop-x l = Reads l.bytes l.x-iterator.iter.rest.now l.v

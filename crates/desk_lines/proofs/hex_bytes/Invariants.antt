-- The bytes put down stay within the buffer.
use Rattle.std.proofs.Common.{◌≡◌, ◌≤◌, length}
use Rattle.desk_lines.proofs.hex_bytes.Given as goal

abbrev pub invariant-loop-high : goal.invariant-loop-high
invariant-loop-high l = (l.n ≤ length l.buf) × (length l.buf ≡ length l.initial.buf)

-- Each turn but the last reads 64 KiB, and the file's bytes are counted.
use Rattle.std.proofs.Common.{◌≡◌, ℕ, ◌+◌, ◌-◌, ◌*◌, ◌≤◌, length}
use Rattle.num_limits.specs.Capacities.{arc_sums_most, parameters_most, records_most}
use Rattle.part_laws.specs.Entries.{opened_most, record_size_most}
use Rattle.list_run.specs.Rooms.{part_most}
use Rattle.list_run.specs.Course.{Open}
use Rattle.desk_arc.proofs.follow.Given as goal

-- what is counted at the most: the longest arc file, and one part
abbrev pub counted_most : ℕ
counted_most = opened_most + records_most * record_size_most + part_most

abbrev pub invariant-loop-total : goal.invariant-loop-total
invariant-loop-total g l = record {
  counted : l.total ≤ counted_most;
  part : length l.buf ≡ part_most;
  sums : length l.matrix ≡ arc_sums_most;
  sides : length l.rights ≡ parameters_most;
  answers : length l.table ≡ length l.initial.table;
  led : Open l.c l.matrix l.rights l.table;
}

abbrev pub decreases-loop-total : goal.decreases-loop-total
decreases-loop-total g l = counted_most - l.total

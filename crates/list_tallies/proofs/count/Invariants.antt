-- `list_tallies::count` meets its contract. The loop's invariant: what is left to count makes the whole table.
use Rattle.std.proofs.Common.{◌≡◌, ◌-◌, length, drop}
use Rattle.list_tallies.specs.Tables.{counted, CountsFit}
use Rattle.list_tallies.proofs.count.Given as goal

abbrev pub invariant-loop-answer : goal.invariant-loop-answer
invariant-loop-answer l =
    (length l.table ≡ length l.initial.table)
    × CountsFit l.table (length l.told - l.answer-index)
    × (counted l.table (drop l.answer-index l.told) ≡ counted l.initial.table l.told)

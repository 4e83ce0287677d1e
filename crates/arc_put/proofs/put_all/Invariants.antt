-- `arc_put::put_all` meets its contract. The loop's invariant: the bytes of the records left, laid at the place, make the whole.
use Rattle.std.proofs.Common.{◌≡◌, ◌+◌, ◌^◌, ◌<◌, length, drop}
use Rattle.byte_words.specs.Words.{lay}
use Rattle.byte_section.specs.Section.{encoded}
use Rattle.arc_put.proofs.put_all.Given as goal

abbrev pub invariant-loop-r : goal.invariant-loop-r
invariant-loop-r g l =
    (l.at + length (encoded g.R.Put.bytes (drop l.r-index l.records)) < 2 ^ 64)
    × (lay l.initial.out l.initial.at (encoded g.R.Put.bytes l.records) ≡ lay l.out l.at (encoded g.R.Put.bytes (drop l.r-index l.records)))

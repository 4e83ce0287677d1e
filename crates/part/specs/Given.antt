-- What is given by begin and of a heading, and what stands in its place with a refusal.
use Rattle.std.specs.Prelude.{Result, Ok, Err}
use Rattle.refusal.specs.declared.Refusal.{Refusal}
use Rattle.arc_heading.specs.declared.Heading.{Heading}
use Rattle.arc_front.specs.Front.{blank_heading}
use Rattle.take_tally.specs.Tally.{empty_tally}
use Rattle.take_tally.specs.declared.Tally.{Tally}
use Rattle.part_laws.specs.Entries.{Told, took, told_part, held_of}
use Rattle.part_laws.specs.Feeding.{begun}
use Rattle.part_laws.specs.declared.Position.{Position}
use Rattle.part_laws.specs.declared.PartRefusal.{PartRefusal}
use Rattle.part.specs.declared.Begun.{Begun}

-- the tally of what begins, the empty one with a refusal
abbrev pub tally_of : Result Begun Refusal → Tally
tally_of (Ok b) = b.tally
tally_of (Err r) = empty_tally

-- the position that is begun, where a file begins with a refusal too
abbrev pub begun_at : Result Begun Refusal → Position
begun_at (Ok b) = b.position
begun_at (Err r) = held_of begun

-- a heading that is given is told as no record
abbrev pub told_heading : Result Heading PartRefusal → Told
told_heading (Ok h) = took 0
told_heading (Err r) = told_part (Err r)

-- the blank heading with a refusal
abbrev pub heading_of : Result Heading PartRefusal → Heading
heading_of (Ok h) = h
heading_of (Err r) = blank_heading

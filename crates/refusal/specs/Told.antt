-- What an entry's result says, in the paper's numbers.
use Rattle.std.specs.Prelude.{Result, Ok, Err}
use Rattle.num_whole.specs.Answer.{Answered, given, refused, Judged, good, bad}
use Rattle.refusal.specs.Number.{number_of}
use Rattle.refusal.specs.declared.Refusal.{Refusal}
use Rattle.refusal.specs.declared.Fault.{Fault}

-- a value, or a refusal by its number
abbrev pub told : {A : Type 0} → Result A Refusal → Answered A
told (Ok a) = given a
told (Err r) = refused (number_of r)

-- a value, or a refusal by its number and place
abbrev pub told_placed : {A : Type 0} → Result A Fault → Judged A
told_placed (Ok a) = good a
told_placed (Err f) = bad (number_of f.why) f.place

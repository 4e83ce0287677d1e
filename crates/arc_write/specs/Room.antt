-- For the proofs of the code alone: no public promise and no law cites this, and an auditor may skip it.
-- The tests of a writing that come after the heading's.
use Rattle.std.specs.Prelude.{ℕ, ◌%◌}
use Rattle.num_whole.specs.Tests.{less, same, pick}
use Rattle.num_whole.specs.Answer.{Answered, given, refused}
use Rattle.arc_kinds.specs.Kinds.{record_size}
use Rattle.arc_fields.specs.Sizes.{needed_for}

-- 1 for a run that ends inside a record, 20 for too little room, else the length of the file
unfoldable pub room_answer : ℕ → ℕ → ℕ → ℕ → Answered ℕ
room_answer p t n room =
    pick (same (n % record_size p) 0)
    (pick (less room (needed_for p t n)) (refused 20) (given (needed_for p t n)))
    (refused 1)

-- What reading a section that no one keeps gives, and what every writer leaves of a room.
use Rattle.std.specs.Prelude.{ℕ, List, length}
use Rattle.num_whole.specs.Answer.{Answered, given, refused, Judged, good, bad}
use Rattle.byte_section.specs.Section.{Run, and_then}
use Rattle.byte_section.specs.declared.Span.{Span}

-- a section whose records no one keeps: how many, and the place after it
unfoldable pub span_of : {A : Type 0} → Judged (Run A) → Judged Span
span_of j = and_then j (λ r. good (record { count = length r.items; next = r.next }))

-- what every writer leaves of a room: the new bytes where it is done, else the old ones
unfoldable pub on_done : {A : Type 0} → Answered A → List ℕ → List ℕ → List ℕ
on_done (given a) new old = new
on_done (refused k) new old = old

-- For the proofs of the code alone: no public promise and no law cites this, and an auditor may skip it.
-- The arc file's reading in the parts that the code has: what follows its heading.
use Rattle.std.specs.Prelude.{ℕ, ◌+◌, List}
use Rattle.num_whole.specs.Answer.{Judged}
use Rattle.byte_section.specs.Section.{and_then, closed}
use Rattle.arc_heading.specs.declared.Heading.{Heading}
use Rattle.arc_read.specs.Arc.{Arc}
use Rattle.arc_sections.specs.Sections.{records_part}

-- what follows a heading that ends at a place
unfoldable pub arc_from : List ℕ → ℕ → Heading → Judged Arc
arc_from s at h =
    and_then (records_part s at h.parameters) λ d.
    closed s d.next (record { heading = h; count = d.count; start = at + 4 })

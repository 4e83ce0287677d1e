-- For the proofs of the code alone: no public promise and no law cites this, and an auditor may skip it.
-- The heading that a file begins with, in the parts that the code has.
use Rattle.std.specs.Prelude.{List, ℕ}
use Rattle.num_whole.specs.Answer.{Judged, good}
use Rattle.byte_section.specs.Section.{and_then}
use Rattle.arc_kinds.specs.Told.{settings_part}
use Rattle.arc_sections.specs.Sections.{labels_part, stations_part}
use Rattle.arc_front.specs.declared.HeadingRead.{HeadingRead}

-- a heading, and the place after it
abbrev pub PlacedHeading : Type 0
PlacedHeading = HeadingRead

-- the settings end at 16
unfoldable pub heading_part : List ℕ → Judged PlacedHeading
heading_part s =
    and_then (settings_part s) λ a.
    and_then (labels_part s 16) λ b.
    and_then (stations_part s b.next) λ c.
    good
    (record {
      heading = record { settings = a; parameters = b.count; stations = c.count; labels = b.labels; listed = c.listed };
      next = c.next;
    })

-- For the proofs of the code alone: no public promise and no law cites this, and an auditor may skip it.
-- The form, the arcs and the labels of a normal file in the parts that the code has, in numbers.
use Rattle.std.specs.Prelude.{ℕ, List, Bool, length}
use Rattle.num_limits.specs.Capacities.{arcs_most, labels_most}
use Rattle.num_whole.specs.Answer.{Judged, good}
use Rattle.byte_words.specs.Words.{word}
use Rattle.byte_section.specs.Section.{Run, and_then, section_at}
use Rattle.byte_words.specs.Stands.{stands}
use Rattle.norm_kinds.specs.Kinds.{arc_kind, Fielded, fielded_kind, is_small_form, stored_of}
use Rattle.norm_heads.specs.declared.HeadsRead.{HeadsRead}

-- ---- the arcs and the labels
pub record Heads : Type 0 where
  pub small : Bool
  pub arcs : Run ℕ
  pub labels : Run Fielded

unfoldable pub heads_part : List ℕ → Judged Heads
heads_part s =
    and_then (section_at arc_kind s 1 arcs_most 0) λ a.
    and_then (section_at (fielded_kind (is_small_form s a.next) a.items) s 1 labels_most a.next) λ b.
    good (record { small = is_small_form s a.next; arcs = a; labels = b })

-- how many of each, how many labels have their sums stored, the form, and the place after the labels
abbrev pub counts_of : Heads → HeadsRead
counts_of h =
    record {
      arcs = length h.arcs.items;
      parameters = length h.labels.items;
      stored = length (stored_of h.labels.items);
      is_small = h.small;
      next = h.labels.next;
    }

unfoldable pub counts_part : List ℕ → Judged HeadsRead
counts_part s = and_then (heads_part s) (λ h. good (counts_of h))

-- n arcs, after their count of four bytes
abbrev pub arcs_at : List ℕ → ℕ → List ℕ
arcs_at s n = stands (word 4 s) 4 n 4

-- Document 01, 'Normal file': "Sections, each after its count: arcs ..; parameters ..; matrix sums ..; right sides ..; totals"; "Files are read
-- left to right: a section's count (1, 2), then its records one by one, each 1, 4, 5; then 3; then 6." Document 02, #106, has two forms of it:
-- what a file stores is a system, of the labels whose sums are there; what it holds is that system on all its labels.
use Rattle.std.specs.Prelude.{ℕ, ◌+◌, ◌*◌, List, Bool, ℤ, length, get_or}
use Rattle.num_limits.specs.Capacities.{arcs_most, labels_most}
use Rattle.num_whole.specs.Answer.{Judged, good, bad}
use Rattle.byte_section.specs.Section.{Kind, Run, and_then, section_at, closed}
use Rattle.num_packed.specs.Triangle.{tri}
use Rattle.norm_system.specs.System.{System, Where, nowhere, in_matrix, in_rights, in_accepted, in_square, unsound_stored}
use Rattle.norm_system.specs.declared.NormalLabel.{NormalLabel}
use Rattle.norm_labels.specs.Labels.{on_labels}
use Rattle.norm_kinds.specs.Kinds.{arc_kind, Fielded, labels_in, fielded_kind, is_small_form, stored_of, sum_kind, Totals, no_totals, totals_kind}
use Rattle.norm_read.specs.declared.NormalRead.{NormalRead}

-- the form of a normal file, its labels with their fields, what it stores and what it holds, and where the records of its last three sections
-- begin
pub record Normal : Type 0 where
  pub small : Bool
  pub fielded : List Fielded
  pub stored : System
  pub holds : System
  pub matrix : ℕ
  pub rights : ℕ
  pub totals : ℕ

abbrev pub system_from : List ℕ → List NormalLabel → List ℤ → List ℤ → Totals → System
system_from arcs labels matrix rights t =
    record { arcs = arcs; labels = labels; matrix = matrix; rights = rights; accepted = t.accepted; square = t.square }

-- what is held follows from what is stored and the labels
abbrev pub normal_from : Bool → List Fielded → System → ℕ → ℕ → ℕ → Normal
normal_from small fielded stored matrix rights totals =
    record {
      small = small;
      fielded = fielded;
      stored = stored;
      holds = on_labels (labels_in fielded) stored;
      matrix = matrix;
      rights = rights;
      totals = totals;
    }

-- a section whose count can only be n
abbrev pub exactly : {A : Type 0} → Kind A → List ℕ → ℕ → ℕ → Judged (Run A)
exactly K s n at = section_at K s n n at

-- "for 6 the first unsound sum in file order": its first byte; accepted stands at the totals' first byte, the square sum eight later
unfoldable pub at_where : Normal → Where → Judged Normal
at_where x nowhere = good x
at_where x (in_matrix k) = bad 6 (x.matrix + 8 * k)
at_where x (in_rights k) = bad 6 (x.rights + 8 * k)
at_where x in_accepted = bad 6 x.totals
at_where x in_square = bad 6 (x.totals + 8)

unfoldable pub soundly : Normal → Judged Normal
soundly x = at_where x (unsound_stored x.small x.stored)

-- "arcs (1 to 16); parameters (1 to 500); matrix sums (P(P+1)/2); right sides (P); totals (1)"; then 3; then 6. 02, #106: "the counts follow",
-- for P the number of the labels whose sums are stored
unfoldable pub read_normal : List ℕ → Judged Normal
read_normal s =
    and_then (section_at arc_kind s 1 arcs_most 0) λ a.
    and_then (section_at (fielded_kind (is_small_form s a.next) a.items) s 1 labels_most a.next) λ b.
    and_then (exactly sum_kind s (tri (length (stored_of b.items))) b.next) λ m.
    and_then (exactly sum_kind s (length (stored_of b.items)) m.next) λ r.
    and_then (exactly totals_kind s 1 r.next) λ t.
    and_then
    (closed s t.next
    (normal_from (is_small_form s a.next) b.items
    (system_from a.items (stored_of b.items) m.items r.items (get_or t.items 0 no_totals))
    (b.next + 4) (m.next + 4) (r.next + 4)))
    soundly

-- ---- what a reader tells of a file: its numbers, or the refusal
abbrev pub numbers_in : Normal → NormalRead
numbers_in x =
    record {
      arcs = length x.holds.arcs;
      parameters = length x.holds.labels;
      stored = length x.stored.labels;
      is_small = x.small;
      matrix = x.matrix;
      rights = x.rights;
      totals = x.totals;
    }

abbrev pub numbers_of : Judged Normal → Judged NormalRead
numbers_of (good x) = good (numbers_in x)
numbers_of (bad number place) = bad number place

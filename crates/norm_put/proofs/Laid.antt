-- The bytes of a normal file in the parts that are laid one after the other: how long each is, and that together they are the file.
-- Assumes nothing.
use Prim.Native.Nat.{ℕ, ◌+◌, ◌*◌, ◌%◌, ◌^◌, ◌≤◌, ◌<◌}
use mathlib.Core.Path.{◌≡◌, sym, ap, ◌∙◌}
use mathlib.Core.List.{List, [], ◌++◌, append_assoc, append-nil}
use native.Mathlib.Omega.{arith}
use lib.IntN.{ℤ}
use lib.ListN.{length, get_or, length-append}
use lib.Seq.{length-take-le}
use mir.Syntax.{w64}
use mir.ValLaws.{of_z-to_z}
use Rattle.byte_words.specs.Words.{bytes_of, signed_bytes, lay}
use Rattle.byte_words.proofs.Words.{length_bytes_of, low, lay_append}
use Rattle.byte_section.specs.Section.{encoded}
use Rattle.byte_section.proofs.Trips.{length_encoded}
use Rattle.num_packed.specs.Triangle.{tri}
use Rattle.norm_system.specs.System.{System}
use Rattle.byte_words.proofs.Stands.{length_stands}
use Rattle.norm_kinds.specs.Kinds.{arc_number_bytes, normal_label_bytes, sum_bytes, totals_bytes}
use Rattle.norm_kinds.specs.Bytes.{sectioned, normal_bytes}
use Rattle.norm_kinds.proofs.Long.{length_normal}
use Rattle.norm_kinds.proofs.Records.{length_arc, length_label, length_sum}
use Rattle.norm_room.specs.Room.{label_in_heads, system_in_rooms, file_long}
use Rattle.norm_put.specs.Bytes.{name_bytes, tail_bytes}

-- ---- a label
pub length_name : (kind index arc weight : ℕ) → length (name_bytes kind index arc weight) ≡ 16
unfolding name_bytes
length_name kind index arc weight = simp (length-append, length_bytes_of)

module _ (out : List ℕ) (at kind index arc weight : ℕ) where
  pub name_laid : lay (lay (lay (lay (lay out at (bytes_of 2 (kind % 65536))) (at + 2) (bytes_of 2 (index % 65536))) (at + 4) (bytes_of 4 (arc % 4294967296))) (at + 8) (bytes_of 4 (weight % 4294967296))) (at + 12) (bytes_of 4 0)
      ≡ lay out at (name_bytes kind index arc weight)
  unfolding name_bytes
  name_laid =
      rw (low 2 kind, low 2 index, low 4 arc, low 4 weight)
      (lay_append _ _ _ _ _ (simp length_bytes_of (omega arith))
      ∙ lay_append _ _ _ _ _ (simp length_bytes_of (omega arith))
      ∙ lay_append _ _ _ _ _ (simp length_bytes_of (omega arith))
      ∙ lay_append _ _ _ _ _ (simp length_bytes_of))

module _ (h : List ℕ) (k : ℕ) where
  -- an estimate in two's complement has the bytes of its bits
  pub label_laid : (out : List ℕ) (at : ℕ) → get_or h (k + 4) 0 < 2 ^ 64
      → lay (lay out at (name_bytes (get_or h k 0) (get_or h (k + 1) 0) (get_or h (k + 2) 0) (get_or h (k + 3) 0))) (at + 16) (bytes_of 8 (get_or h (k + 4) 0)) ≡ lay out at (normal_label_bytes (label_in_heads h k))
  unfolding normal_label_bytes label_in_heads signed_bytes name_bytes
  label_laid out at fits =
      rw (of_z-to_z w64 (get_or h (k + 4) 0) (record { fits = fits }))
      (lay_append out at (at + 16) _ _ (ap (λ n. at + n) (sym (length_name _ _ _ _))) ∙ ap (lay out at) (simp append_assoc))

-- ---- a section
module _ {A : Type 0} (bytes : A → List ℕ) where
  -- its records laid where its count was laid before them
  pub section_laid : (out base : List ℕ) (start n : ℕ) (l : List A) → base ≡ lay out start (bytes_of 4 n) → length l ≡ n
      → lay base (start + 4) (encoded bytes l) ≡ lay out start (sectioned bytes l [])
  section_laid out base start n l b e = rw (b, e, append-nil) (lay_append _ _ _ _ _ (simp length_bytes_of))

  length_section : (k : ℕ) → ((a : A) → length (bytes a) ≡ k) → (l : List A) → length (sectioned bytes l []) ≡ 4 + length l * k
  length_section k long l = simp (length-append, length_bytes_of, length_encoded bytes k long l, append-nil)

-- ---- the parts of a file
pub file_parts : (x : System)
    → normal_bytes x ≡ sectioned arc_number_bytes x.arcs [] ++ (sectioned normal_label_bytes x.labels [] ++ tail_bytes x.matrix x.rights x.accepted x.square)
unfolding normal_bytes tail_bytes
file_parts x = simp (append_assoc, append-nil)

-- the sums, each section where the last one ends
module _ (p : ℕ) (m r : List ℤ) (n q : ℕ) (many : length m ≡ tri p) (sides : length r ≡ p) where
  long_matrix : length (sectioned sum_bytes m []) ≡ 4 + 8 * tri p
  long_matrix = length_section sum_bytes 8 length_sum m ∙ omega arith

  long_rights : length (sectioned sum_bytes r []) ≡ 4 + 8 * p
  long_rights = length_section sum_bytes 8 length_sum r ∙ omega arith

  pub tail_laid : (out : List ℕ) (at : ℕ)
      → lay (lay (lay out at (sectioned sum_bytes m [])) (at + 4 + 8 * tri p) (sectioned sum_bytes r [])) (at + 4 + 8 * tri p + 4 + 8 * p) (bytes_of 4 1 ++ (bytes_of 8 n ++ bytes_of 8 q))
      ≡ lay out at (tail_bytes m r n q)
  unfolding tail_bytes encoded totals_bytes
  tail_laid out at =
      lay_append _ _ _ _ _ (simp long_rights (omega arith))
      ∙ lay_append _ _ _ _ _ (simp long_matrix (omega arith))
      ∙ ap (lay out at) (simp (append_assoc, append-nil))

-- the file of a arcs and p parameters
module _ (a p : ℕ) (x : System) (arcs : length x.arcs ≡ a) (labels : length x.labels ≡ p) where
  long_arcs : length (sectioned arc_number_bytes x.arcs []) ≡ 4 + 4 * a
  long_arcs = length_section arc_number_bytes 4 length_arc x.arcs ∙ omega arith

  long_labels : length (sectioned normal_label_bytes x.labels []) ≡ 4 + 24 * p
  long_labels = length_section normal_label_bytes 24 length_label x.labels ∙ omega arith

  pub file_laid : (out : List ℕ)
      → lay (lay (lay out 0 (sectioned arc_number_bytes x.arcs [])) (4 + 4 * a) (sectioned normal_label_bytes x.labels [])) (4 + 4 * a + 4 + 24 * p) (tail_bytes x.matrix x.rights x.accepted x.square)
      ≡ lay out 0 (normal_bytes x)
  file_laid out =
      lay_append _ _ _ _ _ (simp long_labels (omega arith))
      ∙ lay_append _ _ _ _ _ (simp long_arcs (omega arith))
      ∙ ap (lay out 0) (sym (file_parts x))

  pub file_long_lem : length x.matrix ≡ tri p → length x.rights ≡ p → length (normal_bytes x) ≡ file_long a p
  file_long_lem many sides = length_normal x ∙ omega arith

-- ---- the system in three rooms
module _ (a p : ℕ) (h : List ℕ) (m r : List ℤ) where
  pub arcs_in : a ≤ length h → length (system_in_rooms a p h m r).arcs ≡ a
  unfolding system_in_rooms
  arcs_in e = length-take-le a h e

  pub labels_in_lem : length (system_in_rooms a p h m r).labels ≡ p
  unfolding system_in_rooms
  labels_in_lem = length_stands (label_in_heads h) 5 p a

  pub matrix_in : tri p ≤ length m → length (system_in_rooms a p h m r).matrix ≡ tri p
  unfolding system_in_rooms
  matrix_in e = length-take-le (tri p) m e

  pub rights_in : p ≤ length r → length (system_in_rooms a p h m r).rights ≡ p
  unfolding system_in_rooms
  rights_in e = length-take-le p r e

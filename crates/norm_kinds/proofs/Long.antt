-- How long the sections of a normal file are, and the whole file.
-- Assumes nothing.
use Prim.Native.Nat.{◌+◌, ◌*◌}
use mathlib.Core.Path.{◌≡◌}
use native.Mathlib.Omega.{arith}
use lib.ListN.{length, length-append}
use Rattle.byte_words.proofs.Words.{length_bytes_of}
use Rattle.byte_section.specs.Section.{encoded}
use Rattle.byte_section.proofs.Trips.{length_encoded}
use Rattle.norm_system.specs.System.{System}
use Rattle.norm_kinds.specs.Kinds.{arc_number_bytes, normal_label_bytes, sum_bytes}
use Rattle.norm_kinds.specs.Bytes.{normal_bytes}
use Rattle.norm_kinds.proofs.Records.{length_arc, length_label, length_sum, length_totals}

module _ (x : System) where
  pub long_arcs : length (encoded arc_number_bytes x.arcs) ≡ length x.arcs * 4
  long_arcs = length_encoded arc_number_bytes 4 length_arc x.arcs

  pub long_labels : length (encoded normal_label_bytes x.labels) ≡ length x.labels * 24
  long_labels = length_encoded normal_label_bytes 24 length_label x.labels

  pub long_matrix : length (encoded sum_bytes x.matrix) ≡ length x.matrix * 8
  long_matrix = length_encoded sum_bytes 8 length_sum x.matrix

  pub long_rights : length (encoded sum_bytes x.rights) ≡ length x.rights * 8
  long_rights = length_encoded sum_bytes 8 length_sum x.rights

  pub length_normal : length (normal_bytes x) ≡ 36 + length x.arcs * 4 + length x.labels * 24 + length x.matrix * 8 + length x.rights * 8
  unfolding normal_bytes encoded
  length_normal = simp (length-append, length_bytes_of, long_arcs, long_labels, long_matrix, long_rights, length_totals) (omega arith)

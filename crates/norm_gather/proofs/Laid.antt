-- A file laid into the room part by part: sections one after the other, and the three parts together.
-- Assumes nothing.
use mathlib.Core.Path.{◌≡◌, sym, ap, ap₂, ◌∙◌}
use mathlib.Core.List.{List, [], ◌++◌, append_assoc, append-nil}
use Prim.Native.Nat.{ℕ, ◌+◌, ◌*◌}
use native.Mathlib.Omega.{arith}
use lib.IntN.{ℤ}
use lib.ListN.{length, length-append}
use Rattle.byte_words.specs.Words.{word, lay, bytes_of}
use Rattle.byte_words.proofs.Words.{length_bytes_of, lay_append}
use Rattle.byte_words.proofs.Stands.{length_stands}
use Rattle.byte_section.specs.Section.{encoded}
use Rattle.byte_section.proofs.Trips.{length_encoded}
use Rattle.num_packed.specs.Triangle.{tri}
use Rattle.norm_kinds.specs.Kinds.{arc_number_bytes, fielded_bytes, sum_bytes, totals_at}
use Rattle.norm_kinds.specs.Bytes.{sectioned}
use Rattle.norm_kinds.proofs.Records.{length_arc, length_fielded, length_sum, totals_section}
use Rattle.norm_labels.specs.Table.{rows_of, columns_of}
use Rattle.norm_labels.proofs.Tables.{length_rows, length_columns}
use Rattle.norm_heads.specs.Heads.{arcs_at}
use Rattle.norm_read.specs.declared.NormalRead.{NormalRead}
use Rattle.norm_gather.specs.Gather.{fielded_by_seat, gathered_at, side_gathered, heads_gathered, sums_gathered, totals_copied}
use mathlib.Core.Bool.{Bool}

-- ---- two sections
module _ {A B : Type 0} (f : A → List ℕ) (i : ℕ) (fi : (a : A) → length (f a) ≡ i) (g : B → List ℕ) (j : ℕ) (gj : (b : B) → length (g b) ≡ j) (l : List A) (k : List B) where
  two_long : length (sectioned f l (sectioned g k [])) ≡ 8 + length l * i + length k * j
  two_long =
      let a : length (encoded f l) ≡ length l * i = length_encoded f i fi l in
      let b : length (encoded g k) ≡ length k * j = length_encoded g j gj k in
      simp (length-append, length_bytes_of, a, b) (omega arith)

  two_laid : (out : List ℕ) (at next m n : ℕ) → m ≡ length l → n ≡ length k → next ≡ at + 4 + length l * i
      → lay (lay (lay (lay out at (bytes_of 4 m)) (at + 4) (encoded f l)) next (bytes_of 4 n)) (next + 4) (encoded g k) ≡ lay out at (sectioned f l (sectioned g k []))
  two_laid out at next m n p q e =
      let a : length (encoded f l) ≡ length l * i = length_encoded f i fi l in
      let one : length (bytes_of 4 (length l)) ≡ 4 = length_bytes_of 4 (length l) in
      let two : length (bytes_of 4 (length k)) ≡ 4 = length_bytes_of 4 (length k) in
      let u = bytes_of 4 (length l) in
      let v = encoded f l in
      let w = bytes_of 4 (length k) in
      let z = encoded g k in
      let both : length (u ++ v) ≡ 4 + length l * i = length-append u v ∙ ap₂ (λ p q. p + q) one a in
      let three : length ((u ++ v) ++ w) ≡ 8 + length l * i = length-append (u ++ v) w ∙ omega arith in
      ap₂ (λ m n. lay (lay (lay (lay out at (bytes_of 4 m)) (at + 4) v) next (bytes_of 4 n)) (next + 4) z) p q
      ∙ ap (λ t. lay (lay t next w) (next + 4) z) (lay_append out at (at + 4) u v (ap (λ n. at + n) (sym one)))
      ∙ ap (λ t. lay t (next + 4) z) (lay_append out at next (u ++ v) w (omega arith))
      ∙ lay_append out at (next + 4) ((u ++ v) ++ w) z (omega arith)
      ∙ ap (lay out at) (append_assoc (u ++ v) w z ∙ append_assoc u v (w ++ z) ∙ ap (λ t. u ++ (v ++ (w ++ t))) (sym (append-nil z)))

-- ---- arcs and labels
module _ (small : Bool) (s : List ℕ) (r : NormalRead) (w : List ℕ) where
  pub head_part_long : length (heads_gathered small s r w) ≡ 8 + 4 * r.arcs + 24 * length w
  unfolding heads_gathered
  head_part_long =
      two_long arc_number_bytes 4 length_arc fielded_bytes 24 length_fielded (arcs_at s r.arcs) (rows_of (fielded_by_seat small s (8 + 4 * r.arcs) r.matrix r.stored w) 0 (length w))
      ∙ omega (arith, length_stands (word 4 s) 4 r.arcs 4, length_rows (fielded_by_seat small s (8 + 4 * r.arcs) r.matrix r.stored w) 0 (length w))

  pub head_part_laid : (out : List ℕ) (next labels : ℕ) → next ≡ 4 + 4 * r.arcs → labels ≡ 8 + 4 * r.arcs
      → lay (lay (lay (lay out 0 (bytes_of 4 r.arcs)) 4 (encoded arc_number_bytes (arcs_at s r.arcs))) next (bytes_of 4 (length w))) (next + 4)
      (encoded fielded_bytes (rows_of (fielded_by_seat small s labels r.matrix r.stored w) 0 (length w)))
      ≡ lay out 0 (heads_gathered small s r w)
  unfolding heads_gathered
  head_part_laid out next labels e d =
      let l = rows_of (fielded_by_seat small s (8 + 4 * r.arcs) r.matrix r.stored w) 0 (length w) in
      let m : length (arcs_at s r.arcs) ≡ r.arcs = length_stands (word 4 s) 4 r.arcs 4 in
      let n : length l ≡ length w = length_rows (fielded_by_seat small s (8 + 4 * r.arcs) r.matrix r.stored w) 0 (length w) in
      ap (λ k. lay (lay (lay (lay out 0 (bytes_of 4 r.arcs)) 4 (encoded arc_number_bytes (arcs_at s r.arcs))) next (bytes_of 4 (length w))) (next + 4)
      (encoded fielded_bytes (rows_of (fielded_by_seat small s k r.matrix r.stored w) 0 (length w)))) d
      ∙ two_laid arc_number_bytes 4 length_arc fielded_bytes 24 length_fielded (arcs_at s r.arcs) l out 0 next r.arcs (length w) (sym m) (sym n) (omega arith)

-- ---- sums
module _ (s : List ℕ) (r : NormalRead) (u : List ℕ) where
  abbrev pub columns_found : List ℤ
  columns_found = columns_of (gathered_at s r.matrix r.stored u) 0 (length u)

  abbrev pub sides_found : List ℤ
  sides_found = rows_of (side_gathered s (record { base = r.rights; rows = r.stored }) u) 0 (length u)

  found_columns : length columns_found ≡ tri (length u)
  found_columns = length_columns (gathered_at s r.matrix r.stored u) (length u)

  found_sides : length sides_found ≡ length u
  found_sides = length_rows (side_gathered s (record { base = r.rights; rows = r.stored }) u) 0 (length u)

  pub sum_part_long : length (sums_gathered s r u) ≡ 8 + 8 * tri (length u) + 8 * length u
  unfolding sums_gathered
  sum_part_long = two_long sum_bytes 8 length_sum sum_bytes 8 length_sum columns_found sides_found ∙ omega (arith, found_columns, found_sides)

  pub sum_part_laid : (out : List ℕ) (at next m : ℕ) → m ≡ tri (length u) → next ≡ at + 4 + 8 * m
      → lay (lay (lay (lay out at (bytes_of 4 m)) (at + 4) (encoded sum_bytes columns_found)) next (bytes_of 4 (length u))) (next + 4) (encoded sum_bytes sides_found) ≡ lay out at (sums_gathered s r u)
  unfolding sums_gathered
  sum_part_laid out at next m e d =
      two_laid sum_bytes 8 length_sum sum_bytes 8 length_sum columns_found sides_found out at next m (length u) (e ∙ sym found_columns) (sym found_sides) (omega (arith, found_columns))

-- ---- totals
pub totals_laid : (out : List ℕ) (at : ℕ) (s : List ℕ) (r : NormalRead) (n q : ℕ) → n ≡ word 8 s r.totals → q ≡ word 8 s (r.totals + 8)
    → lay out at (bytes_of 4 1 ++ (bytes_of 8 n ++ bytes_of 8 q)) ≡ lay out at (totals_copied s r)
unfolding totals_copied totals_at
totals_laid out at s r n q e f = rw (e, f) (ap (lay out at) (totals_section _ _))

-- ---- the three parts
module _ (small : Bool) (s : List ℕ) (r : NormalRead) (w u : List ℕ) where
  pub parts_laid : (out : List ℕ) (middle last : ℕ) → middle ≡ 8 + 4 * r.arcs + 24 * length w → last ≡ middle + 8 + 8 * tri (length u) + 8 * length u
      → lay (lay (lay out 0 (heads_gathered small s r w)) middle (sums_gathered s r u)) last (totals_copied s r)
      ≡ lay out 0 (heads_gathered small s r w ++ (sums_gathered s r u ++ totals_copied s r))
  parts_laid out middle last e f =
      let a = heads_gathered small s r w in
      let b = sums_gathered s r u in
      let c = totals_copied s r in
      let h : length a ≡ 8 + 4 * r.arcs + 24 * length w = head_part_long small s r w in
      let m : length b ≡ 8 + 8 * tri (length u) + 8 * length u = sum_part_long s r u in
      let both : length (a ++ b) ≡ length a + length b = length-append a b in
      ap (λ t. lay t last c) (lay_append out 0 middle a b (omega arith))
      ∙ lay_append out 0 last (a ++ b) c (omega arith)
      ∙ ap (lay out 0) (append_assoc a b c)

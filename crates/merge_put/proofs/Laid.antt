-- The merged file laid into the room part by part: sections one after the other, and the three parts together.
-- Assumes nothing.
use mathlib.Core.Path.{◌≡◌, sym, ap, ap₂, ◌∙◌}
use mathlib.Core.List.{List, [], ◌++◌, append_assoc, append-nil}
use Prim.Native.Nat.{ℕ, ◌+◌, ◌*◌}
use native.Mathlib.Omega.{arith}
use lib.ListN.{length, length-append}
use Rattle.byte_words.specs.Words.{lay, bytes_of}
use Rattle.byte_words.proofs.Words.{length_bytes_of, lay_append}
use Rattle.byte_section.specs.Section.{encoded}
use Rattle.byte_section.proofs.Trips.{length_encoded}
use Rattle.norm_system.specs.System.{System}
use Rattle.norm_kinds.specs.Kinds.{arc_number_bytes, normal_label_bytes, sum_bytes, totals_bytes}
use Rattle.norm_kinds.specs.Bytes.{normal_bytes, sectioned}
use Rattle.norm_kinds.proofs.Records.{length_arc, length_label, length_sum}
use Rattle.merge_put.specs.Parts.{head_bytes, middle_bytes, last_bytes}

-- ---- two sections
module _ {A B : Type 0} (f : A → List ℕ) (i : ℕ) (fi : (a : A) → length (f a) ≡ i) (g : B → List ℕ) (j : ℕ) (gj : (b : B) → length (g b) ≡ j) (l : List A) (k : List B) where
  pub two_long : length (sectioned f l (sectioned g k [])) ≡ 8 + length l * i + length k * j
  two_long =
      let a : length (encoded f l) ≡ length l * i = length_encoded f i fi l in
      let b : length (encoded g k) ≡ length k * j = length_encoded g j gj k in
      simp (length-append, length_bytes_of, a, b) (omega arith)

  pub two_laid : (out : List ℕ) (at second third : ℕ) → second ≡ at + 4 + length l * i → third ≡ second + 4
      → lay (lay (lay (lay out at (bytes_of 4 (length l))) (at + 4) (encoded f l)) second (bytes_of 4 (length k))) third (encoded g k) ≡ lay out at (sectioned f l (sectioned g k []))
  two_laid out at second third e h =
      let a : length (encoded f l) ≡ length l * i = length_encoded f i fi l in
      let one : length (bytes_of 4 (length l)) ≡ 4 = length_bytes_of 4 (length l) in
      let two : length (bytes_of 4 (length k)) ≡ 4 = length_bytes_of 4 (length k) in
      let u = bytes_of 4 (length l) in
      let v = encoded f l in
      let w = bytes_of 4 (length k) in
      let z = encoded g k in
      let both : length (u ++ v) ≡ 4 + length l * i = length-append u v ∙ ap₂ (λ p q. p + q) one a in
      let three : length ((u ++ v) ++ w) ≡ 8 + length l * i = length-append (u ++ v) w ∙ omega arith in
      ap (λ t. lay (lay t second w) third z) (lay_append out at (at + 4) u v (ap (λ n. at + n) (sym one)))
      ∙ ap (λ t. lay t third z) (lay_append out at second (u ++ v) w (omega arith))
      ∙ lay_append out at third ((u ++ v) ++ w) z (omega arith)
      ∙ ap (lay out at) (append_assoc (u ++ v) w z ∙ append_assoc u v (w ++ z) ∙ ap (λ t. u ++ (v ++ (w ++ t))) (sym (append-nil z)))

-- ---- the three parts
module _ (z : System) where
  pub head_long : length (head_bytes z) ≡ 8 + 4 * length z.arcs + 24 * length z.labels
  unfolding head_bytes
  head_long = two_long arc_number_bytes 4 length_arc normal_label_bytes 24 length_label z.arcs z.labels ∙ omega arith

  pub middle_long : length (middle_bytes z) ≡ 8 + 8 * length z.matrix + 8 * length z.rights
  unfolding middle_bytes
  middle_long = two_long sum_bytes 8 length_sum sum_bytes 8 length_sum z.matrix z.rights ∙ omega arith

  pub last_laid : (out : List ℕ) (at n q : ℕ) → n ≡ z.accepted → q ≡ z.square
      → lay (lay (lay out at (bytes_of 4 1)) (at + 4) (bytes_of 8 n)) (at + 12) (bytes_of 8 q) ≡ lay out at (last_bytes z)
  unfolding last_bytes encoded totals_bytes
  last_laid out at n q e f =
      let u = bytes_of 4 1 in
      let v = bytes_of 8 z.accepted in
      let w = bytes_of 8 z.square in
      let one : length u ≡ 4 = length_bytes_of 4 1 in
      let two : length v ≡ 8 = length_bytes_of 8 z.accepted in
      let both : length (u ++ v) ≡ 12 = length-append u v ∙ omega arith in
      rw (e, f)
      (ap (λ t. lay t (at + 12) w) (lay_append out at (at + 4) u v (ap (λ n. at + n) (sym one)))
      ∙ lay_append out at (at + 12) (u ++ v) w (ap (λ n. at + n) (sym both))
      ∙ ap (lay out at) (append_assoc u v w ∙ ap (λ t. u ++ t) (sym (append-nil (v ++ w)) ∙ sym (append-nil ((v ++ w) ++ [])))))

  parts : normal_bytes z ≡ head_bytes z ++ (middle_bytes z ++ last_bytes z)
  unfolding normal_bytes head_bytes middle_bytes last_bytes
  parts = simp append_assoc

  pub file_laid : (out : List ℕ) (middle last : ℕ) → middle ≡ 8 + 4 * length z.arcs + 24 * length z.labels
      → last ≡ middle + (8 + 8 * length z.matrix + 8 * length z.rights)
      → lay (lay (lay out 0 (head_bytes z)) middle (middle_bytes z)) last (last_bytes z) ≡ lay out 0 (normal_bytes z)
  file_laid out middle last e f =
      let h : length (head_bytes z) ≡ 8 + 4 * length z.arcs + 24 * length z.labels = head_long in
      let m : length (middle_bytes z) ≡ 8 + 8 * length z.matrix + 8 * length z.rights = middle_long in
      let both : length (head_bytes z ++ middle_bytes z) ≡ length (head_bytes z) + length (middle_bytes z) = length-append (head_bytes z) (middle_bytes z) in
      ap (λ t. lay t last (last_bytes z)) (lay_append out 0 middle (head_bytes z) (middle_bytes z) (omega arith))
      ∙ lay_append out 0 last (head_bytes z ++ middle_bytes z) (last_bytes z) (omega arith)
      ∙ ap (lay out 0) (append_assoc (head_bytes z) (middle_bytes z) (last_bytes z) ∙ sym parts)

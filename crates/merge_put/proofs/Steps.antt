-- The room after each step of the writing: the parts of the merged file, and then the whole of it.
-- Assumes nothing.
use mathlib.Core.Path.{◌≡◌, refl, sym, ap, ap₂, ◌∙◌}
use mathlib.Core.List.{List}
use Prim.Native.Nat.{ℕ, ◌+◌, ◌*◌, ◌^◌, ◌≤◌, ◌<◌}
use native.Mathlib.Omega.{arith}
use lib.ListN.{length}
use mir.Syntax.{w64}
use Rattle.byte_words.specs.Words.{lay, bytes_of, signed_bytes}
use Rattle.byte_section.specs.Section.{encoded}
use Rattle.num_packed.specs.Triangle.{tri}
use Rattle.norm_system.specs.System.{file_square_unit}
use Rattle.norm_system.proofs.Sound.{bound_most}
use Rattle.norm_kinds.specs.Kinds.{arc_number_bytes, normal_label_bytes, sum_bytes}
use Rattle.norm_kinds.specs.Bytes.{normal_bytes}
use Rattle.norm_read.specs.declared.NormalRead.{NormalRead}
use Rattle.norm_kinds.proofs.Long.{length_normal}
use Rattle.norm_kinds.proofs.Records.{length_arc, length_label, length_sum}
use Rattle.merge_join.specs.Join.{union}
use Rattle.norm_labels.specs.Table.{rows_of, columns_of}
use Rattle.merge_sums.specs.Both.{both_places, both_sides}
use Rattle.merge_heads.specs.Heads.{label_of_union}
use Rattle.merge_laws.specs.Merge.{merged_of}
use Rattle.merge_laws.proofs.Merged.{merged_arcs, merged_accepted, merged_square}
use Rattle.norm_labels.proofs.Soundness.{judged}
use Rattle.merge_put.specs.Parts.{system_in_file, Joined, Located, ArcsFit, head_bytes, middle_bytes, last_bytes}
use Rattle.merge_put.proofs.Known.{Known}
use Rattle.merge_put.proofs.Laid.{two_laid, file_laid, last_laid}
use Rattle.merge_put.proofs.Sums.{labels_written, matrix_written, rights_written, labels_count, matrix_count, rights_count}

module _ (a : List ℕ) (x : NormalRead) (ka : Known a x) (b : List ℕ) (y : NormalRead) (kb : Known b y) (left right : List ℕ) (n : ℕ) (j : Joined a b n left right) where
  module _ (m : ℕ) (fit : ArcsFit a b m) where
    arcs_count : length (merged_of (system_in_file a) (system_in_file b)).arcs ≡ m
    arcs_count = ap length (merged_arcs (system_in_file a) (system_in_file b)) ∙ sym fit.count

    pub heads_put : (out one two three four : List ℕ) → one ≡ lay out 0 (bytes_of 4 m) → two ≡ lay one 4 (encoded arc_number_bytes (union (system_in_file a).arcs (system_in_file b).arcs))
        → three ≡ lay two (4 + 4 * m) (bytes_of 4 n)
        → four ≡ lay three (4 + 4 * m + 4) (encoded normal_label_bytes (rows_of (label_of_union a (8 + 4 * x.arcs) x.parameters left b (8 + 4 * y.arcs) right) 0 n))
        → four ≡ lay out 0 (head_bytes (merged_of (system_in_file a) (system_in_file b)))
    unfolding head_bytes
    heads_put out one two three four e f g h =
        let z = merged_of (system_in_file a) (system_in_file b) in
        let c : length z.arcs ≡ m = arcs_count in
        h
        ∙ ap₂ (λ t l. lay t (4 + 4 * m + 4) (encoded normal_label_bytes l))
        (g ∙ ap₂ (λ t k. lay t (4 + 4 * m) (bytes_of 4 k))
        (f ∙ ap₂ (λ t l. lay t 4 (encoded arc_number_bytes l)) (e ∙ ap (λ k. lay out 0 (bytes_of 4 k)) (sym c)) (sym (merged_arcs (system_in_file a) (system_in_file b))))
        (sym (labels_count a x ka b y kb n j.count)))
        (labels_written a x ka b y kb left right n j)
        ∙ two_laid arc_number_bytes 4 length_arc normal_label_bytes 24 length_label z.arcs z.labels out 0 (4 + 4 * m) (4 + 4 * m + 4) (omega arith) refl

    pub bytes_long : length (normal_bytes (merged_of (system_in_file a) (system_in_file b))) ≡ 36 + 4 * m + 32 * n + 8 * tri n
    bytes_long =
        let z = merged_of (system_in_file a) (system_in_file b) in
        let c : length z.arcs ≡ m = arcs_count in
        let d : length z.labels ≡ n = labels_count a x ka b y kb n j.count in
        let s : length z.matrix ≡ tri n = matrix_count a x ka b y kb n j.count in
        let r : length z.rights ≡ n = rights_count a x ka b y kb n j.count in
        length_normal z ∙ omega arith

    pub file_put : (out one two three : List ℕ) (middle last : ℕ) → middle ≡ 8 + 4 * m + 24 * n → last ≡ middle + 8 + 8 * tri n + 8 * n
        → one ≡ lay out 0 (head_bytes (merged_of (system_in_file a) (system_in_file b))) → two ≡ lay one middle (middle_bytes (merged_of (system_in_file a) (system_in_file b)))
        → three ≡ lay two last (last_bytes (merged_of (system_in_file a) (system_in_file b))) → three ≡ lay out 0 (normal_bytes (merged_of (system_in_file a) (system_in_file b)))
    file_put out one two three middle last p q e f g =
        let z = merged_of (system_in_file a) (system_in_file b) in
        let c : length z.arcs ≡ m = arcs_count in
        let d : length z.labels ≡ n = labels_count a x ka b y kb n j.count in
        let s : length z.matrix ≡ tri n = matrix_count a x ka b y kb n j.count in
        let r : length z.rights ≡ n = rights_count a x ka b y kb n j.count in
        g ∙ ap (λ t. lay t last (last_bytes z)) (f ∙ ap (λ t. lay t middle (middle_bytes z)) e) ∙ file_laid z out middle last (omega arith) (omega arith)

-- ---- the sums
module _ (a : List ℕ) (x : NormalRead) (ka : Known a x) (b : List ℕ) (y : NormalRead) (kb : Known b y) (n : ℕ) (ta tb : List ℕ) (j : Located a b n ta tb) where
  pub middle_put : (out one two three four : List ℕ) (at sums next : ℕ) → sums ≡ tri n → next ≡ at + 4 + 8 * sums → one ≡ lay out at (bytes_of 4 sums)
      → two ≡ lay one (at + 4) (encoded (signed_bytes w64) (columns_of (both_places a x.matrix ta b y.matrix tb) 0 n))
      → three ≡ lay two next (bytes_of 4 n)
      → four ≡ lay three (next + 4) (encoded (signed_bytes w64) (rows_of (both_sides a (record { base = x.rights; rows = x.stored }) ta b (record { base = y.rights; rows = y.stored }) tb) 0 n))
      → four ≡ lay out at (middle_bytes (merged_of (system_in_file a) (system_in_file b)))
  unfolding middle_bytes sum_bytes
  middle_put out one two three four at sums next p q e f g h =
      let z = merged_of (system_in_file a) (system_in_file b) in
      let s : length z.matrix ≡ tri n = matrix_count a x ka b y kb n j.count in
      h
      ∙ ap₂ (λ t l. lay t (next + 4) (encoded (signed_bytes w64) l))
      (g ∙ ap₂ (λ t k. lay t next (bytes_of 4 k))
      (f ∙ ap₂ (λ t l. lay t (at + 4) (encoded (signed_bytes w64) l)) (e ∙ ap (λ k. lay out at (bytes_of 4 k)) (p ∙ sym s)) (matrix_written a x ka b y kb n ta tb j))
      (sym (rights_count a x ka b y kb n j.count)))
      (rights_written a x ka b y kb n ta tb j)
      ∙ two_laid sum_bytes 8 length_sum sum_bytes 8 length_sum z.matrix z.rights out at next (next + 4) (omega arith) refl

-- ---- the totals
module _ (a : List ℕ) (x : NormalRead) (ka : Known a x) (b : List ℕ) (y : NormalRead) (kb : Known b y) where
  pub totals_fit : ((system_in_file a).accepted + (system_in_file b).accepted < 2 ^ 64) × ((system_in_file a).square + (system_in_file b).square < 2 ^ 64)
  totals_fit =
      let p = judged (system_in_file a) ka.whole.sums in
      let q = judged (system_in_file b) kb.whole.sums in
      let m : length (system_in_file a).arcs ≤ 16 = ka.whole.few_arcs in
      let n : length (system_in_file b).arcs ≤ 16 = kb.whole.few_arcs in (
        omega (arith, p.accepted, q.accepted),
        omega (arith, p.square, q.square, bound_most (length (system_in_file a).arcs) (system_in_file a).accepted file_square_unit, bound_most (length (system_in_file b).arcs) (system_in_file b).accepted file_square_unit),
      )

  pub last_put : (out one two three : List ℕ) (at n q : ℕ) → n ≡ (system_in_file a).accepted + (system_in_file b).accepted → q ≡ (system_in_file a).square + (system_in_file b).square
      → one ≡ lay out at (bytes_of 4 1) → two ≡ lay one (at + 4) (bytes_of 8 n) → three ≡ lay two (at + 12) (bytes_of 8 q)
      → three ≡ lay out at (last_bytes (merged_of (system_in_file a) (system_in_file b)))
  last_put out one two three at n q p r e f g =
      g ∙ ap (λ t. lay t (at + 12) (bytes_of 8 q)) (f ∙ ap (λ t. lay t (at + 4) (bytes_of 8 n)) e)
      ∙ last_laid (merged_of (system_in_file a) (system_in_file b)) out at n q (p ∙ sym (merged_accepted (system_in_file a) (system_in_file b))) (r ∙ sym (merged_square (system_in_file a) (system_in_file b)))

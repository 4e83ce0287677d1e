-- A normal file of either form that was written of what it stores reads back; and how long it is.
-- Assumes nothing.
use Prim.Native.Nat.{ℕ, suc, ◌+◌, ◌*◌, ◌^◌, ◌≤◌, ◌<◌, zero-le, suc-le-suc}
use mathlib.Core.Path.{◌≡◌, refl, sym, ap, ◌∙◌}
use mathlib.Core.List.{List, [], ◌∷◌, ◌++◌, append_assoc, append-nil}
use mathlib.Core.Bool.{Bool, true, not}
use native.Mathlib.Omega.{arith}
use native.Mathlib.Nat.{le_refl, mul-le-mul}
use lib.IntN.{pos}
use lib.ListN.{length, get_or, length-append}
use mir.Syntax.{w64}
use mir.Val.{SFits}
use Rattle.num_whole.specs.Answer.{good}
use Rattle.num_whole.specs.Tests.{same, between}
use Rattle.num_whole.specs.Lists.{all, Each}
use Rattle.num_whole.proofs.Cases.{yes, no, not_less, not_same, between_true, by_cases}
use Rattle.byte_words.specs.Words.{word, bytes_of}
use Rattle.byte_words.proofs.Words.{length_bytes_of}
use Rattle.byte_section.specs.Section.{Kind, section_at, closed, encoded}
use Rattle.byte_section.proofs.Walk.{then_good}
use Rattle.byte_section.proofs.Trips.{Chain, length_encoded}
use Rattle.byte_section.proofs.Written.{each_of, chain, section_at_lem}
use Rattle.num_packed.specs.Triangle.{tri}
use Rattle.num_packed.proofs.Places.{tri_twice}
use Rattle.norm_system.specs.System.{System, arc_ok, normal_label_ok}
use Rattle.norm_kinds.specs.Kinds.{arc_number_bytes, arc_kind, sum_bytes, sum_kind, Totals, totals_bytes, totals_kind}
use Rattle.norm_kinds.proofs.Records.{length_arc, length_fielded, length_sum, length_totals, arc_back, Fitting, field_back, fielded_back, sum_back, totals_back}
use Rattle.norm_kinds.specs.Bytes.{sectioned, file_bytes}
use Rattle.norm_kinds.specs.Kinds.{Fielded, field_ok, fielded_bytes, fielded_kind, is_small_form, stored_of}
use Rattle.norm_read.specs.Normal.{Normal, normal_from, at_where, soundly, read_normal}
use Rattle.norm_kinds.proofs.Stored.{stored_few}
use Rattle.norm_system.proofs.Sound.{stored_sound, matrix_fits, rights_fit, accepted_fits, square_fits}
use Rattle.norm_read.proofs.Sections.{SoundNormal}

-- ---- lists of records that may stand in a section
each_at : {A : Type 0} (P : A → Type 0) (d : A) (l : List A) → ((k : ℕ) → k < length l → P (get_or l k d)) → Each P l
each_at P d [] h = tt
each_at P d (a ∷ l) h = (h 0 (suc-le-suc zero-le), each_at P d l (λ k m. h (suc k) (suc-le-suc m)))

fitting : (small : Bool) (arcs : List ℕ) (l : List Fielded) → all arc_ok arcs ≡ true → Each (λ m. normal_label_ok arcs m.label ≡ true) l
    → Each (λ m. field_ok small m.field ≡ true) l → Each (λ m. SFits w64 m.label.estimate) l → Each (Fitting small arcs) l
fitting small arcs [] ok p o q = tt
fitting small arcs (a ∷ l) ok p o q =
    (record { labelled = record { listed = ok; ok = p.0; estimate = q.0 }; field = o.0 }, fitting small arcs l ok p.1 o.1 q.1)

flat_chain : {A : Type 0} (K : Kind A) (bytes : A → List ℕ) (Held : A → Type 0) → ((a : A) → K.after a ≡ 0) → (l : List A) → Each Held l → Chain K bytes Held 0 l
flat_chain K bytes Held flat [] p = tt
flat_chain K bytes Held flat (a ∷ l) p = (p.0, (zero-le, rw (flat a) (flat_chain K bytes Held flat l p.1)))

-- the first field tells the form
form_of : (small : Bool) (n : ℕ) → field_ok small n ≡ true → not (same n 0) ≡ small
unfolding field_ok
form_of small n e =
    by_cases small
    (λ t. let r = between_true 1 n 2 (yes _ (between 1 n 2) (same n 0) t refl ∙ e) in ap not (not_same n 0 (λ z. low z r.0)) ∙ sym t)
    (λ t. ap not (no _ (between 1 n 2) (same n 0) t refl ∙ e) ∙ sym t)
  where
    low : {m : ℕ} → m ≡ 0 → 1 ≤ m → ⊥
    low z h = omega arith

-- ---- a file's sections
module _ (l : List Fielded) (x : System) where
  abbrev totals : Totals
  totals = record { accepted = x.accepted; square = x.square }

  abbrev totals_on : List ℕ
  totals_on = sectioned totals_bytes (totals ∷ []) []

  abbrev rights_on : List ℕ
  rights_on = sectioned sum_bytes x.rights totals_on

  abbrev matrix_on : List ℕ
  matrix_on = sectioned sum_bytes x.matrix rights_on

  abbrev labels_on : List ℕ
  labels_on = sectioned fielded_bytes l matrix_on

  abbrev before_labels : List ℕ
  before_labels = sectioned arc_number_bytes x.arcs []

  abbrev before_matrix : List ℕ
  before_matrix = before_labels ++ sectioned fielded_bytes l []

  abbrev before_rights : List ℕ
  before_rights = before_matrix ++ sectioned sum_bytes x.matrix []

  abbrev before_totals : List ℕ
  before_totals = before_rights ++ sectioned sum_bytes x.rights []

  as_arcs : file_bytes l x ≡ [] ++ sectioned arc_number_bytes x.arcs labels_on
  unfolding file_bytes
  as_arcs = refl

  as_labels : file_bytes l x ≡ before_labels ++ labels_on
  unfolding file_bytes
  as_labels = simp (append_assoc, append-nil)

  as_matrix : file_bytes l x ≡ before_matrix ++ matrix_on
  unfolding file_bytes
  as_matrix = simp (append_assoc, append-nil)

  as_rights : file_bytes l x ≡ before_rights ++ rights_on
  unfolding file_bytes
  as_rights = simp (append_assoc, append-nil)

  as_totals : file_bytes l x ≡ before_totals ++ totals_on
  unfolding file_bytes
  as_totals = simp (append_assoc, append-nil)

  -- where each begins
  abbrev labels_from : ℕ
  labels_from = 0 + 4 + length x.arcs * 4

  abbrev matrix_from : ℕ
  matrix_from = labels_from + 4 + length l * 24

  abbrev rights_from : ℕ
  rights_from = matrix_from + 4 + length x.matrix * 8

  abbrev totals_from : ℕ
  totals_from = rights_from + 4 + length x.rights * 8

  long_arcs : length (encoded arc_number_bytes x.arcs) ≡ length x.arcs * 4
  long_arcs = length_encoded arc_number_bytes 4 length_arc x.arcs

  long_labels : length (encoded fielded_bytes l) ≡ length l * 24
  long_labels = length_encoded fielded_bytes 24 length_fielded l

  long_matrix : length (encoded sum_bytes x.matrix) ≡ length x.matrix * 8
  long_matrix = length_encoded sum_bytes 8 length_sum x.matrix

  long_rights : length (encoded sum_bytes x.rights) ≡ length x.rights * 8
  long_rights = length_encoded sum_bytes 8 length_sum x.rights

  at_labels : length before_labels ≡ labels_from
  at_labels = simp (length-append, length_bytes_of, long_arcs) (omega arith)

  at_matrix : length before_matrix ≡ matrix_from
  at_matrix = simp (length-append, length_bytes_of, long_arcs, long_labels) (omega arith)

  at_rights : length before_rights ≡ rights_from
  at_rights = simp (length-append, length_bytes_of, long_arcs, long_labels, long_matrix) (omega arith)

  at_totals : length before_totals ≡ totals_from
  at_totals = simp (length-append, length_bytes_of, long_arcs, long_labels, long_matrix, long_rights) (omega arith)

  -- how long the file is
  pub length_file : length (file_bytes l x) ≡ totals_from + 4 + 1 * 16
  unfolding encoded
  length_file = ap length as_totals ∙ length-append before_totals totals_on ∙ simp (at_totals, length-append, length_bytes_of, length_totals) (omega arith)

-- the first label's field
first_field : (small : Bool) (l : List Fielded) (x : System) → 1 ≤ length l → Each (Fitting small x.arcs) l → is_small_form (file_bytes l x) (labels_from l x) ≡ small
unfolding is_small_form encoded
first_field small [] x some p = absurd (none some)
  where
    none : 1 ≤ 0 → ⊥
    none h = omega arith
first_field small (m ∷ l) x some p =
    ap (λ n. not (same n 0)) here ∙ form_of small m.field p.0.field
  where
    pre : List ℕ
    pre = before_labels (m ∷ l) x ++ bytes_of 4 (length (m ∷ l))

    post : List ℕ
    post = encoded fielded_bytes l ++ matrix_on (m ∷ l) x

    split : file_bytes (m ∷ l) x ≡ pre ++ (fielded_bytes m ++ post)
    split = as_labels (m ∷ l) x ∙ simp append_assoc

    place : length pre + 12 ≡ labels_from (m ∷ l) x + 16
    place =
        let a : length pre ≡ labels_from (m ∷ l) x + 4 = length-append (before_labels (m ∷ l) x) _ ∙ ap (λ n. n + length (bytes_of 4 (length (m ∷ l)))) (at_labels (m ∷ l) x) ∙ ap (λ n. labels_from (m ∷ l) x + n) (length_bytes_of 4 _) in
        omega arith

    here : word 4 (file_bytes (m ∷ l) x) (labels_from (m ∷ l) x + 16) ≡ m.field
    here = ap (λ s. word 4 s (labels_from (m ∷ l) x + 16)) split ∙ ap (word 4 (pre ++ (fielded_bytes m ++ post))) (sym place) ∙ field_back small x.arcs pre m post p.0

-- ---- written, then read
module _ (f : Normal) (k : SoundNormal f) (held : Each (λ m. SFits w64 m.label.estimate) f.fielded) where
  abbrev x : System
  x = f.stored

  abbrev l : List Fielded
  l = f.fielded

  -- the places are those of the numbers of arcs, parameters and stored ones
  abbrev pub placed_as : Normal
  placed_as =
      let p = length x.labels in
      let m = 12 + 4 * length x.arcs + 24 * length l in
      let r = m + 8 * tri p + 4 in
      normal_from f.small l x m r (r + 8 * p + 4)

  few_stored : length x.labels ≤ 500
  few_stored =
      let a : length (stored_of l) ≤ length l = stored_few l in
      let b : length x.labels ≡ length (stored_of l) = ap length k.stored_labels in
      omega (arith, k.few_labels)

  few_sums : tri (length x.labels) ≤ 125250
  few_sums =
      let p = length x.labels in
      let more : p + 1 ≤ 501 = omega (arith, few_stored) in
      let most : p * (p + 1) ≤ 500 * 501 = mul-le-mul few_stored more in
      omega (arith, tri_twice p)

  fits : Each (Fitting f.small x.arcs) l
  fits =
      fitting f.small x.arcs l k.arcs (each_of (λ m. normal_label_ok x.arcs m.label) l k.labels)
      (each_of (λ m. field_ok f.small m.field) l k.fields) held

  at_places : (small : Bool) (labels : List Fielded) (y : System) (m r t : ℕ) → small ≡ f.small → labels ≡ l → y ≡ x → m ≡ placed_as.matrix → r ≡ placed_as.rights → t ≡ placed_as.totals
      → normal_from small labels y m r t ≡ placed_as
  at_places small labels y m r t a b c d e g = rw (a, b, c, d, e, g)

  pub file_read : read_normal (file_bytes l x) ≡ good placed_as
  unfolding read_normal closed soundly at_where
  file_read =
      let s = file_bytes l x in
      let p = length (stored_of l) in
      let pp : length x.labels ≡ p = ap length k.stored_labels in
      let o = (stored_sound f.small x k.sums).0 in
      let form : is_small_form s (labels_from l x) ≡ f.small = first_field f.small l x k.some_labels fits in
      let a : section_at arc_kind s 1 16 0 ≡ good (record { items = x.arcs; next = labels_from l x }) =
      section_at_lem arc_kind arc_number_bytes (λ a. arc_ok a ≡ true) length_arc arc_back x.arcs [] (labels_on l x) s 0 1 16 (as_arcs l x) refl
      (chain arc_kind arc_number_bytes (λ a. arc_ok a ≡ true) (λ a. refl) 0 x.arcs (each_of arc_ok x.arcs k.arcs) k.arcs_up)
      k.some_arcs k.few_arcs (omega (arith, k.few_arcs)) in
      let K = fielded_kind f.small x.arcs in
      let b₀ : section_at K s 1 500 (labels_from l x) ≡ good (record { items = l; next = matrix_from l x }) =
      section_at_lem K fielded_bytes (Fitting f.small x.arcs) length_fielded (fielded_back f.small x.arcs) l (before_labels l x) (matrix_on l x) s _ 1 500 (as_labels l x) (at_labels l x)
      (chain K fielded_bytes (Fitting f.small x.arcs) (λ l. refl) 0 l fits k.labels_up)
      k.some_labels k.few_labels (omega (arith, k.few_labels)) in
      let b : section_at (fielded_kind (is_small_form s (labels_from l x)) x.arcs) s 1 500 (labels_from l x) ≡ good (record { items = l; next = matrix_from l x }) =
      ap (λ t. section_at (fielded_kind t x.arcs) s 1 500 (labels_from l x)) form ∙ b₀ in
      let m : section_at sum_kind s (tri p) (tri p) (matrix_from l x) ≡ good (record { items = x.matrix; next = rights_from l x }) =
      section_at_lem sum_kind sum_bytes (SFits w64) length_sum sum_back x.matrix (before_matrix l x) (rights_on l x) s _ (tri p) (tri p) (as_matrix l x) (at_matrix l x)
      (flat_chain sum_kind sum_bytes (SFits w64) (λ a. refl) x.matrix (each_at (SFits w64) (pos 0) x.matrix (matrix_fits x k.few_arcs k.matrix k.rights o)))
      (omega (arith, k.matrix, ap tri pp)) (omega (arith, k.matrix, ap tri pp)) (omega (arith, k.matrix, few_sums)) in
      let r : section_at sum_kind s p p (rights_from l x) ≡ good (record { items = x.rights; next = totals_from l x }) =
      section_at_lem sum_kind sum_bytes (SFits w64) length_sum sum_back x.rights (before_rights l x) (totals_on l x) s _ p p (as_rights l x) (at_rights l x)
      (flat_chain sum_kind sum_bytes (SFits w64) (λ a. refl) x.rights (each_at (SFits w64) (pos 0) x.rights (rights_fit x k.few_arcs k.matrix k.rights o)))
      (omega (arith, k.rights)) (omega (arith, k.rights)) (omega (arith, k.rights, few_stored)) in
      let t : section_at totals_kind s 1 1 (totals_from l x) ≡ good (record { items = totals l x ∷ []; next = totals_from l x + 4 + 1 * 16 }) =
      section_at_lem totals_kind totals_bytes (λ t. (t.accepted < 256 ^ 8) × (t.square < 256 ^ 8)) length_totals totals_back (totals l x ∷ []) (before_totals l x) [] s _ 1 1 (as_totals l x) (at_totals l x)
      ((accepted_fits x k.few_arcs k.matrix k.rights o, square_fits x k.few_arcs k.matrix k.rights o), (zero-le, tt)) (le_refl 1) (le_refl 1) (omega arith) in
      then_good _ _ a ∙ then_good _ _ b ∙ then_good _ _ m ∙ then_good _ _ r ∙ then_good _ _ t
      ∙ then_good _ _ (sym (no _ _ _ (not_less _ _ (omega (arith, length_file l x))) refl))
      ∙ ap (λ y. soundly y)
      (at_places _ _ _ _ _ _ form refl (λ i. record { arcs = x.arcs; labels = sym k.stored_labels i; matrix = x.matrix; rights = x.rights; accepted = x.accepted; square = x.square })
      (omega arith) (omega (arith, k.matrix)) (omega (arith, k.matrix, k.rights)))
      ∙ ap (at_where placed_as) k.sums

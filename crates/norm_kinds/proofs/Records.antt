-- One record of each kind: how long its bytes are, that they are read back, and that what was read is rewritten to the same bytes; a label
-- with its field, of either form.
-- Assumes nothing.
use Prim.Native.Nat.{ℕ, ◌+◌, ◌-◌, ◌^◌, ◌≤◌, ◌<◌}
use mathlib.Core.Path.{◌≡◌, refl, sym, ap, ◌∙◌}
use mathlib.Core.List.{List, [], ◌∷◌, ◌++◌, append_assoc, append-nil}
use mathlib.Core.Bool.{Bool, true}
use native.Mathlib.Omega.{arith}
use lib.IntN.{ℤ}
use lib.ListN.{length, take, drop, length-append}
use mir.Syntax.{w64}
use mir.Val.{SFits, to_z}
use Rattle.num_whole.specs.Tests.{same, between}
use Rattle.num_whole.specs.Lists.{all}
use Rattle.num_whole.proofs.Cases.{yes, no, holds, same_true, between_true, by_cases}
use Rattle.byte_words.specs.Words.{word, bytes_of, signed_word, signed_bytes}
use Rattle.byte_words.proofs.Words.{Bytes, length_bytes_of, word_after, word_bytes_of}
use Rattle.byte_words.proofs.Parts.{signed_back, word_forth, signed_forth, parts_join}
use Rattle.byte_words.proofs.Written.{length_signed, word_first, word_beside}
use Rattle.byte_section.specs.Section.{encoded}
use Rattle.norm_system.specs.System.{arc_ok, normal_label_ok}
use Rattle.norm_system.specs.declared.NormalLabel.{NormalLabel}
use Rattle.norm_system.proofs.Labels.{arc_small, label_small}
use Rattle.norm_kinds.specs.Bytes.{sectioned}
use Rattle.norm_kinds.specs.Kinds.{arc_number_bytes, normal_label_at, normal_label_bytes, Fielded, fielded_at, field_ok, fielded_at_ok, fielded_bytes, sum_bytes, Totals, totals_at, totals_bytes}

-- ---- how long
pub length_arc : (a : ℕ) → length (arc_number_bytes a) ≡ 4
unfolding arc_number_bytes
length_arc a = length_bytes_of 4 a

pub length_label : (l : NormalLabel) → length (normal_label_bytes l) ≡ 24
unfolding normal_label_bytes
length_label l = simp (length-append, length_bytes_of, length_signed)

pub length_fielded : (m : Fielded) → length (fielded_bytes m) ≡ 24
unfolding fielded_bytes
length_fielded m = simp (length-append, length_bytes_of, length_signed)

pub length_sum : (x : ℤ) → length (sum_bytes x) ≡ 8
unfolding sum_bytes
length_sum x = length_signed w64 x

pub length_totals : (t : Totals) → length (totals_bytes t) ≡ 16
unfolding totals_bytes
length_totals t = simp (length-append, length_bytes_of)

-- ---- a label of the old form has the field 0
pub old_fielded : (l : NormalLabel) → fielded_bytes (record { label = l; field = 0 }) ≡ normal_label_bytes l
unfolding fielded_bytes normal_label_bytes
old_fielded l = refl

-- ---- the totals section
pub totals_section : (n q : ℕ) → bytes_of 4 1 ++ (bytes_of 8 n ++ bytes_of 8 q) ≡ sectioned totals_bytes (record { accepted = n; square = q } ∷ []) []
unfolding encoded totals_bytes
totals_section n q = simp (append_assoc, append-nil)

-- ---- written, then read: an arc and a label within their limits, an estimate, sums and totals of 64 bits
pub arc_back : (p : List ℕ) (a : ℕ) (r : List ℕ) → arc_ok a ≡ true
    → (word 4 (p ++ (arc_number_bytes a ++ r)) (length p) ≡ a) × (arc_ok (word 4 (p ++ (arc_number_bytes a ++ r)) (length p)) ≡ true)
unfolding arc_number_bytes
arc_back p a r ok =
    let e : word 4 (p ++ (bytes_of 4 a ++ r)) (length p) ≡ a = word_first 4 p _ ∙ word_bytes_of 4 a r (arc_small a ok) in
    (e, ap arc_ok e ∙ ok)

-- what a label has to be in a file that lists these arcs
pub record Labelled (arcs : List ℕ) (l : NormalLabel) : Type 0 where
  pub listed : all arc_ok arcs ≡ true
  pub ok : normal_label_ok arcs l ≡ true
  pub estimate : SFits w64 l.estimate

-- a field of either form is one of 0, 1 and 2
pub field_few : (small : Bool) (n : ℕ) → field_ok small n ≡ true → n ≤ 2
unfolding field_ok
field_few small n e =
    by_cases small
    (λ t. (between_true 1 n 2 (yes small (between 1 n 2) (same n 0) t refl ∙ e)).1)
    (λ t. let z : n ≡ 0 = same_true n 0 (no small (between 1 n 2) (same n 0) t refl ∙ e) in omega arith)

-- what a label with its field has to be in a file of a form that lists these arcs
pub record Fitting (small : Bool) (arcs : List ℕ) (m : Fielded) : Type 0 where
  pub labelled : Labelled arcs m.label
  pub field : field_ok small m.field ≡ true

fielded_here : (small : Bool) (arcs : List ℕ) (m : Fielded) (r : List ℕ) → Fitting small arcs m
    → (normal_label_at (fielded_bytes m ++ r) 0 ≡ m.label) × (word 4 (fielded_bytes m ++ r) 12 ≡ m.field)
unfolding normal_label_at fielded_bytes signed_word
fielded_here small arcs m r b =
    let l = m.label in
    let h = label_small arcs l b.labelled.listed b.labelled.ok in
    let low : m.field ≤ 2 = field_few small m.field b.field in
    let x6 = signed_bytes w64 l.estimate ++ r in
    let x5 = bytes_of 4 m.field ++ x6 in
    let x4 = bytes_of 4 l.weight ++ x5 in
    let x3 = bytes_of 4 l.arc ++ x4 in
    let x2 = bytes_of 2 l.index ++ x3 in
    let s = bytes_of 2 l.kind ++ x2 in
    let e1 : word 2 s 0 ≡ l.kind = word_bytes_of 2 _ _ h.kind in
    let e2 : word 2 s 2 ≡ l.index = word_beside 2 2 _ x2 0 ∙ word_bytes_of 2 _ _ h.index in
    let e3 : word 4 s 4 ≡ l.arc = word_beside 4 2 _ x2 2 ∙ word_beside 4 2 _ x3 0 ∙ word_bytes_of 4 _ _ h.arc in
    let e4 : word 4 s 8 ≡ l.weight = word_beside 4 2 _ x2 6 ∙ word_beside 4 2 _ x3 4 ∙ word_beside 4 4 _ x4 0 ∙ word_bytes_of 4 _ _ h.weight in
    let e5 : word 4 s 12 ≡ m.field =
    word_beside 4 2 _ x2 10 ∙ word_beside 4 2 _ x3 8 ∙ word_beside 4 4 _ x4 4 ∙ word_beside 4 4 _ x5 0 ∙ word_bytes_of 4 m.field x6 (omega arith) in
    let e6 : word 8 s 16 ≡ word 8 x6 0 =
    word_beside 8 2 _ x2 14 ∙ word_beside 8 2 _ x3 12 ∙ word_beside 8 4 _ x4 8 ∙ word_beside 8 4 _ x5 4 ∙ word_beside 8 4 _ x6 0 in
    (simp (append_assoc, e1, e2, e3, e4, e6, signed_back w64 l.estimate r b.labelled.estimate), simp (append_assoc, e5))

-- the field of a record that was written, where it stands
pub field_back : (small : Bool) (arcs p : List ℕ) (m : Fielded) (r : List ℕ) → Fitting small arcs m → word 4 (p ++ (fielded_bytes m ++ r)) (length p + 12) ≡ m.field
field_back small arcs p m r b = word_after 4 p (fielded_bytes m ++ r) 12 ∙ (fielded_here small arcs m r b).1

pub fielded_back : (small : Bool) (arcs p : List ℕ) (m : Fielded) (r : List ℕ) → Fitting small arcs m
    → (fielded_at (p ++ (fielded_bytes m ++ r)) (length p) ≡ m) × (fielded_at_ok small arcs (p ++ (fielded_bytes m ++ r)) (length p) ≡ true)
unfolding normal_label_at fielded_at fielded_at_ok signed_word
fielded_back small arcs p m r b =
    let h = fielded_here small arcs m r b in
    let e : normal_label_at (p ++ (fielded_bytes m ++ r)) (length p) ≡ m.label = simp (word_first, word_after) h.0 in
    let z : word 4 (p ++ (fielded_bytes m ++ r)) (length p + 12) ≡ m.field = field_back small arcs p m r b in
    ((λ i. record { label = e i; field = z i }), sym (holds _ _ (ap (field_ok small) z ∙ b.field) (sym (ap (normal_label_ok arcs) e ∙ b.labelled.ok))))

pub sum_back : (p : List ℕ) (x : ℤ) (r : List ℕ) → SFits w64 x → (signed_word w64 (p ++ (sum_bytes x ++ r)) (length p) ≡ x) × (true ≡ true)
unfolding sum_bytes signed_word
sum_back p x r f = (ap (to_z w64) (word_first 8 p _) ∙ signed_back w64 x r f, refl)

pub totals_back : (p : List ℕ) (t : Totals) (r : List ℕ) → (t.accepted < 256 ^ 8) × (t.square < 256 ^ 8)
    → (totals_at (p ++ (totals_bytes t ++ r)) (length p) ≡ t) × (true ≡ true)
unfolding totals_at totals_bytes
totals_back p t r f =
    let x2 = bytes_of 8 t.square ++ r in
    let s = bytes_of 8 t.accepted ++ x2 in
    let e1 : word 8 s 0 ≡ t.accepted = word_bytes_of 8 _ _ f.0 in
    let e2 : word 8 s 8 ≡ t.square = word_beside 8 8 _ x2 0 ∙ word_bytes_of 8 _ _ f.1 in
    (simp (append_assoc, word_first, word_after, e1, e2), refl)

-- ---- read, then written
module _ (s : List ℕ) (bounded : Bytes s) (at : ℕ) where
  pub arc_forth : 4 ≤ length s - at → arc_number_bytes (word 4 s at) ≡ take 4 (drop at s)
  unfolding arc_number_bytes
  arc_forth room = word_forth s bounded 4 at (omega arith)

  pub fielded_forth : 24 ≤ length s - at → fielded_bytes (fielded_at s at) ≡ take 24 (drop at s)
  unfolding normal_label_at fielded_at fielded_bytes
  fielded_forth room =
      simp (
        word_forth s bounded 2 at (omega arith),
        word_forth s bounded 2 (at + 2) (omega arith),
        word_forth s bounded 4 (at + 4) (omega arith),
        word_forth s bounded 4 (at + 8) (omega arith),
        word_forth s bounded 4 (at + 12) (omega arith),
        signed_forth s bounded w64 (at + 16) (omega arith),
        parts_join s (at + 12) 4 8 (at + 16) 12 (omega arith) refl,
        parts_join s (at + 8) 4 12 (at + 12) 16 (omega arith) refl,
        parts_join s (at + 4) 4 16 (at + 8) 20 (omega arith) refl,
        parts_join s (at + 2) 2 20 (at + 4) 22 (omega arith) refl,
        parts_join s at 2 22 (at + 2) 24 refl refl,
      )

  pub sum_forth : 8 ≤ length s - at → sum_bytes (signed_word w64 s at) ≡ take 8 (drop at s)
  unfolding sum_bytes
  sum_forth room = signed_forth s bounded w64 at (omega arith)

  pub totals_forth : 16 ≤ length s - at → totals_bytes (totals_at s at) ≡ take 16 (drop at s)
  unfolding totals_at totals_bytes
  totals_forth room =
      simp (
        word_forth s bounded 8 at (omega arith),
        word_forth s bounded 8 (at + 8) (omega arith),
        parts_join s at 8 8 (at + 8) 16 refl refl,
      )

-- A file that was read, from the reader's answer: what it holds stands at the places told; and what unpacking makes of it, by the code's tests.
-- Assumes nothing.
use Prim.Native.Nat.{ℕ, ◌+◌, ◌*◌, ◌≤◌}
use mathlib.Core.Path.{◌≡◌, refl, sym, ap, ap₂, ◌∙◌}
use mathlib.Core.List.{List, [], ◌∷◌, ◌++◌}
use mathlib.Core.Bool.{Bool, true, false}
use native.Mathlib.Omega.{arith}
use lib.IntN.{ℤ}
use lib.ListN.{length, length-map, drop}
use lib.Seq.{sets, sets-eq}
use mir.Syntax.{w64}
use Rattle.num_whole.specs.Answer.{Judged, good, bad}
use Rattle.num_whole.specs.Tests.{pick}
use Rattle.num_whole.proofs.Cases.{yes, no, by_cases}
use Rattle.byte_words.specs.Words.{word, signed_word, lay}
use Rattle.byte_words.proofs.Words.{lay_front}
use Rattle.byte_section.proofs.Walk.{then_good, then_bad}
use Rattle.num_packed.specs.Triangle.{tri}
use Rattle.norm_system.specs.System.{System}
use Rattle.norm_sum.specs.Sums.{sums_at}
use Rattle.byte_words.proofs.Stands.{length_stands}
use Rattle.byte_section.specs.Section.{encoded}
use Rattle.norm_labels.specs.Table.{rows_of, columns_of}
use Rattle.norm_labels.specs.Labels.{on_labels}
use Rattle.norm_kinds.specs.Kinds.{labels_in, fielded_at, stored_of}
use Rattle.norm_read.specs.Normal.{Normal, read_normal, numbers_in, numbers_of}
use Rattle.norm_read.specs.declared.NormalRead.{NormalRead}
use Rattle.norm_heads.specs.Heads.{arcs_at}
use Rattle.norm_read.proofs.Sections.{accepted_normal}
use Rattle.norm_read.proofs.Told.{told_good}
use Rattle.norm_read.proofs.Held.{up}
use Rattle.norm_read.proofs.Accepted.{accepted_sound, labels_stand, accepted_standing}
use Rattle.norm_read.proofs.Back.{all_stored, holds_stored}
use Rattle.norm_spread.specs.Spread.{stored_before, spread_row_at, spread_column_at}
use Rattle.norm_spread.proofs.Meaning.{matrix_is, rights_is}
use Rattle.num_whole.specs.Lists.{over}
use Rattle.norm_room.specs.Room.{heads_long, label_numbers, heads_of, roomy_for}
use Rattle.norm_unpack.specs.Parts.{stored_stands_at, normal_at, label_numbers_from, heads_at}
use Rattle.norm_unpack.specs.Unpack.{roomily, unpack_normal, filled, matrix_of, rights_of}
use Rattle.norm_unpack.proofs.Laid.{long_heads}

-- ---- from the reader's answer

-- an accepted file is what stands at its places
module _ (s : List ℕ) (x : Normal) (e : read_normal s ≡ good x) where
  stored_is : x.stored ≡ stored_stands_at s (length x.holds.arcs) (length x.holds.labels) (length x.stored.labels) x.matrix x.rights x.totals
  unfolding on_labels
  stored_is =
      let t = accepted_standing s x e in
      let k = accepted_normal s x e in
      let arcs = t.stored_arcs ∙ t.arcs in
      let labels = t.stored_labels ∙ ap stored_of t.fielded in
      let accepted : x.stored.accepted ≡ word 8 s x.totals = ap (λ y. y.accepted) k.held ∙ t.accepted in
      let square : x.stored.square ≡ word 8 s (x.totals + 8) = ap (λ y. y.square) k.held ∙ t.square in
      (λ i. record { arcs = arcs i; labels = labels i; matrix = t.matrix i; rights = t.rights i; accepted = accepted i; square = square i })

  standing : x ≡ normal_at s (numbers_in x)
  standing =
      let t = accepted_standing s x e in
      let held = sym (accepted_normal s x e).held ∙ ap₂ (λ l y. on_labels (labels_in l) y) t.fielded stored_is in
      (λ i. record {
        small = x.small;
        fielded = t.fielded i;
        stored = stored_is i;
        holds = held i;
        matrix = x.matrix;
        rights = x.rights;
        totals = x.totals;
      })

pub taken : (s : List ℕ) (r : NormalRead) → numbers_of (read_normal s) ≡ good r → read_normal s ≡ good (normal_at s r)
taken s r t =
    let x = told_good _ r t in
    x.1 ∙ ap good (standing s x.0 x.1 ∙ ap (normal_at s) (sym x.2))

-- ---- the file's own refusal
module _ (s : List ℕ) (heads matrix rights number place : ℕ) (e : read_normal s ≡ bad number place) where
  pub unpack_refused : unpack_normal s heads matrix rights ≡ bad number place
  unfolding unpack_normal
  unpack_refused = then_bad _ _ e

-- a room as it was
pub left_refused : {A : Type 0} (f : System → List A) (j : Judged Normal) {number place : ℕ} → j ≡ bad number place → (room : List A) → room ≡ filled f j room
unfolding filled
left_refused f j e room = rw e

-- sums put at the front of a room
sums_left : {A : Type 0} (l room : List A) → length l ≤ length room → sets room 0 l ≡ over l room
unfolding over
sums_left l room h =
    let z : 0 + length l ≡ length l = omega arith in
    sets-eq l room 0 (omega arith) ∙ ap (λ n. l ++ drop n room) z

-- ---- a file that was read
module _ (s : List ℕ) (k : NormalRead) (e : read_normal s ≡ good (normal_at s k)) where
  abbrev file : Normal
  file = normal_at s k

  abbrev a : ℕ
  a = k.arcs

  abbrev p : ℕ
  p = k.parameters

  abbrev n : ℕ
  n = k.stored

  abbrev small : Bool
  small = k.is_small

  abbrev m : ℕ
  m = k.matrix

  abbrev r : ℕ
  r = k.rights

  abbrev t : ℕ
  t = k.totals

  abbrev labels : ℕ
  labels = 8 + 4 * a

  many_arcs : length file.holds.arcs ≡ a
  unfolding on_labels
  many_arcs = length_stands (word 4 s) 4 a 4

  many_labels : length file.holds.labels ≡ p
  unfolding on_labels
  many_labels = length-map file.fielded (λ m. m.label) ∙ length_stands (fielded_at s) 24 p labels

  many_stored : length file.stored.labels ≡ n
  many_stored =
      let d = accepted_standing s _ e in
      sym (length_stands (signed_word w64 s) 8 (length file.stored.labels) r) ∙ ap length (sym d.rights) ∙ length_stands (signed_word w64 s) 8 n r

  -- its numbers, and where its parts end
  pub record Known : Type 0 where
    pub few_arcs : a ≤ 16
    pub few : p ≤ 500
    pub labels_end : 8 + 4 * a + 24 * p ≤ length s
    pub matrix_in : m ≤ length s
    pub rights_in : r ≤ length s
    pub matrix_end : small ≡ false → m + 8 * tri p ≤ length s
    pub rights_end : small ≡ false → r + 8 * p ≤ length s
    pub totals_end : t + 16 ≤ length s

  -- in the old form all are stored
  old_many : small ≡ false → n ≡ p
  unfolding on_labels
  old_many old = sym many_stored ∙ ap length (all_stored s file e old) ∙ many_labels

  pub known : Known
  known =
      let o = accepted_sound s _ e in
      let d = accepted_standing s _ e in
      let sums : tri (length file.stored.labels) ≡ tri n = ap tri many_stored in
      let one : m ≡ 12 + 4 * a + 24 * p = omega (arith, d.matrix_at, many_arcs, many_labels) in
      let two : r ≡ m + 8 * tri n + 4 = omega (arith, d.rights_at, sums) in
      let three : t ≡ r + 8 * n + 4 = omega (arith, d.totals_at_lem, many_stored) in
      let four : length s ≡ t + 16 = d.long in
      record {
        few_arcs = omega (arith, o.few_arcs, many_arcs);
        few = omega (arith, o.few_labels, many_labels);
        labels_end = omega arith;
        matrix_in = omega arith;
        rights_in = omega arith;
        matrix_end = λ old. let same : tri n ≡ tri p = ap tri (old_many old) in omega arith;
        rights_end = λ old. let same : n ≡ p = old_many old in omega arith;
        totals_end = omega arith;
      }

  module _ (heads matrix rights : ℕ) where
    roomy_same : roomy_for (length file.holds.arcs) (length file.holds.labels) heads matrix rights ≡ roomy_for a p heads matrix rights
    roomy_same = ap₂ (λ x y. roomy_for x y heads matrix rights) many_arcs many_labels

    pub unpack_good : roomy_for a p heads matrix rights ≡ true → unpack_normal s heads matrix rights ≡ good file
    unfolding unpack_normal roomily
    unpack_good h = then_good _ _ e ∙ sym (yes _ _ _ (roomy_same ∙ h) refl)

    pub unpack_bad : roomy_for a p heads matrix rights ≡ false → unpack_normal s heads matrix rights ≡ bad 20 (length s)
    unfolding unpack_normal roomily
    unpack_bad h = then_good _ _ e ∙ sym (no _ _ _ (roomy_same ∙ h) refl)

  -- what is told and left
  pub numbers_same : k ≡ numbers_in file
  numbers_same = λ i. record { arcs = sym many_arcs i; parameters = sym many_labels i; stored = sym many_stored i; is_small = small; matrix = m; rights = r; totals = t }

  pub heads_left : (h : List ℕ) → heads_long a p ≤ length h → lay h 0 (heads_at s a p t) ≡ filled heads_of (good file) h
  unfolding filled heads_of over heads_at label_numbers_from on_labels
  heads_left h f =
      lay_front h (heads_at s a p t) (omega (arith, long_heads s a p t))
      ∙ ap (λ l. over (arcs_at s a ++ (encoded label_numbers l ++ (word 8 s t ∷ word 8 s (t + 8) ∷ []))) h) (sym (labels_stand s p labels))

  -- the sums that are held
  all_matrix : pick small (columns_of (spread_column_at s labels m) 0 p) (sums_at s m (tri p)) ≡ file.holds.matrix
  unfolding stored_before
  all_matrix =
      let k = accepted_normal s _ e in
      by_cases small
      (λ c. sym (yes _ _ _ c refl) ∙ matrix_is s labels p (up file k) file.stored refl m (accepted_standing s _ e).matrix)
      (λ c. sym (no _ _ _ c refl) ∙ ap (λ q. sums_at s m (tri q)) (sym (old_many c)) ∙ ap (λ (y : System). y.matrix) (sym (holds_stored s file e c)))

  all_rights : pick small (rows_of (spread_row_at s labels r) 0 p) (sums_at s r p) ≡ file.holds.rights
  unfolding stored_before
  all_rights =
      let k = accepted_normal s _ e in
      by_cases small
      (λ c. sym (yes _ _ _ c refl) ∙ rights_is s labels p (up file k) file.stored refl r (accepted_standing s _ e).rights)
      (λ c. sym (no _ _ _ c refl) ∙ ap (sums_at s r) (sym (old_many c)) ∙ ap (λ (y : System). y.rights) (sym (holds_stored s file e c)))

  pub matrix_left : (room : List ℤ) → tri p ≤ length room
      → sets room 0 (pick small (columns_of (spread_column_at s labels m) 0 p) (sums_at s m (tri p))) ≡ filled matrix_of (good file) room
  unfolding filled
  matrix_left room h =
      let o = accepted_sound s _ e in
      let long : length file.holds.matrix ≡ tri p = o.matrix ∙ ap tri many_labels in
      ap (sets room 0) all_matrix ∙ sums_left file.holds.matrix room (omega arith)

  pub rights_left : (room : List ℤ) → p ≤ length room
      → sets room 0 (pick small (rows_of (spread_row_at s labels r) 0 p) (sums_at s r p)) ≡ filled rights_of (good file) room
  unfolding filled
  rights_left room h =
      let o = accepted_sound s _ e in
      let long : length file.holds.rights ≡ p = o.rights ∙ many_labels in
      ap (sets room 0) all_rights ∙ sums_left file.holds.rights room (omega arith)

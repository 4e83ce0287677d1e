-- What a normal file of either form that was read is, section by section; and what that makes of it apart from its bytes.
-- Assumes nothing.
use Prim.Native.Nat.{ℕ, ◌+◌, ◌≤◌}
use mathlib.Core.Path.{◌≡◌, refl, sym, ap, ◌∙◌, subst}
use mathlib.Core.List.{List}
use mathlib.Core.Bool.{true}
use native.Mathlib.Omega.{arith}
use lib.IntN.{ℤ}
use lib.ListN.{length, get_or}
use mir.Syntax.{w64}
use mir.Val.{SFits}
use mir.ValLaws.{to_z-Fits}
use Rattle.num_whole.specs.Answer.{good}
use Rattle.num_whole.specs.Lists.{Each, all, ascend}
use Rattle.num_whole.proofs.Cases.{less_false, both_first, both_second}
use Rattle.byte_words.specs.Words.{signed_word}
use Rattle.byte_words.proofs.Words.{Bytes, word_small}
use Rattle.byte_section.specs.Section.{Kind, Run, section_at, closed}
use Rattle.byte_section.proofs.Walk.{good_same, not_bad, pick_read, then_read}
use Rattle.byte_section.proofs.Read.{section_read, records_each, records_all, records_ascend}
use Rattle.num_packed.specs.Triangle.{tri}
use Rattle.norm_system.specs.System.{arc_ok, normal_label_ok, Where, nowhere, in_matrix, in_rights, in_accepted, in_square, unsound_stored}
use Rattle.norm_labels.specs.Labels.{on_labels}
use Rattle.norm_kinds.specs.Kinds.{arc_kind, normal_label_at, Fielded, labels_in, fielded_key, fielded_at, field_ok, fielded_at_ok, fielded_kind, is_small_form, stored_of, sum_kind, Totals, no_totals, totals_kind}
use Rattle.norm_read.specs.Normal.{Normal, system_from, normal_from, exactly, at_where, soundly, read_normal}

-- ---- its five sections
pub record Sections (s : List ℕ) (x : Normal) : Type 0 where
  pub arcs : Run ℕ
  pub labels : Run Fielded
  pub matrix : Run ℤ
  pub rights : Run ℤ
  pub totals : Run Totals
  pub first : section_at arc_kind s 1 16 0 ≡ good arcs
  pub second : section_at (fielded_kind (is_small_form s arcs.next) arcs.items) s 1 500 arcs.next ≡ good labels
  pub third : exactly sum_kind s (tri (length (stored_of labels.items))) labels.next ≡ good matrix
  pub fourth : exactly sum_kind s (length (stored_of labels.items)) matrix.next ≡ good rights
  pub fifth : exactly totals_kind s 1 rights.next ≡ good totals
  pub last : length s ≤ totals.next
  pub is :
      normal_from (is_small_form s arcs.next) labels.items
      (system_from arcs.items (stored_of labels.items) matrix.items rights.items (get_or totals.items 0 no_totals))
      (labels.next + 4) (matrix.next + 4) (rights.next + 4)
      ≡ x
  pub sound : unsound_stored x.small x.stored ≡ nowhere

where_read : (y x : Normal) (w : Where) → at_where y w ≡ good x → (w ≡ nowhere) × (y ≡ x)
unfolding at_where
where_read y x nowhere e = (refl, good_same e)
where_read y x (in_matrix k) e = absurd (not_bad (sym e))
where_read y x (in_rights k) e = absurd (not_bad (sym e))
where_read y x in_accepted e = absurd (not_bad (sym e))
where_read y x in_square e = absurd (not_bad (sym e))

pub read_sections : (s : List ℕ) (x : Normal) → read_normal s ≡ good x → Sections s x
unfolding read_normal closed soundly
read_sections s x e =
    let a = then_read _ _ _ e in
    let b = then_read _ _ _ a.2 in
    let m = then_read _ _ _ b.2 in
    let r = then_read _ _ _ m.2 in
    let t = then_read _ _ _ r.2 in
    let c = then_read _ _ _ t.2 in
    let d = pick_read _ _ _ _ _ c.1 in
    let w = where_read c.0 x _ c.2 in
    record {
      arcs = a.0;
      labels = b.0;
      matrix = m.0;
      rights = r.0;
      totals = t.0;
      first = a.1;
      second = b.1;
      third = m.1;
      fourth = r.1;
      fifth = t.1;
      last = less_false _ _ d.0;
      is = good_same d.1 ∙ w.1;
      sound = ap (λ y. unsound_stored y.small y.stored) (sym w.1) ∙ w.0;
    }

-- ---- what was read, apart from its bytes
pub record SoundNormal (x : Normal) : Type 0 where
  pub some_arcs : 1 ≤ length x.stored.arcs
  pub few_arcs : length x.stored.arcs ≤ 16
  pub arcs : all arc_ok x.stored.arcs ≡ true
  pub arcs_up : ascend (λ a. a) 0 x.stored.arcs ≡ true
  pub some_labels : 1 ≤ length x.fielded
  pub few_labels : length x.fielded ≤ 500
  pub labels : all (λ m. normal_label_ok x.stored.arcs m.label) x.fielded ≡ true
  pub fields : all (λ m. field_ok x.small m.field) x.fielded ≡ true
  pub labels_up : ascend fielded_key 0 x.fielded ≡ true
  pub held : on_labels (labels_in x.fielded) x.stored ≡ x.holds
  pub stored_labels : x.stored.labels ≡ stored_of x.fielded
  pub matrix : length x.stored.matrix ≡ tri (length x.stored.labels)
  pub rights : length x.stored.rights ≡ length x.stored.labels
  pub sums : unsound_stored x.small x.stored ≡ nowhere

module _ (s : List ℕ) (x : Normal) (e : read_normal s ≡ good x) where
  parts : Sections s x
  parts = read_sections s x e

  many_of : {A : Type 0} (K : Kind A) (n at : ℕ) (r : Run A) → exactly K s n at ≡ good r → length r.items ≡ n
  many_of K n at r h = let c = (section_read K s n n at r h).count in omega (arith, c.from, c.to)

  pub accepted_normal : SoundNormal x
  unfolding fielded_at_ok fielded_at
  accepted_normal =
      let arcs = parts.arcs.items in
      let K = fielded_kind (is_small_form s parts.arcs.next) arcs in
      let one = section_read arc_kind s 1 16 0 parts.arcs parts.first in
      let two = section_read K s 1 500 parts.arcs.next parts.labels parts.second in
      subst SoundNormal parts.is
      (record {
        some_arcs = one.count.from;
        few_arcs = one.count.to;
        arcs = records_all arc_kind s arc_ok (λ at h. h) _ _ _ parts.arcs one.run;
        arcs_up = records_ascend arc_kind s (λ a. refl) _ _ _ parts.arcs one.run;
        some_labels = two.count.from;
        few_labels = two.count.to;
        labels = records_all K s (λ m. normal_label_ok arcs m.label) (λ at h. both_second _ _ h) _ _ _ parts.labels two.run;
        fields = records_all K s (λ m. field_ok (is_small_form s parts.arcs.next) m.field) (λ at h. both_first _ _ h) _ _ _ parts.labels two.run;
        labels_up = records_ascend K s (λ l. refl) _ _ _ parts.labels two.run;
        held = refl;
        stored_labels = refl;
        matrix = many_of sum_kind _ _ parts.matrix parts.third;
        rights = many_of sum_kind _ _ parts.rights parts.fourth;
        sums = ap (λ y. unsound_stored y.small y.stored) parts.is ∙ parts.sound;
      })

  -- of bytes its estimates are numbers of 64 bits
  pub fielded_estimates : Bytes s → Each (λ m. SFits w64 m.label.estimate) x.fielded
  unfolding fielded_at normal_label_at signed_word
  fielded_estimates bounded =
      let K = fielded_kind (is_small_form s parts.arcs.next) parts.arcs.items in
      let two = section_read K s 1 500 parts.arcs.next parts.labels parts.second in
      subst (λ y. Each (λ m. SFits w64 m.label.estimate) y.fielded) parts.is
      (records_each K s (λ m. SFits w64 m.label.estimate) (λ at. to_z-Fits w64 _ (record { fits = word_small 8 s (at + 16) bounded })) _ _ _ parts.labels two.run)

-- The old form is 01's: a sound system written by 01 reads back, and an accepted file of the old form is written again by 01 to the same bytes.
-- Assumes nothing.
use Prim.Native.Nat.{ℕ, ◌+◌, ◌*◌, ◌≤◌}
use mathlib.Core.Path.{◌≡◌, refl, sym, ap, ap₂, ◌∙◌, subst}
use mathlib.Core.List.{List, [], ◌∷◌, ◌++◌, map}
use mathlib.Core.Bool.{Bool, true, false}
use native.Mathlib.Omega.{arith}
use native.Mathlib.Nat.{mul-le-mul}
use lib.ListN.{length, length-map}
use mir.Syntax.{w64}
use mir.Val.{SFits}
use Rattle.num_whole.specs.Answer.{good}
use Rattle.num_whole.specs.Tests.{up_to, pick, both}
use Rattle.num_whole.specs.Lists.{Each, all, ascend}
use Rattle.num_whole.proofs.Cases.{holds, is_same, not_same, same_true}
use Rattle.byte_words.specs.Words.{bytes_of}
use Rattle.byte_words.proofs.Words.{Bytes}
use Rattle.byte_section.specs.Section.{encoded}
use Rattle.byte_section.proofs.Written.{each_of}
use Rattle.num_packed.specs.Triangle.{tri}
use Rattle.num_packed.proofs.Places.{tri_twice}
use Rattle.norm_system.specs.System.{System, key_of, normal_label_ok, unsound_in}
use Rattle.norm_system.specs.declared.NormalLabel.{NormalLabel}
use Rattle.norm_system.proofs.Sound.{SoundSystem}
use Rattle.norm_labels.specs.Labels.{on_labels}
use Rattle.norm_labels.proofs.Values.{formed}
use Rattle.norm_labels.proofs.On.{on_own}
use Rattle.norm_kinds.specs.Kinds.{arc_number_bytes, normal_label_bytes, Fielded, labels_in, fielded_key, field_ok, fielded_bytes, stored_of, sum_bytes, totals_bytes}
use Rattle.norm_kinds.specs.Bytes.{sectioned, normal_bytes, file_bytes}
use Rattle.norm_kinds.proofs.Long.{length_normal}
use Rattle.norm_kinds.proofs.Stored.{stored_on}
use Rattle.norm_read.specs.Normal.{Normal, read_normal}
use Rattle.norm_read.proofs.Sections.{SoundNormal, accepted_normal}
use Rattle.norm_read.proofs.Forth.{read_written}
use Rattle.norm_read.proofs.Held.{stored_formed}
use Rattle.norm_read.proofs.Whole.{placed_as, file_read}

-- ---- labels of the old form: "The old form has 0 there throughout"
abbrev zero_field : NormalLabel → Fielded
zero_field a = record { label = a; field = 0 }

abbrev pub old_fields : List NormalLabel → List Fielded
old_fields l = map zero_field l

-- they are the labels, all are stored, and their bytes are 01's
pub old_labels : (l : List NormalLabel) → labels_in (old_fields l) ≡ l
old_labels [] = refl
old_labels (a ∷ l) = ap (λ t. a ∷ t) (old_labels l)

zero_apart : ◌≡◌ {A = ℕ} 0 2 → ⊥
zero_apart e = omega arith

pub old_stored : (l : List NormalLabel) → stored_of (old_fields l) ≡ l
unfolding stored_of
old_stored [] = refl
old_stored (a ∷ l) = stored_on (zero_field a) (old_fields l) (not_same 0 2 zero_apart) ∙ ap (λ t. a ∷ t) (old_stored l)

label_bytes_lem : (l : List NormalLabel) → encoded fielded_bytes (old_fields l) ≡ encoded normal_label_bytes l
unfolding encoded fielded_bytes normal_label_bytes
label_bytes_lem [] = refl
label_bytes_lem (a ∷ l) = ap (λ t. normal_label_bytes a ++ t) (label_bytes_lem l)

-- a file with its labels' number and bytes in the midst
abbrev around : System → ℕ → List ℕ → List ℕ
around x n labels =
    sectioned arc_number_bytes x.arcs
    (bytes_of 4 n ++ (labels
    ++ (sectioned sum_bytes x.matrix
    (sectioned sum_bytes x.rights
    (sectioned totals_bytes (record { accepted = x.accepted; square = x.square } ∷ []) [])))))

pub old_bytes : (x : System) → file_bytes (old_fields x.labels) x ≡ normal_bytes x
unfolding file_bytes normal_bytes
old_bytes x = ap₂ (around x) (length-map x.labels zero_field) (label_bytes_lem x.labels)

-- labels whose fields are all those of the old form
only_zeros : (l : List Fielded) → Each (λ m. field_ok false m.field ≡ true) l → l ≡ old_fields (labels_in l)
unfolding field_ok pick
only_zeros [] e = refl
only_zeros (m ∷ l) e = ap₂ (λ n t. record { label = m.label; field = n } ∷ t) (same_true m.field 0 e.0) (only_zeros l e.1)

-- they are judged as the labels are
all_old : (f : NormalLabel → Bool) (l : List NormalLabel) → all (λ m. f m.label) (old_fields l) ≡ all f l
unfolding all
all_old f [] = refl
all_old f (a ∷ l) = ap (both (f a)) (all_old f l)

up_old : (floor : ℕ) (l : List NormalLabel) → ascend fielded_key floor (old_fields l) ≡ ascend key_of floor l
unfolding ascend
up_old floor [] = refl
up_old floor (a ∷ l) = ap (both (up_to floor (key_of a))) (up_old (key_of a + 1) l)

fields_ok_lem : (l : List NormalLabel) → all (λ m. field_ok false m.field) (old_fields l) ≡ true
unfolding all field_ok pick
fields_ok_lem [] = refl
fields_ok_lem (a ∷ l) = sym (holds _ _ (is_same 0 0 refl) (sym (fields_ok_lem l)))

each_old : (P : NormalLabel → Type 0) (l : List NormalLabel) → Each P l → Each (λ m. P m.label) (old_fields l)
each_old P [] e = tt
each_old P (a ∷ l) e = (e.0, each_old P l e.1)

-- ---- how long a normal file can be
abbrev pub longest : ℕ
longest = 1018100

-- ---- a system written by 01
module _ (x : System) where
  -- what is read of it: the places are those of the numbers of arcs and parameters
  abbrev pub placed : Normal
  placed =
      let p = length x.labels in
      let m = 12 + 4 * length x.arcs + 24 * p in
      let r = m + 8 * tri p + 4 in
      record {
        small = false;
        fielded = old_fields x.labels;
        stored = x;
        holds = x;
        matrix = m;
        rights = r;
        totals = r + 8 * p + 4;
      }

  module _ (o : SoundSystem x) where
    few_sums : tri (length x.labels) ≤ 125250
    few_sums =
        let p = length x.labels in
        let more : p + 1 ≤ 501 = omega (arith, o.few_labels) in
        let most : p * (p + 1) ≤ 500 * 501 = mul-le-mul o.few_labels more in
        omega (arith, tri_twice p)

    -- no normal file is longer than one of 16 arcs and 500 parameters
    pub normal_longest : length (normal_bytes x) ≤ longest
    normal_longest = omega (arith, length_normal x, few_sums, o.few_arcs, o.few_labels, o.matrix, o.rights)

    held_own : on_labels (labels_in (old_fields x.labels)) x ≡ x
    held_own = ap (λ l. on_labels l x) (old_labels x.labels) ∙ on_own x (formed x o)

    many : length (old_fields x.labels) ≡ length x.labels
    many = length-map x.labels zero_field

    pub old_sound : SoundNormal placed
    unfolding unsound_in
    old_sound =
        record {
          some_arcs = o.some_arcs;
          few_arcs = o.few_arcs;
          arcs = o.arcs;
          arcs_up = o.arcs_up;
          some_labels = omega (arith, o.some_labels, many);
          few_labels = omega (arith, o.few_labels, many);
          labels = all_old (normal_label_ok x.arcs) x.labels ∙ o.labels;
          fields = fields_ok_lem x.labels;
          labels_up = up_old 0 x.labels ∙ o.labels_up;
          held = held_own;
          stored_labels = sym (old_stored x.labels);
          matrix = o.matrix;
          rights = o.rights;
          sums = o.sums;
        }

    module _ (held : Each (λ l. SFits w64 l.estimate) x.labels) where
      -- written, then read
      pub written_read : read_normal (normal_bytes x) ≡ good placed
      written_read =
          ap read_normal (sym (old_bytes x))
          ∙ file_read placed old_sound (each_old (λ l. SFits w64 l.estimate) x.labels held)
          ∙ as_placed
        where
          as_placed : good (placed_as placed old_sound (each_old (λ l. SFits w64 l.estimate) x.labels held)) ≡ good placed
          as_placed =
              (λ i. let p : length (old_fields x.labels) ≡ length x.labels = many in
              good
              (record {
                small = false;
                fielded = old_fields x.labels;
                stored = x;
                holds = held_own i;
                matrix = 12 + 4 * length x.arcs + 24 * p i;
                rights = 12 + 4 * length x.arcs + 24 * p i + 8 * tri (length x.labels) + 4;
                totals = 12 + 4 * length x.arcs + 24 * p i + 8 * tri (length x.labels) + 4 + 8 * length x.labels + 4;
              }))

-- ---- an accepted file of the old form
module _ (s : List ℕ) (x : Normal) (e : read_normal s ≡ good x) (old : x.small ≡ false) where
  kept : SoundNormal x
  kept = accepted_normal s x e

  pub zeros : x.fielded ≡ old_fields (labels_in x.fielded)
  zeros = only_zeros x.fielded (subst (λ b. Each (λ m. field_ok b m.field ≡ true) x.fielded) old (each_of (λ m. field_ok x.small m.field) x.fielded kept.fields))

  -- all its labels have their sums stored
  pub all_stored : x.stored.labels ≡ labels_in x.fielded
  all_stored = kept.stored_labels ∙ ap stored_of zeros ∙ old_stored (labels_in x.fielded)

  -- so that it holds what it stores
  pub holds_stored : x.holds ≡ x.stored
  holds_stored = sym kept.held ∙ ap (λ l. on_labels l x.stored) (sym all_stored) ∙ on_own x.stored (stored_formed x kept)

  -- read, then written by 01
  pub old_written : Bytes s → normal_bytes x.holds ≡ s
  old_written bounded =
      ap normal_bytes holds_stored
      ∙ sym (old_bytes x.stored)
      ∙ ap (λ l. file_bytes l x.stored) (ap old_fields all_stored ∙ sym zeros)
      ∙ read_written s x bounded e

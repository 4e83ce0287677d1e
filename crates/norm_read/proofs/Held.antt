-- What a normal file of either form that was read holds: at any labels what it stores, and so a sound system.
-- Assumes nothing.
use Prim.Native.Nat.{ℕ, ◌≤◌}
use mathlib.Core.Path.{◌≡◌, refl, sym, ap, ◌∙◌, subst}
use mathlib.Core.List.{List, [], ◌∷◌, map}
use mathlib.Core.Bool.{Bool, true, false}
use native.Mathlib.Omega.{arith}
use lib.IntN.{pos, nat_abs}
use lib.ListN.{length, length-map}
use Rattle.num_whole.specs.Tests.{both}
use Rattle.num_whole.specs.Lists.{all}
use Rattle.norm_system.specs.System.{System, has, key_of, normal_label_ok}
use Rattle.norm_system.specs.declared.NormalLabel.{NormalLabel}
use Rattle.norm_system.proofs.Sound.{stored_sound, SoundSystem}
use Rattle.norm_labels.specs.Seats.{ascending}
use Rattle.norm_labels.specs.Labels.{keys_of, value, side, on_labels}
use Rattle.norm_labels.proofs.Ascending.{Asc, asc_to, asc_is}
use Rattle.norm_labels.proofs.Values.{Formed}
use Rattle.norm_labels.proofs.Soundness.{SoundBy, to_labels, to_places, judged, judged_sound}
use Rattle.norm_labels.proofs.On.{on_formed, value_spread, side_spread}
use Rattle.norm_kinds.specs.Kinds.{Fielded, labels_in}
use Rattle.norm_read.specs.Normal.{Normal}
use Rattle.norm_read.proofs.Stored.{all_keys, stored_keys, stored_asc, stored_sub, asc_fielded}
use Rattle.norm_read.proofs.Sections.{SoundNormal}

-- a system of the same sums at any two labels and the same totals is as sound
pub same_by : {b c : ℕ} (x y : System) → ((k l : ℕ) → value x k l ≡ value y k l) → ((k : ℕ) → side x k ≡ side y k) → SoundBy b c y → SoundBy b c x
same_by {b} {c} x y v w s =
    record {
      small = λ k l. subst (λ z. nat_abs z ≤ b) (sym (v k l)) (s.small k l);
      small_side = λ k. subst (λ z. nat_abs z ≤ c) (sym (w k)) (s.small_side k);
      plain = λ k. subst (λ z. z ≡ pos (nat_abs z)) (sym (v k k)) (s.plain k);
      row = λ k l d. v k l ∙ s.row k l (sym (v k k) ∙ d);
      column = λ k l d. v k l ∙ s.column k l (sym (v l l) ∙ d);
      silent = λ k d. w k ∙ s.silent k (sym (v k k) ∙ d);
    }

both_more : (a b c : Bool) → (b ≡ true → c ≡ true) → both a b ≡ true → both a c ≡ true
unfolding both
both_more true b c h e = h e
both_more false b c h e = e

all_labels : (f : NormalLabel → Bool) (l : List Fielded) → all (λ m. f m.label) l ≡ true → all f (labels_in l) ≡ true
unfolding all
all_labels f [] e = refl
all_labels f (m ∷ l) e = both_more (f m.label) _ _ (all_labels f l) e

-- what is stored, on all labels
abbrev pub held_of : Normal → System
held_of f = on_labels (labels_in f.fielded) f.stored

-- ---- the parts that a file holds as it stores them
module _ (f : Normal) where
  pub held_labels : labels_in f.fielded ≡ (held_of f).labels
  unfolding on_labels
  held_labels = refl

  pub held_arcs : (held_of f).arcs ≡ f.stored.arcs
  unfolding on_labels
  held_arcs = refl

  pub held_accepted : (held_of f).accepted ≡ f.stored.accepted
  unfolding on_labels
  held_accepted = refl

  pub held_square : (held_of f).square ≡ f.stored.square
  unfolding on_labels
  held_square = refl

module _ (f : Normal) (k : SoundNormal f) where
  abbrev ls : List NormalLabel
  ls = labels_in f.fielded

  pub up : Asc 0 (all_keys f.fielded)
  up = asc_fielded 0 f.fielded k.labels_up

  ascends : ascending (map key_of ls) ≡ true
  ascends = asc_to (map key_of ls) up

  pub stored_keys_lem : keys_of f.stored ≡ stored_keys f.fielded
  unfolding keys_of
  stored_keys_lem = ap (map key_of) k.stored_labels

  pub stored_formed : Formed f.stored
  stored_formed =
      record {
        ascend = subst (λ u. ascending u ≡ true) (sym stored_keys_lem) (asc_to (stored_keys f.fielded) (stored_asc 0 f.fielded up));
        matrix_long = k.matrix;
        rights_long = k.rights;
      }

  sub : (n : ℕ) → has n (map key_of ls) ≡ false → has n (keys_of f.stored) ≡ false
  sub n h = ap (has n) stored_keys_lem ∙ stored_sub n f.fielded h

  -- ---- at any labels it holds what it stores
  pub holds_value : (n l : ℕ) → value (held_of f) n l ≡ value f.stored n l
  holds_value n l = value_spread ls f.stored stored_formed ascends sub n l

  pub holds_side : (n : ℕ) → side (held_of f) n ≡ side f.stored n
  holds_side n = side_spread ls f.stored stored_formed ascends sub n

  pub holds_formed : Formed (held_of f)
  holds_formed = on_formed ls f.stored ascends

  -- ---- it is a sound system
  pub holds_sound : SoundSystem (held_of f)
  unfolding on_labels
  holds_sound =
      let s = judged f.stored (stored_sound f.small f.stored k.sums).0 in
      let by = same_by (held_of f) f.stored holds_value holds_side (to_labels f.stored stored_formed _ _ s.sums) in
      let long : length ls ≡ length f.fielded = length-map f.fielded (λ m. m.label) in
      record {
        some_arcs = k.some_arcs;
        few_arcs = k.few_arcs;
        arcs = k.arcs;
        arcs_up = k.arcs_up;
        some_labels = omega (arith, k.some_labels);
        few_labels = omega (arith, k.few_labels);
        labels = all_labels (normal_label_ok f.stored.arcs) f.fielded k.labels;
        labels_up = asc_is key_of 0 ls up;
        matrix = holds_formed.matrix_long;
        rights = holds_formed.rights_long;
        sums = judged_sound (held_of f) (record { sums = to_places (held_of f) holds_formed _ _ by; accepted = s.accepted; square = s.square });
      }

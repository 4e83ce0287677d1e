-- A sound system as a file of either form stores it: the file is one that is accepted, and it holds the system.
-- Assumes nothing.
use Prim.Native.Nat.{ℕ, ◌^◌, ◌≤◌, ◌<◌}
use mathlib.Core.Path.{◌≡◌, refl, sym, ap, ◌∙◌, subst}
use mathlib.Core.List.{List, [], ◌∷◌, map}
use mathlib.Core.Bool.{Bool, true, false, not}
use native.Mathlib.Omega.{arith}
use native.Mathlib.Nat.{le_refl}
use lib.IntN.{pos}
use lib.ListN.{length, get_or, length-map}
use Rattle.num_whole.specs.Tests.{less, same, pick, both, either, between}
use Rattle.num_whole.specs.Lists.{Each, all, ascend}
use Rattle.num_whole.proofs.Cases.{yes, no, apart, holds as passes, is_between, is_same, same_true, same_false, less_true, less_false, by_cases}
use Rattle.num_packed.specs.Sound.{is_zero}
use Rattle.num_packed.proofs.Tests.{zero_true}
use Rattle.norm_system.specs.System.{System, has, key_of, normal_label_ok, bound_of, unsound_in, nowhere}
use Rattle.norm_system.specs.declared.NormalLabel.{NormalLabel}
use Rattle.norm_system.proofs.Sound.{SoundSystem, AllSeen, sound_stored}
use Rattle.norm_labels.specs.Seats.{ascending}
use Rattle.norm_labels.specs.Labels.{keys_of, value, side, on_labels}
use Rattle.norm_labels.proofs.Ascending.{Asc, asc_is, asc_to, asc_from}
use Rattle.norm_labels.proofs.Seats.{has_at}
use Rattle.norm_labels.proofs.Values.{Formed, formed, keys_long, value_below, value_no_row, side_none}
use Rattle.norm_labels.proofs.Soundness.{SoundBy, to_labels, to_places, judged, judged_sound, value_at}
use Rattle.norm_labels.proofs.On.{on_keys, on_formed, on_value, on_side, on_no_row, on_no_column, on_own, on_alike}
use Rattle.norm_kinds.specs.Kinds.{Fielded, fielded_key, field_ok, stored_of}
use Rattle.norm_read.specs.Normal.{Normal, normal_from}
use Rattle.norm_read.proofs.Stored.{all_keys, stored_keys, stored_asc, stored_sub, keys_two}
use Rattle.norm_read.proofs.Sections.{SoundNormal}
use Rattle.norm_read.proofs.Held.{same_by}
use Rattle.norm_forms.specs.Forms.{form_field, form_fields, form_stored}
use Rattle.norm_forms.proofs.Fields.{StoredIn, stored_each, fields_labels, fields_each}

both_more : (a b c : Bool) → (b ≡ true → c ≡ true) → both a b ≡ true → both a c ≡ true
unfolding both
both_more true b c h e = h e
both_more false b c h e = e

not_false : (b : Bool) → not b ≡ false → b ≡ true
not_false true e = refl
not_false false e = absurd (apart e)

not_true : (b : Bool) → not b ≡ true → b ≡ false
not_true true e = absurd (apart (sym e))
not_true false e = refl

module _ (small : Bool) (x : System) where
  z_arcs : (form_stored small x).arcs ≡ x.arcs
  unfolding form_stored on_labels
  z_arcs = refl

  z_accepted : (form_stored small x).accepted ≡ x.accepted
  unfolding form_stored on_labels
  z_accepted = refl

  z_square : (form_stored small x).square ≡ x.square
  unfolding form_stored on_labels
  z_square = refl

-- what is so at the key of each label with its field is so at each key
each_has : (P : ℕ → Type 0) (l : List Fielded) → Each (λ m. P (fielded_key m)) l → (k : ℕ) → has k (all_keys l) ≡ true → P k
unfolding has either
each_has P [] p k h = absurd (apart (sym h))
each_has P (m ∷ l) p k h =
    let rest = each_has P l p.1 k in
    by_cases (same (fielded_key m) k)
    (λ e. subst P (same_true (fielded_key m) k e) p.0)
    (λ e. rest (sym (ap (λ t. either t (has k (all_keys l))) e) ∙ h))

each_two : (P Q R : Fielded → Type 0) (l : List Fielded) → ((m : Fielded) → P m → Q m → R m) → Each P l → Each Q l → Each R l
each_two P Q R [] h p q = tt
each_two P Q R (m ∷ l) h p q = (h m p.0 q.0, each_two P Q R l h p.1 q.1)

two_of : (small : Bool) (x : System) (a : NormalLabel) → form_field small x a ≡ 2 → value x (key_of a) (key_of a) ≡ pos 0
unfolding form_field
two_of small x a e =
    by_cases small
    (λ t. by_cases (is_zero (value x (key_of a) (key_of a))) (λ z. zero_true _ z)
    (λ z. absurd (one (no _ 2 1 z refl ∙ yes _ (pick (is_zero (value x (key_of a) (key_of a))) 2 1) 0 t refl ∙ e))))
    (λ t. absurd (none (no _ (pick (is_zero (value x (key_of a) (key_of a))) 2 1) 0 t refl ∙ e)))
  where
    one : ◌≡◌ {A = ℕ} 1 2 → ⊥
    one h = omega arith

    none : ◌≡◌ {A = ℕ} 0 2 → ⊥
    none h = omega arith

not_two : (small : Bool) (x : System) (a : NormalLabel) → same (form_field small x a) 2 ≡ false → small ≡ true → is_zero (value x (key_of a) (key_of a)) ≡ false
unfolding form_field
not_two small x a e t =
    by_cases (is_zero (value x (key_of a) (key_of a)))
    (λ z. absurd (same_false _ 2 e (sym (yes small (pick (is_zero (value x (key_of a) (key_of a))) 2 1) 0 t (yes _ 2 1 z refl)))))
    (λ z. z)

field_of_ok : (small : Bool) (x : System) (a : NormalLabel) → field_ok small (form_field small x a) ≡ true
unfolding form_field field_ok
field_of_ok small x a =
    by_cases small
    (λ t. sym (yes _ _ _ t (by_cases (is_zero (value x (key_of a) (key_of a)))
    (λ z. inside (sym (yes _ _ _ t (yes _ 2 1 z refl))) two) (λ z. inside (sym (yes _ _ _ t (no _ 2 1 z refl))) one))))
    (λ t. sym (no _ _ _ t (sym (is_same _ 0 (sym (no _ (pick (is_zero (value x (key_of a) (key_of a))) 2 1) 0 t refl))))))
  where
    inside : {n m : ℕ} → n ≡ m → (1 ≤ m) × (m ≤ 2) → true ≡ between 1 n 2
    inside {n} {m} e h = sym (ap (λ k. between 1 k 2) e ∙ is_between 1 m 2 h.0 h.1)

    two : (1 ≤ 2) × (2 ≤ 2)
    two = (omega arith, omega arith)

    one : (1 ≤ 1) × (1 ≤ 2)
    one = (omega arith, omega arith)

all_fielded : (f : NormalLabel → Bool) (l : List NormalLabel) (n : NormalLabel → ℕ) → all f l ≡ true → all {A = Fielded} (λ m. f m.label) (map (λ a. record { label = a; field = n a }) l) ≡ true
unfolding all
all_fielded f [] n e = refl
all_fielded f (a ∷ l) n e = both_more (f a) _ _ (all_fielded f l n) e

all_each : (f : Fielded → Bool) (l : List Fielded) → Each (λ m. f m ≡ true) l → all f l ≡ true
unfolding all
all_each f [] e = refl
all_each f (m ∷ l) e = sym (passes _ _ e.0 (sym (all_each f l e.1)))

module _ (small : Bool) (x : System) (p : SoundSystem x) where
  abbrev ms : List Fielded
  ms = form_fields small x

  abbrev z : System
  z = form_stored small x

  f : Formed x
  f = formed x p

  all_keys_lem : all_keys ms ≡ keys_of x
  unfolding keys_of
  all_keys_lem = ap (map key_of) (fields_labels small x)

  up : Asc 0 (all_keys ms)
  up = subst (Asc 0) (sym all_keys_lem) (asc_from (keys_of x) f.ascend)

  stored_up : ascending (stored_keys ms) ≡ true
  stored_up = asc_to (stored_keys ms) (stored_asc 0 ms up)

  z_formed : Formed z
  unfolding form_stored
  z_formed = on_formed (stored_of ms) x stored_up

  -- ---- an unseen label has only zeros, and in the small form a stored one is seen
  by : SoundBy (bound_of (length x.arcs) x.accepted (2 ^ 58)) (bound_of (length x.arcs) x.accepted (2 ^ 55)) x
  by = to_labels x f _ _ (judged x p.sums).sums

  fields_are : Each (λ m. m.field ≡ form_field small x m.label) ms
  fields_are = fields_each (λ m. m.field ≡ form_field small x m.label) small x (λ l. refl)

  unstored : (k : ℕ) → has k (stored_keys ms) ≡ false → value x k k ≡ pos 0
  unstored k h =
      by_cases (has k (all_keys ms))
      (λ a. each_has (λ n. has n (stored_keys ms) ≡ false → value x n n ≡ pos 0) ms
      (each_two (StoredIn (stored_keys ms)) (λ m. m.field ≡ form_field small x m.label) (λ m. has (fielded_key m) (stored_keys ms) ≡ false → value x (fielded_key m) (fielded_key m) ≡ pos 0) ms
      (λ m s e n. two_of small x m.label (sym e ∙ same_true m.field 2 (not_false _ (sym s ∙ n)))) (stored_each 0 ms up) fields_are) k a h)
      (λ a. value_no_row x k k (ap (has k) (sym all_keys_lem) ∙ a))

  stored_seen : small ≡ true → (k : ℕ) → has k (stored_keys ms) ≡ true → is_zero (value x k k) ≡ false
  stored_seen t k h =
      by_cases (has k (all_keys ms))
      (λ a. each_has (λ n. has n (stored_keys ms) ≡ true → is_zero (value x n n) ≡ false) ms
      (each_two (StoredIn (stored_keys ms)) (λ m. m.field ≡ form_field small x m.label) (λ m. has (fielded_key m) (stored_keys ms) ≡ true → is_zero (value x (fielded_key m) (fielded_key m)) ≡ false) ms
      (λ m s e n. not_two small x m.label (ap (λ i. same i 2) (sym e) ∙ not_true _ (sym s ∙ n)) t) (stored_each 0 ms up) fields_are) k a h)
      (λ a. absurd (apart (sym h ∙ stored_sub k ms a)))

  -- ---- what is stored has at any two labels what the system has
  pub stored_value : (k l : ℕ) → value z k l ≡ value x k l
  unfolding form_stored
  stored_value k l =
      by_cases (less l k)
      (λ e. let h : l < k = less_true l k e in value_below z k l z_formed h ∙ sym (value_below x k l f h))
      (λ e. by_cases (has k (stored_keys ms))
      (λ a. by_cases (has l (stored_keys ms)) (λ b. on_value (stored_of ms) x stored_up k l a b (less_false l k e))
      (λ b. on_no_column (stored_of ms) x k l b ∙ sym (by.column k l (unstored l b))))
      (λ a. on_no_row (stored_of ms) x k l a ∙ sym (by.row k l (unstored k a))))

  pub stored_side : (k : ℕ) → side z k ≡ side x k
  unfolding form_stored
  stored_side k =
      by_cases (has k (stored_keys ms)) (on_side (stored_of ms) x k)
      (λ a. side_none z z_formed k (ap (has k) (on_keys (stored_of ms) x) ∙ a) ∙ sym (by.silent k (unstored k a)))

  z_seen : AllSeen small z
  unfolding form_stored
  z_seen t i g =
      let n = get_or (keys_of z) i 0 in
      let here : has n (keys_of z) ≡ true = has_at (keys_of z) i (subst (λ m. i < m) (sym (keys_long z)) g) in
      ap is_zero (sym (value_at z z_formed i i (le_refl i) g) ∙ stored_value n n)
      ∙ stored_seen t n (ap (has n) (sym (on_keys (stored_of ms) x)) ∙ here)

  -- ---- the file
  abbrev pub made : Normal
  made = normal_from small ms z 0 0 0

  z_sound : unsound_in z ≡ nowhere
  unfolding form_stored on_labels
  z_sound =
      let j = judged x p.sums in
      judged_sound z (record { sums = to_places z z_formed _ _ (same_by z x stored_value stored_side by); accepted = j.accepted; square = j.square })

  pub made_sound : SoundNormal made
  unfolding form_stored on_labels form_fields
  made_sound =
      let long : length ms ≡ length x.labels = length-map x.labels (λ l. record { label = l; field = form_field small x l }) in
      record {
        some_arcs = p.some_arcs;
        few_arcs = p.few_arcs;
        arcs = p.arcs;
        arcs_up = p.arcs_up;
        some_labels = omega (arith, p.some_labels);
        few_labels = omega (arith, p.few_labels);
        labels = all_fielded (normal_label_ok x.arcs) x.labels (form_field small x) p.labels;
        fields = all_each (λ m. field_ok small m.field) ms (fields_each (λ m. field_ok small m.field ≡ true) small x (field_of_ok small x));
        labels_up = asc_is fielded_key 0 ms (subst (Asc 0) (sym (keys_two ms)) up);
        held = refl;
        stored_labels = refl;
        matrix = z_formed.matrix_long;
        rights = z_formed.rights_long;
        sums = sound_stored small z z_sound z_seen;
      }

  -- it holds the system
  pub made_holds : made.holds ≡ x
  made_holds =
      ap (λ l. on_labels l z) (fields_labels small x)
      ∙ on_alike x.labels z x (z_arcs small x) (z_accepted small x) (z_square small x) (λ k l a b. stored_value k l) (λ k a. stored_side k)
      ∙ on_own x f

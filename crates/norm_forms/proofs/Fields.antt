-- The fields of a system's labels in a form; and that a label is stored exactly where its field is not 2.
-- Assumes nothing.
use Prim.Native.Nat.{ℕ, suc, ◌≤◌}
use mathlib.Core.Path.{◌≡◌, refl, sym, ap, ap₂, ◌∙◌, subst}
use mathlib.Core.List.{List, [], ◌∷◌, map}
use mathlib.Core.Bool.{Bool, not}
use native.Mathlib.Omega.{arith}
use Rattle.num_whole.specs.Tests.{same, either}
use Rattle.num_whole.specs.Lists.{Each}
use Rattle.num_whole.proofs.Cases.{not_same, by_cases}
use Rattle.norm_system.specs.System.{System, has, key_of}
use Rattle.norm_system.specs.declared.NormalLabel.{NormalLabel}
use Rattle.norm_labels.proofs.Ascending.{Asc, has_below, has_head}
use Rattle.norm_kinds.specs.Kinds.{Fielded, labels_in, fielded_key, stored_of}
use Rattle.norm_kinds.proofs.Stored.{stored_off, stored_on}
use Rattle.norm_read.proofs.Stored.{all_keys, stored_keys, stored_asc}
use Rattle.norm_forms.specs.Forms.{form_field, form_fields}

-- ---- a label is stored exactly where its field is not 2
has_later : (x k : ℕ) (l : List ℕ) → (x ≡ k → ⊥) → has k (x ∷ l) ≡ has k l
unfolding has either
has_later x k l e = rw (not_same x k e)

-- what holds of each label with a key from the floor up
each_above : (P Q : Fielded → Type 0) (floor : ℕ) (l : List Fielded) → Asc floor (all_keys l) → ((m : Fielded) → floor ≤ fielded_key m → P m → Q m) → Each P l
    → Each Q l
each_above P Q floor [] p h e = tt
each_above P Q floor (a ∷ l) p h e =
    (h a p.0 e.0, each_above P Q (suc (fielded_key a)) l p.1 (λ m g q. h m (up p.0 g) q) e.1)
  where
    up : {n : ℕ} → floor ≤ fielded_key a → suc (fielded_key a) ≤ n → floor ≤ n
    up x y = omega arith

abbrev pub StoredIn : List ℕ → Fielded → Type 0
StoredIn keys m = has (fielded_key m) keys ≡ not (same m.field 2)

pub stored_each : (floor : ℕ) (l : List Fielded) → Asc floor (all_keys l) → Each (StoredIn (stored_keys l)) l
unfolding stored_of
stored_each floor [] p = tt
stored_each floor (m ∷ l) p =
    let rest : Each (StoredIn (stored_keys l)) l = stored_each (suc (fielded_key m)) l p.1 in
    by_cases (same m.field 2)
    (λ e. subst (λ z. Each (StoredIn (map key_of z)) (m ∷ l)) (sym (stored_off m l e))
    (has_below (fielded_key m) (stored_keys l) (stored_asc (suc (fielded_key m)) l p.1) ∙ sym (ap not e), rest))
    (λ e. subst (λ z. Each (StoredIn (map key_of z)) (m ∷ l)) (sym (stored_on m l e)) (
      has_head (fielded_key m) (stored_keys l) ∙ sym (ap not e),
      each_above (StoredIn (stored_keys l)) (StoredIn (fielded_key m ∷ stored_keys l)) (suc (fielded_key m)) l p.1
          (λ a g q. has_later (fielded_key m) (fielded_key a) (stored_keys l) (λ d. level d g) ∙ q) rest,
    ))
  where
    level : {n : ℕ} → fielded_key m ≡ n → suc (fielded_key m) ≤ n → ⊥
    level d g = omega arith

-- ---- the fields of a system
pub fields_labels : (small : Bool) (x : System) → labels_in (form_fields small x) ≡ x.labels
unfolding form_fields
fields_labels small x = own x.labels
  where
    own : (l : List NormalLabel) → labels_in (map (λ a. record { label = a; field = form_field small x a }) l) ≡ l
    own [] = refl
    own (a ∷ l) = ap (λ t. a ∷ t) (own l)

pub fields_same : (small : Bool) (x : System) (l : List Fielded) → labels_in l ≡ x.labels → Each (λ m. m.field ≡ form_field small x m.label) l → l ≡ form_fields small x
unfolding form_fields
fields_same small x l e p = own l p ∙ ap (map (λ a. record { label = a; field = form_field small x a })) e
  where
    own : (l : List Fielded) → Each (λ m. m.field ≡ form_field small x m.label) l → l ≡ map (λ a. record { label = a; field = form_field small x a }) (labels_in l)
    own [] p = refl
    own (m ∷ l) p = ap₂ (λ n t. record { label = m.label; field = n } ∷ t) p.0 (own l p.1)

-- what holds of a system's labels with their fields
pub fields_each : (P : Fielded → Type 0) (small : Bool) (x : System) → ((l : NormalLabel) → P (record { label = l; field = form_field small x l })) → Each P (form_fields small x)
unfolding form_fields
fields_each P small x h = own x.labels
  where
    own : (l : List NormalLabel) → Each P (map (λ a. record { label = a; field = form_field small x a }) l)
    own [] = tt
    own (a ∷ l) = (h a, own l)

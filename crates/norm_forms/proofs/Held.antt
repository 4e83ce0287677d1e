-- A normal file that was read, in its own form: its fields and its stored sums are those of what it holds.
-- Assumes nothing.
use Prim.Native.Nat.{ℕ}
use mathlib.Core.Path.{◌≡◌, refl, sym, ap, ap₂, ◌∙◌}
use mathlib.Core.List.{List, [], ◌∷◌}
use mathlib.Core.Bool.{true, false, not}
use native.Mathlib.Omega.{arith}
use native.Mathlib.Nat.{le_refl}
use Rattle.num_whole.specs.Tests.{same, between}
use Rattle.num_whole.specs.Lists.{Each}
use Rattle.num_whole.proofs.Cases.{yes, no, between_true, same_true, same_false, by_cases}
use Rattle.num_packed.specs.Sound.{is_zero}
use Rattle.num_packed.proofs.Tests.{zero_is}
use Rattle.byte_section.proofs.Written.{each_of}
use Rattle.norm_system.specs.System.{has}
use Rattle.norm_system.proofs.Sound.{stored_sound}
use Rattle.norm_labels.specs.Seats.{seat}
use Rattle.norm_labels.specs.Labels.{keys_of, value, on_labels}
use Rattle.norm_labels.proofs.Values.{within, value_there, value_no_row}
use Rattle.norm_labels.proofs.On.{on_own, on_alike}
use Rattle.norm_kinds.specs.Kinds.{Fielded, fielded_key, field_ok, stored_of}
use Rattle.norm_kinds.specs.Bytes.{file_bytes}
use Rattle.norm_read.specs.Normal.{Normal}
use Rattle.norm_read.proofs.Stored.{stored_keys}
use Rattle.norm_read.proofs.Sections.{SoundNormal}
use Rattle.norm_read.proofs.Held.{held_of, held_labels, held_arcs, held_accepted, held_square, up, stored_keys_lem, stored_formed, holds_value, holds_side}
use Rattle.norm_forms.specs.Forms.{form_field, form_fields, form_stored, form_bytes}
use Rattle.norm_forms.proofs.Fields.{StoredIn, stored_each, fields_same}

module _ (f : Normal) (k : SoundNormal f) where
  -- ---- its fields are those of what it holds
  -- a stored label of the small form is seen
  seen : f.small ≡ true → (n : ℕ) → has n (stored_keys f.fielded) ≡ true → is_zero (value (held_of f) n n) ≡ false
  seen t n h =
      let there : has n (keys_of f.stored) ≡ true = ap (has n) (stored_keys_lem f k) ∙ h in
      ap is_zero (holds_value f k n n ∙ value_there f.stored n n (stored_formed f k) there there (le_refl n))
      ∙ (stored_sound f.small f.stored k.sums).1 t (seat (keys_of f.stored) n) (within f.stored n there)

  unseen : (n : ℕ) → has n (stored_keys f.fielded) ≡ false → is_zero (value (held_of f) n n) ≡ true
  unseen n h = zero_is _ (holds_value f k n n ∙ value_no_row f.stored n n (ap (has n) (stored_keys_lem f k) ∙ h))

  field : (m : Fielded) → field_ok f.small m.field ≡ true → StoredIn (stored_keys f.fielded) m → m.field ≡ form_field f.small (held_of f) m.label
  unfolding form_field field_ok
  field m ok kept =
      by_cases f.small
      (λ t. let range = between_true 1 m.field 2 (yes _ (between 1 m.field 2) (same m.field 0) t refl ∙ ok) in
      yes _ _ _ t
      (by_cases (same m.field 2)
      (λ two. yes _ _ _ (unseen (fielded_key m) (kept ∙ ap not two)) (same_true m.field 2 two))
      (λ one. let other : m.field ≡ 2 → ⊥ = same_false m.field 2 one in
      no _ _ _ (seen t (fielded_key m) (kept ∙ ap not one)) (omega (arith, range.0, range.1)))))
      (λ t. no _ _ _ t (same_true m.field 0 (no _ (between 1 m.field 2) (same m.field 0) t refl ∙ ok)))

  fields : (l : List Fielded) → Each (λ m. field_ok f.small m.field ≡ true) l → Each (StoredIn (stored_keys f.fielded)) l
      → Each (λ m. m.field ≡ form_field f.small (held_of f) m.label) l
  fields [] p q = tt
  fields (m ∷ l) p q = (field m p.0 q.0, fields l p.1 q.1)

  pub fields_held : form_fields f.small (held_of f) ≡ f.fielded
  fields_held =
      sym (fields_same f.small (held_of f) f.fielded (held_labels f)
      (fields f.fielded (each_of (λ m. field_ok f.small m.field) f.fielded k.fields) (stored_each 0 f.fielded (up f k))))

  -- ---- and its stored sums are those of what it holds
  pub stored_held : form_stored f.small (held_of f) ≡ f.stored
  unfolding form_stored
  stored_held =
      ap (λ l. on_labels (stored_of l) (held_of f)) fields_held
      ∙ ap (λ l. on_labels l (held_of f)) (sym k.stored_labels)
      ∙ on_alike f.stored.labels (held_of f) f.stored (held_arcs f) (held_accepted f) (held_square f) (λ n l a b. holds_value f k n l) (λ n a. holds_side f k n)
      ∙ on_own f.stored (stored_formed f k)

  -- so what it holds, in its own form, has its bytes
  pub own_form : form_bytes f.small f.holds ≡ file_bytes f.fielded f.stored
  unfolding form_bytes
  own_form = ap (form_bytes f.small) (sym k.held) ∙ ap₂ file_bytes fields_held stored_held

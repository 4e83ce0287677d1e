-- One label with its field: its limits by the tests that the code makes, and the form by the field of the first.
-- Assumes nothing.
use Prim.Native.Nat.{ℕ, suc, ◌+◌, ◌-◌, ◌≤◌, ◌<◌}
use mathlib.Core.Path.{◌≡◌, sym, ap, ◌∙◌}
use mathlib.Core.List.{List}
use mathlib.Core.Bool.{Bool, true, false}
use lib.ListN.{length}
use Rattle.num_whole.proofs.Cases.{holds, fails, is_same, not_same}
use Rattle.byte_words.specs.Words.{word}
use Rattle.byte_words.specs.Stands.{stands}
use Rattle.byte_words.proofs.Stands.{stands_done, stands_next}
use Rattle.norm_system.specs.System.{normal_label_ok}
use Rattle.norm_system.specs.declared.NormalLabel.{NormalLabel}
use Rattle.norm_kinds.specs.Kinds.{normal_label_at, field_ok, fielded_at, fielded_at_ok, stored_of}
use Rattle.norm_kinds.proofs.Stored.{stored_on, stored_off}

module _ (small : Bool) (arcs s : List ℕ) (at n : ℕ) (is : n ≡ word 4 s (at + 12)) where
  pub field_off : field_ok small n ≡ false → fielded_at_ok small arcs s at ≡ false
  unfolding fielded_at_ok
  field_off e = sym (fails _ _ (ap (field_ok small) (sym is) ∙ e))

  pub field_on : (l : NormalLabel) {t : Bool} → field_ok small n ≡ true → l ≡ normal_label_at s at → normal_label_ok arcs l ≡ t → fielded_at_ok small arcs s at ≡ t
  unfolding fielded_at_ok
  field_on l z e ok = sym (holds _ _ (ap (field_ok small) (sym is) ∙ z) (sym (ap (normal_label_ok arcs) (sym e) ∙ ok)))

  pub fielded_is : (l : NormalLabel) → l ≡ normal_label_at s at → record { label = l; field = n } ≡ fielded_at s at
  unfolding fielded_at
  fielded_is l e = λ i. record { label = e i; field = is i }

-- ---- the stored ones counted, i of p labels done
module _ (s : List ℕ) (p i at : ℕ) where
  pub count_end : p ≤ i → length (stored_of (stands (fielded_at s) 24 (p - i) at)) ≡ 0
  unfolding stored_of
  count_end h = ap (λ l. length (stored_of l)) (stands_done (fielded_at s) 24 p i at h)

  module _ (more : i < p) where
    pub count_on : (word 4 s (at + 12) ≡ 2 → ⊥) → length (stored_of (stands (fielded_at s) 24 (p - i) at)) ≡ suc (length (stored_of (stands (fielded_at s) 24 (p - (i + 1)) (at + 24))))
    unfolding fielded_at
    count_on e =
        ap (λ l. length (stored_of l)) (stands_next (fielded_at s) 24 p i at more)
        ∙ ap length (stored_on (fielded_at s at) (stands (fielded_at s) 24 (p - (i + 1)) (at + 24)) (not_same _ 2 e))

    pub count_off : word 4 s (at + 12) ≡ 2 → length (stored_of (stands (fielded_at s) 24 (p - i) at)) ≡ length (stored_of (stands (fielded_at s) 24 (p - (i + 1)) (at + 24)))
    unfolding fielded_at
    count_off e =
        ap (λ l. length (stored_of l)) (stands_next (fielded_at s) 24 p i at more)
        ∙ ap length (stored_off (fielded_at s at) (stands (fielded_at s) 24 (p - (i + 1)) (at + 24)) (is_same _ 2 e))

-- How one record of any kind is judged, as the code does it: loaded or not, and its key against the floor.
-- Assumes nothing.
use Rattle.std.specs.Prelude.{Some, None}
use Rattle.std.specs.Bool.{then_some}
use Prim.Native.Nat.{ℕ, ◌-◌, ◌≤◌, ◌<◌}
use mathlib.Core.Path.{◌≡◌, refl, sym, ap, ◌∙◌}
use mathlib.Core.List.{List}
use mathlib.Core.Bool.{Bool, true, false}
use lib.ListN.{length}
use Rattle.num_whole.specs.Answer.{good, bad}
use Rattle.num_whole.proofs.Cases.{yes, no, is_less, not_less, is_up_to, not_up_to}
use Rattle.byte_section.specs.Section.{Kind, judged_at}

some_kept : {A : Type 0} (b : Bool) (x y : A) → then_some b x ≡ Some y → (b ≡ true) × (x ≡ y)
some_kept true x y e = (refl, cc)
some_kept false x y e = cc

none_kept : {A : Type 0} (b : Bool) (x : A) → then_some b x ≡ None → b ≡ false
none_kept true x e = cc
none_kept false x e = refl

module _ {A : Type 0} (K : Kind A) (s : List ℕ) (at floor : ℕ) where
  pub record_cut : length s - at < K.size → bad 1 (length s) ≡ judged_at K s at floor
  unfolding judged_at
  record_cut h = yes _ _ _ (is_less _ _ h) refl

  module _ (room : K.size ≤ length s - at) where
    module _ (a : A) (e : then_some (K.fields_ok s at) (K.decode s at) ≡ Some a) where
      pub record_passed : floor ≤ K.key a → good a ≡ judged_at K s at floor
      unfolding judged_at
      record_passed h =
          let k = some_kept _ _ _ e in
          rw k.1 (no _ _ _ (not_less _ _ room) (yes _ _ _ k.0 (yes _ _ _ (is_up_to _ _ h) refl)))

      pub record_low : K.key a < floor → bad 5 at ≡ judged_at K s at floor
      unfolding judged_at
      record_low h =
          let k = some_kept _ _ _ e in
          rw k.1 (no _ _ _ (not_less _ _ room) (yes _ _ _ k.0 (no _ _ _ (not_up_to _ _ h) refl)))

    pub record_outside : then_some (K.fields_ok s at) (K.decode s at) ≡ None → bad 4 at ≡ judged_at K s at floor
    unfolding judged_at
    record_outside e = no _ _ _ (not_less _ _ room) (no _ _ _ (none_kept _ _ e) refl)

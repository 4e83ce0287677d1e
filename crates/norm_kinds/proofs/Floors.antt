-- One record judged and not kept, by the tests that the code makes.
-- Assumes nothing.
use Prim.Native.Nat.{ℕ, ◌-◌, ◌≤◌, ◌<◌}
use mathlib.Core.Path.{◌≡◌, refl, sym}
use mathlib.Core.List.{List}
use mathlib.Core.Bool.{true, false}
use lib.ListN.{length}
use Rattle.num_whole.specs.Answer.{good, bad}
use Rattle.num_whole.proofs.Cases.{yes, no, is_less, not_less, is_up_to, not_up_to}
use Rattle.byte_section.specs.Section.{Kind, judged_at}
use Rattle.byte_section.proofs.Walk.{then_good, then_bad}
use Rattle.norm_kinds.specs.Told.{floor_at}

module _ {A : Type 0} (K : Kind A) (s : List ℕ) (at floor : ℕ) where
  pub floor_short : length s - at < K.size → bad 1 (length s) ≡ floor_at K s at floor
  unfolding floor_at judged_at
  floor_short h = sym (then_bad _ _ (sym (yes _ _ _ (is_less _ _ h) refl)))

  module _ (room : K.size ≤ length s - at) where
    pub floor_limits : K.fields_ok s at ≡ false → bad 4 at ≡ floor_at K s at floor
    unfolding floor_at judged_at
    floor_limits e = sym (then_bad _ _ (sym (no _ _ _ (not_less _ _ room) (no _ _ _ e refl))))

    module _ (ok : K.fields_ok s at ≡ true) (a : A) (is : a ≡ K.decode s at) where
      pub floor_order : K.key a < floor → bad 5 at ≡ floor_at K s at floor
      unfolding floor_at judged_at
      floor_order h =
          let h₁ = rw is at h in
          sym (then_bad _ _ (sym (no _ _ _ (not_less _ _ room) (yes _ _ _ ok (no _ _ _ (not_up_to _ _ h₁) refl)))))

      pub floor_next : floor ≤ K.key a → good (K.after a) ≡ floor_at K s at floor
      unfolding floor_at judged_at
      floor_next h =
          let h₁ = rw is at h in
          rw is (sym (then_good _ _ (sym (no _ _ _ (not_less _ _ room) (yes _ _ _ ok (yes _ _ _ (is_up_to _ _ h₁) refl))))))

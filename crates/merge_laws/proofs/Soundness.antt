-- Label by label the sums of two sound systems are sound for their arcs together.
-- Assumes nothing.
use mathlib.Core.Path.{◌≡◌, refl, sym, ap, ap₂, ◌∙◌, subst}
use Prim.Native.Nat.{ℕ, ◌+◌, ◌*◌, ◌^◌, ◌≤◌}
use native.Mathlib.Nat.{le_trans, add-mul}
use native.Mathlib.Omega.{arith}
use lib.IntN.{ℤ, pos, ◌+ℤ◌, nat_abs}
use lib.ListN.{length}
use Rattle.num_whole.specs.Tests.{same}
use Rattle.num_whole.proofs.Cases.{yes, no, same_true, same_false, is_same, not_same, by_cases}
use Rattle.num_whole.proofs.Ints.{+-within}
use Rattle.norm_system.specs.System.{System, file_square_unit, bound_of}
use Rattle.norm_system.proofs.Sound.{bound_most}
use Rattle.norm_labels.specs.Labels.{value, side}
use Rattle.merge_laws.specs.Merge.{merged_of}
use Rattle.norm_labels.proofs.Values.{Formed}
use Rattle.norm_labels.proofs.Soundness.{SoundBy, to_labels, to_places, Judged}
use Rattle.merge_laws.proofs.Adding.{nothing}
use Rattle.merge_laws.proofs.Merged.{merged_formed, merged_value, merged_side, merged_accepted, merged_square}

-- ---- the sums of two
-- two numbers that are not negative and add up to 0 are both 0
both_zero : (a b : ℤ) → a ≡ pos (nat_abs a) → b ≡ pos (nat_abs b) → a +ℤ b ≡ pos 0 → (a ≡ pos 0) × (b ≡ pos 0)
both_zero a b p q e =
    let z : nat_abs a + nat_abs b ≡ 0 = ap nat_abs (sym (ap₂ (λ u v. u +ℤ v) p q) ∙ e) in
    let u : nat_abs a ≡ 0 = omega arith in
    let v : nat_abs b ≡ 0 = omega arith in
    (p ∙ ap pos u, q ∙ ap pos v)

sum_plain : (a b : ℤ) → a ≡ pos (nat_abs a) → b ≡ pos (nat_abs b) → a +ℤ b ≡ pos (nat_abs (a +ℤ b))
sum_plain a b p q = let e : a +ℤ b ≡ pos (nat_abs a + nat_abs b) = ap₂ (λ u v. u +ℤ v) p q in e ∙ ap pos (sym (ap nat_abs e))

module _ (x y : System) (fx : Formed x) (fy : Formed y) (b c d e : ℕ) (s : SoundBy b c x) (t : SoundBy d e y) where
  both_silent : (k : ℕ) → value (merged_of x y) k k ≡ pos 0 → (value x k k ≡ pos 0) × (value y k k ≡ pos 0)
  both_silent k z = both_zero (value x k k) (value y k k) (s.plain k) (t.plain k) (sym (merged_value x y fx fy k k) ∙ z)

  pub merged_by : SoundBy (b + d) (c + e) (merged_of x y)
  merged_by =
      record {
        small = λ k l. subst (λ v. nat_abs v ≤ b + d) (sym (v k l)) (+-within (value x k l) (value y k l) (s.small k l) (t.small k l));
        small_side = λ k. subst (λ v. nat_abs v ≤ c + e) (sym (w k)) (+-within (side x k) (side y k) (s.small_side k) (t.small_side k));
        plain = λ k. subst (λ z. z ≡ pos (nat_abs z)) (sym (v k k)) (sum_plain (value x k k) (value y k k) (s.plain k) (t.plain k));
        row = λ k l z. v k l ∙ sym (nothing (s.row k l (both_silent k z).0) (t.row k l (both_silent k z).1));
        column = λ k l z. v k l ∙ sym (nothing (s.column k l (both_silent l z).0) (t.column k l (both_silent l z).1));
        silent = λ k z. w k ∙ sym (nothing (s.silent k (both_silent k z).0) (t.silent k (both_silent k z).1));
      }
    where
      v : (k l : ℕ) → value (merged_of x y) k l ≡ value x k l +ℤ value y k l
      v = merged_value x y fx fy

      w : (k : ℕ) → side (merged_of x y) k ≡ side x k +ℤ side y k
      w = merged_side x y fx fy

-- ---- bounds add as the arcs do
bound_none : (arcs n unit : ℕ) → n ≡ 0 → bound_of arcs n unit ≡ 0
unfolding bound_of
bound_none arcs n unit e = sym (yes _ _ _ (is_same n 0 e) refl)

bound_some : (arcs n unit : ℕ) → (n ≡ 0 → ⊥) → bound_of arcs n unit ≡ arcs * unit
unfolding bound_of
bound_some arcs n unit e = sym (no _ _ _ (not_same n 0 e) refl)

pub bound_add : (a n b m unit : ℕ) → bound_of a n unit + bound_of b m unit ≤ bound_of (a + b) (n + m) unit
bound_add a n b m unit =
    by_cases (same (n + m) 0)
    (λ e. none (same_true (n + m) 0 e))
    (λ e. let some : bound_of (a + b) (n + m) unit ≡ (a + b) * unit = bound_some (a + b) (n + m) unit (same_false (n + m) 0 e) in
    let split : (a + b) * unit ≡ a * unit + b * unit = add-mul a b unit in
    omega (arith, bound_most a n unit, bound_most b m unit))
  where
    none : n + m ≡ 0 → bound_of a n unit + bound_of b m unit ≤ bound_of (a + b) (n + m) unit
    none e =
        let p : bound_of a n unit ≡ 0 = bound_none a n unit (omega arith) in
        let q : bound_of b m unit ≡ 0 = bound_none b m unit (omega arith) in
        omega arith

more : {b c d e : ℕ} {x : System} → b ≤ d → c ≤ e → SoundBy b c x → SoundBy d e x
more h g s =
    record {
      small = λ k l. le_trans (s.small k l) h;
      small_side = λ k. le_trans (s.small_side k) g;
      plain = s.plain;
      row = s.row;
      column = s.column;
      silent = s.silent;
    }

pub merged_judged : (x y : System) → Formed x → Formed y → length (merged_of x y).arcs ≡ length x.arcs + length y.arcs → Judged x → Judged y
    → Judged (merged_of x y)
merged_judged x y fx fy count s t =
    let m = merged_of x y in
    let a : m.accepted ≡ x.accepted + y.accepted = merged_accepted x y in
    let q : m.square ≡ x.square + y.square = merged_square x y in
    let bound : (unit : ℕ) → bound_of (length x.arcs) x.accepted unit + bound_of (length y.arcs) y.accepted unit ≤ bound_of (length m.arcs) m.accepted unit =
    λ unit. subst (λ n. bound_of (length x.arcs) x.accepted unit + bound_of (length y.arcs) y.accepted unit ≤ n) (ap₂ (λ u v. bound_of u v unit) (sym count) (sym a)) (bound_add (length x.arcs) x.accepted (length y.arcs) y.accepted unit) in
    let by = merged_by x y fx fy _ _ _ _ (to_labels x fx _ _ s.sums) (to_labels y fy _ _ t.sums) in
    record {
      sums = to_places m (merged_formed x y fx fy) _ _ (more (bound (2 ^ 58)) (bound (2 ^ 55)) by);
      accepted = omega (arith, s.accepted, t.accepted);
      square = omega (arith, s.square, t.square, bound file_square_unit);
    }

-- "for types 7 and 9 a turn is added or taken so that |r| ≤ 843,314,856". There is one such number.
-- Assumes nothing.
use Prim.Native.Nat.{ℕ, suc, ◌+◌, ◌-◌, ◌*◌, ◌<◌, ◌≤◌}
use native.Mathlib.Omega.{arith}
use mathlib.Core.Path.{◌≡◌, refl, sym, ap, ◌∙◌, subst}
use mathlib.Core.Logic.{◌⊎◌, inl, inr, ⊎_elim}
use borrow.Author.Tests.{lt-ltb, le-ltb}
use lib.IntN.{ℤ, pos, negsuc, nat_abs, ◌+ℤ◌, ◌-ℤ◌, +ℤ_assoc, +ℤ_idr, -ℤ-+ℤ_cancel}
use Rattle.num_whole.proofs.Cases.{yes, no}
use Rattle.unit_nearest.proofs.Laws.{either}
use Rattle.unit_nearest.proofs.Signs.{sub_abs}
use Rattle.unit_types.specs.Types.{turn}
use Rattle.unit_turn.specs.Turning.{half_turn, brought}

-- r is within half a turn, and differs from z by nothing, a turn down or a turn up
pub record Brought (z r : ℤ) : Type 0 where
  pub near : nat_abs r ≤ half_turn
  pub by : (r ≡ z) ⊎ ((r ≡ z -ℤ pos turn) ⊎ (r ≡ z +ℤ pos turn))

-- ---- `brought` gives such a number
pub brought_near : (z : ℤ) → nat_abs z < turn → Brought z (brought z)
unfolding brought
brought_near (pos n) h =
    either half_turn n
    (λ l. subst (λ r. Brought (pos n) r) (yes _ _ _ (lt-ltb half_turn n l) refl) (record { near = down n h l; by = inr (inl refl) }))
    (λ l. subst (λ r. Brought (pos n) r) (no _ _ _ (le-ltb half_turn n l) (no _ _ _ refl refl)) (record { near = l; by = inl refl }))
  where
    down : (n : ℕ) → n < turn → half_turn < n → nat_abs (pos n -ℤ pos turn) ≤ half_turn
    down n h l = omega (arith, sub_abs n turn)
brought_near (negsuc n) h =
    either (half_turn - 1) n
    (λ l. subst (λ r. Brought (negsuc n) r) (no _ _ _ refl (yes _ _ _ (lt-ltb (half_turn - 1) n l) refl)) (record { near = up n h l; by = inr (inr refl) }))
    (λ l. subst (λ r. Brought (negsuc n) r) (no _ _ _ refl (no _ _ _ (le-ltb (half_turn - 1) n l) refl)) (record { near = within n l; by = inl refl }))
  where
    up : (n : ℕ) → suc n < turn → half_turn - 1 < n → nat_abs (negsuc n +ℤ pos turn) ≤ half_turn
    up n h l = omega (arith, sub_abs turn (suc n))

    within : (n : ℕ) → n ≤ half_turn - 1 → suc n ≤ half_turn
    within n l = omega arith

-- ---- and it is the only one
-- b + i and b + j are both within m: they are no further apart than m + m
close : (b : ℤ) (i j m : ℕ) → nat_abs (b +ℤ pos i) ≤ m → nat_abs (b +ℤ pos j) ≤ m → j ≤ i + (m + m)
close (pos n) i j m p q = omega arith
close (negsuc n) i j m p q = omega (arith, sub_abs i (suc n), sub_abs j (suc n))

-- some turns up from b
record Turns (b r : ℤ) : Type 0 where
  pub count : ℕ
  pub is : r ≡ b +ℤ pos (count * turn)

turns : (z r : ℤ) → (r ≡ z) ⊎ ((r ≡ z -ℤ pos turn) ⊎ (r ≡ z +ℤ pos turn)) → Turns (z -ℤ pos turn) r
turns z r =
    ⊎_elim (λ e. record { count = 1; is = e ∙ sym (-ℤ-+ℤ_cancel z (pos turn)) })
    (⊎_elim (λ e. record { count = 0; is = e ∙ sym (+ℤ_idr (z -ℤ pos turn)) })
    (λ e. record { count = 2; is = e ∙ ap (λ y. y +ℤ pos turn) (sym (-ℤ-+ℤ_cancel z (pos turn))) ∙ +ℤ_assoc (z -ℤ pos turn) (pos turn) (pos turn) }))

pub one_brought : (z r s : ℤ) → Brought z r → Brought z s → r ≡ s
one_brought z r s p q =
    let b = z -ℤ pos turn in
    let i = turns z r p.by in
    let j = turns z s q.by in
    let m : nat_abs (b +ℤ pos (i.count * turn)) ≤ half_turn = subst (λ y. nat_abs y ≤ half_turn) i.is p.near in
    let n : nat_abs (b +ℤ pos (j.count * turn)) ≤ half_turn = subst (λ y. nat_abs y ≤ half_turn) j.is q.near in
    let e : i.count ≡ j.count = equal i.count j.count (close b _ _ half_turn m n) (close b _ _ half_turn n m) in
    i.is ∙ ap (λ k. b +ℤ pos (k * turn)) e ∙ sym j.is
  where
    equal : (i j : ℕ) → j * turn ≤ i * turn + (half_turn + half_turn) → i * turn ≤ j * turn + (half_turn + half_turn) → i ≡ j
    equal i j p q = omega arith

pub only_brought : (z r : ℤ) → nat_abs z < turn → Brought z r → r ≡ brought z
only_brought z r h p = one_brought z r (brought z) p (brought_near z h)

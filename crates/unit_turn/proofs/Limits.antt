-- How large units within limits are, on a row and on the circle.
-- Assumes nothing.
use Prim.Native.Nat.{ℕ, ◌^◌, ◌≤◌}
use native.Mathlib.Omega.{arith}
use mathlib.Core.Path.{◌≡◌, refl, sym, subst}
use mathlib.Core.Bool.{Bool, true, false, ◌&&◌}
use borrow.Author.Tests.{leb-true}
use lib.Dec.{leb}
use lib.IntN.{ℤ, pos, negsuc, nat_abs}
use lib.Signed.{le_z}
use Rattle.num_whole.proofs.Cases.{apart, yes, no, by_cases}
use Rattle.unit_nearest.specs.Doubles.{fits_in}
use Rattle.unit_types.specs.declared.TypeRow.{TypeRow}
use Rattle.unit_types.specs.Narrow.{Narrow}
use Rattle.unit_turn.specs.Turning.{is_turn, on_circle, top_of}

pub and_first : (a b : Bool) → a && b ≡ true → a ≡ true
and_first true b e = refl
and_first false b e = e

pub and_second : (a b : Bool) → a && b ≡ true → b ≡ true
and_second true b e = e
and_second false b e = absurd (apart (sym e))

-- what lies within limits is no larger than they are
pub within_limits : (lo hi q : ℤ) {m : ℕ} → fits_in lo hi q ≡ true → nat_abs lo ≤ m → nat_abs hi ≤ m → nat_abs q ≤ m
within_limits lo (pos h) (pos n) t a b = omega (arith, leb-true n h (and_second (le_z lo (pos n)) (leb n h) t))
within_limits lo (negsuc h) (pos n) t a b = absurd (apart (sym (and_second (le_z lo (pos n)) false t)))
within_limits (pos l) hi (negsuc n) t a b = absurd (apart (sym t))
within_limits (negsuc l) hi (negsuc n) t a b = omega (arith, leb-true n l (and_first (leb n l) (le_z (negsuc n) hi) t))

pub row_small : (r : TypeRow) → Narrow r → (q : ℤ) → fits_in r.low r.high q ≡ true → nat_abs q ≤ 2 ^ 40
row_small r n q f = within_limits r.low r.high q f n.low n.high

pub top_small : (r : TypeRow) → Narrow r → nat_abs (top_of r) ≤ 2 ^ 40
unfolding top_of
top_small r h =
    by_cases r.turns
    (λ e. subst (λ z. nat_abs z ≤ 2 ^ 40) (yes r.turns _ _ e refl) (omega arith))
    (λ e. subst (λ z. nat_abs z ≤ 2 ^ 40) (no r.turns _ _ e refl) h.high)

pub circle_small : (r : TypeRow) (q : ℤ) {m : ℕ} → nat_abs q ≤ m → nat_abs (on_circle r q) ≤ m
unfolding on_circle
circle_small r q {m} h =
    by_cases r.turns
    (λ e. by_cases (is_turn q)
    (λ t. subst (λ z. nat_abs z ≤ m) (yes r.turns _ _ e (yes (is_turn q) _ _ t refl)) (omega arith))
    (λ t. subst (λ z. nat_abs z ≤ m) (yes r.turns _ _ e (no (is_turn q) _ _ t refl)) h))
    (λ e. subst (λ z. nat_abs z ≤ m) (no r.turns _ _ e refl) h)

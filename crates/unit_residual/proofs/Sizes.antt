-- What a residual is made of, and how large it is; of a type that turns, within half a turn.
-- Assumes nothing.
use Prim.Native.Nat.{◌-◌, ◌^◌, ◌<◌, ◌≤◌}
use native.Mathlib.Omega.{arith}
use mathlib.Core.Path.{◌≡◌, refl, sym, ◌∙◌, subst}
use mathlib.Core.Bool.{true, false}
use borrow.Author.Tests.{leb-true}
use lib.Dec.{leb}
use lib.IntN.{ℤ, pos, negsuc, nat_abs, ◌-ℤ◌}
use Rattle.num_whole.specs.Answer.{given}
use Rattle.num_whole.specs.Tests.{pick}
use Rattle.num_whole.proofs.Cases.{chosen, apart, yes, no, both_first, both_second, by_cases}
use Rattle.unit_nearest.specs.Doubles.{fits_in, nearest_unit}
use Rattle.unit_nearest.proofs.Signs.{apart as distance}
use Rattle.unit_types.specs.declared.TypeRow.{TypeRow}
use Rattle.unit_types.specs.Types.{turn, circle, row_of_type}
use Rattle.unit_types.proofs.Rows.{in_table}
use Rattle.unit_measure.specs.declared.Reading.{Reading}
use Rattle.unit_turn.specs.Turning.{half_turn, on_circle, top_of, apart_by}
use Rattle.unit_turn.proofs.Words.{minus_within}
use Rattle.unit_turn.proofs.Limits.{and_second, row_small}
use Rattle.unit_turn.proofs.Circle.{top_of_circle}
use Rattle.unit_turn.proofs.Brought.{Brought, brought_near}
use Rattle.unit_residual.specs.Residuals.{fits_row, residual_by, residual_of}

-- two units on the circle are less than a turn apart
within_turn : (a b : ℤ) → fits_in (pos 0) (pos (turn - 1)) a ≡ true → fits_in (pos 0) (pos (turn - 1)) b ≡ true → nat_abs (a -ℤ b) < turn
within_turn (negsuc n) b p q = absurd (apart (sym p))
within_turn (pos n) (negsuc m) p q = absurd (apart (sym q))
within_turn (pos n) (pos m) p q =
    omega (arith, distance false n m, leb-true n (turn - 1) (and_second (leb 0 n) (leb n (turn - 1)) p), leb-true m (turn - 1) (and_second (leb 0 m) (leb m (turn - 1)) q))

below : (r : TypeRow) → r ≡ circle → (z : ℤ) → fits_in r.low (top_of r) z ≡ true → fits_in (pos 0) (pos (turn - 1)) z ≡ true
unfolding top_of pick
below r e z = subst (λ (s : TypeRow). fits_in s.low (top_of s) z ≡ true) e

-- what a residual was made of
pub record Apart (r : TypeRow) (v : ℤ) : Type 0 where
  pub observed : ℤ
  pub computed : ℤ
  pub observed_fits : fits_in r.low r.high observed ≡ true
  pub computed_fits : fits_in r.low r.high computed ≡ true
  pub is : v ≡ apart_by r observed computed

pub residual_apart : (m : Reading) (v : ℤ) → residual_of m ≡ given v → Apart (row_of_type m.kind) v
unfolding residual_of residual_by fits_row
residual_apart m v e =
    let r = row_of_type m.kind in
    let a = chosen 16 _ _ (chosen 15 _ _ e).1 in
    record {
      observed = nearest_unit r.k m.observed;
      computed = nearest_unit r.k m.computed;
      observed_fits = both_first _ _ a.0;
      computed_fits = both_second _ _ a.0;
      is = cc;
    }

-- of a type that turns: the residual is the difference of the two units on the circle, brought within half a turn
pub residual_brought : (m : Reading) (v : ℤ) → (row_of_type m.kind).turns ≡ true → (e : residual_of m ≡ given v)
    → Brought (on_circle (row_of_type m.kind) (residual_apart m v e).observed -ℤ on_circle (row_of_type m.kind) (residual_apart m v e).computed) v
unfolding apart_by
residual_brought m v t e =
    let r = row_of_type m.kind in
    let a = residual_apart m v e in
    let h = in_table m.kind in
    let o = on_circle r a.observed in
    let c = on_circle r a.computed in
    subst (λ z. Brought (o -ℤ c) z) (yes r.turns _ _ t refl ∙ sym a.is)
    (brought_near (o -ℤ c)
    (within_turn o c
    (below r (h.round t) o (top_of_circle r h a.observed a.observed_fits))
    (below r (h.round t) c (top_of_circle r h a.computed a.computed_fits))))

pub residual_turned : (m : Reading) (v : ℤ) → (row_of_type m.kind).turns ≡ true → residual_of m ≡ given v → nat_abs v ≤ half_turn
residual_turned m v t e = (residual_brought m v t e).near

pub residual_small : (m : Reading) (v : ℤ) → residual_of m ≡ given v → nat_abs v ≤ 2 ^ 41
unfolding apart_by
residual_small m v e =
    let r = row_of_type m.kind in
    let a = residual_apart m v e in
    let n = (in_table m.kind).narrow in
    by_cases r.turns
    (λ t. let h : nat_abs v ≤ half_turn = residual_turned m v t e in omega arith)
    (λ t. subst (λ z. nat_abs z ≤ 2 ^ 41) (no r.turns _ _ t refl ∙ sym a.is)
    (minus_within a.observed a.computed (row_small r n a.observed a.observed_fits) (row_small r n a.computed a.computed_fits)))

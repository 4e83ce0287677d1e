-- T and 0: a unit within a row's limits is below T on the circle, and what is below T stays as it is.
-- Assumes nothing.
use Prim.Native.Nat.{ℕ, ◌-◌, ◌≤◌}
use native.Mathlib.Omega.{arith}
use mathlib.Core.Path.{◌≡◌, sym, ap₂, subst}
use mathlib.Core.Bool.{true, ◌&&◌}
use borrow.Author.Tests.{leb-true, le-leb}
use lib.Dec.{leb}
use lib.IntN.{ℤ, pos, negsuc}
use Rattle.num_whole.specs.Tests.{pick, same}
use Rattle.num_whole.proofs.Cases.{apart, by_cases, not_same, same_false}
use Rattle.unit_nearest.specs.Doubles.{fits_in}
use Rattle.unit_types.specs.declared.TypeRow.{TypeRow}
use Rattle.unit_types.specs.Types.{turn, circle}
use Rattle.unit_types.proofs.Rows.{InTable}
use Rattle.unit_turn.specs.Turning.{is_turn, on_circle, top_of}
use Rattle.unit_turn.proofs.Limits.{and_second}

-- on the circle a unit is below T, and one below T stays
on_circle_lem : (q : ℤ) → fits_in (pos 0) (pos turn) q ≡ true → fits_in (pos 0) (pos (turn - 1)) (on_circle circle q) ≡ true
unfolding on_circle is_turn pick
on_circle_lem (negsuc n) h = absurd (apart (sym h))
on_circle_lem (pos n) h =
    by_cases (same n turn) (λ e. rw e)
    (λ e. rw e (below n (leb-true n turn (and_second (leb 0 n) (leb n turn) h)) (same_false n turn e)))
  where
    below : (n : ℕ) → n ≤ turn → (n ≡ turn → ⊥) → fits_in (pos 0) (pos (turn - 1)) (pos n) ≡ true
    below n h e = ap₂ (λ a b. a && b) (le-leb 0 n (omega arith)) (le-leb n (turn - 1) (omega arith))

pub record Stays (r : TypeRow) (q : ℤ) : Type 0 where
  pub limits : fits_in r.low r.high q ≡ true
  pub stays : on_circle r q ≡ q

below_turn : (q : ℤ) → fits_in (pos 0) (pos (turn - 1)) q ≡ true → Stays circle q
unfolding on_circle is_turn pick
below_turn (negsuc n) h = absurd (apart (sym h))
below_turn (pos n) h =
    let l : n ≤ turn - 1 = leb-true n (turn - 1) (and_second (leb 0 n) (leb n (turn - 1)) h) in
    record {
      limits = ap₂ (λ a b. a && b) (le-leb 0 n (omega arith)) (le-leb n turn (omega arith));
      stays = rw (not_same n turn (λ e. omega arith));
    }

module _ (r : TypeRow) (h : InTable r) (q : ℤ) where
  -- the unit of a double is one that becomes a double again
  pub top_of_circle : fits_in r.low r.high q ≡ true → fits_in r.low (top_of r) (on_circle r q) ≡ true
  unfolding top_of on_circle pick
  top_of_circle f =
      by_cases r.turns
      (λ e. subst (λ s. fits_in s.low s.high q ≡ true → fits_in s.low (top_of s) (on_circle s q) ≡ true) (sym (h.round e)) (on_circle_lem q) f)
      (λ e. rw e f)

  -- and one that becomes a double is a unit as it stands
  pub below_top : fits_in r.low (top_of r) q ≡ true → Stays r q
  unfolding top_of on_circle pick
  below_top f =
      by_cases r.turns
      (λ e. subst (λ s. fits_in s.low (top_of s) q ≡ true → Stays s q) (sym (h.round e)) (below_turn q) f)
      (λ e. record { limits = rw e at f; stays = rw e })

-- Where each diagonal is above 0 and each sum within its bound, the walk finds nothing.
-- Assumes nothing.
use Prim.Native.Nat.{ℕ, ◌+◌, ◌≤◌, ◌<◌}
use mathlib.Core.Path.{◌≡◌, refl, sym, ap, ◌∙◌, subst}
use mathlib.Core.Bool.{Bool, true, false, not, cond}
use mathlib.Core.List.{List}
use native.Mathlib.Omega.{arith}
use native.Mathlib.Numerals.{add-one}
use borrow.Author.Tests.{ltb-true, ltb-false, le-ltb, le-leb, lt-leb, ne_eqb, eqb-true}
use lib.Dec.{eqb, ltb, leb}
use lib.IntN.{ℤ, pos, negsuc, neg_ℤ}
use lib.Signed.{lt_z, le_z}
use Rattle.num_whole.specs.Tests.{below}
use Rattle.num_whole.proofs.Cases.{apart, by_cases, holds}
use Rattle.num_whole.proofs.Tables.{below_at}
use Rattle.num_packed.specs.Triangle.{tri}
use Rattle.num_packed.specs.Sound.{entry, is_zero, breaks}
use Rattle.num_packed.specs.Found.{none, columns_from}
use Rattle.num_packed.specs.Plain.{seen_at, within_at}
use Rattle.num_packed.proofs.Places.{tri_within}
use Rattle.num_packed.proofs.Found.{columns_sound}
use Rattle.num_packed.proofs.Tests.{chosen, other}

-- ---- a test of each number below i, and one number more
pub none_yet : (f : ℕ → Bool) → below f 0 ≡ true
unfolding below
none_yet f = refl

pub one_more : (f : ℕ → Bool) (i : ℕ) → below f i ≡ true → f i ≡ true → below f (i + 1) ≡ true
unfolding below
one_more f i h e = rw (add-one i) (sym (holds _ _ e (sym h)))

-- ---- sums that the bounds alone judge
-- a number above 0 is not 0 and not below it
not_zero : (z : ℤ) → lt_z (pos 0) z ≡ true → is_zero z ≡ false
not_zero (pos n) e = let h = ltb-true 0 n e in ne_eqb n 0 (λ z. omega (arith, h))
not_zero (negsuc n) e = absurd (apart (sym e))

not_below : (z : ℤ) → lt_z (pos 0) z ≡ true → lt_z z (pos 0) ≡ false
not_below (pos n) e = le-ltb n 0 (omega arith)
not_below (negsuc n) e = absurd (apart (sym e))

not_ltb : (a b : ℕ) → not (ltb a b) ≡ leb b a
not_ltb a b = by_cases (ltb a b) (λ e. ap not e ∙ sym (lt-leb b a (ltb-true a b e))) (λ e. ap not e ∙ sym (le-leb b a (ltb-false a b e)))

-- one number is not below another exactly where the other is at most it
pub not_less : (a b : ℤ) → not (lt_z a b) ≡ le_z b a
not_less (pos a) (pos b) = not_ltb a b
not_less (pos a) (negsuc b) = refl
not_less (negsuc a) (pos b) = refl
not_less (negsuc a) (negsuc b) = not_ltb b a

-- what the test of a bound says
bounds : (a b : Bool) → cond a false (not b) ≡ true → (a ≡ false) × (b ≡ false)
bounds true b e = absurd (apart (sym e))
bounds false true e = absurd (apart (sym e))
bounds false false e = (refl, refl)

both_ways : (t : Bool) → cond t false false ≡ false
both_ways true = refl
both_ways false = refl

module _ (b : ℤ) (s : List ℤ) (p : ℕ) (seen : below (seen_at s) p ≡ true) (small : below (within_at b s) (tri p) ≡ true) where
  diagonal : (i : ℕ) → i < p → lt_z (pos 0) (entry s i i) ≡ true
  unfolding seen_at
  diagonal i h = below_at (seen_at s) p seen i h

  entry_bounds : (i j : ℕ) → i ≤ j → j < p → (lt_z b (entry s i j) ≡ false) × (lt_z (entry s i j) (neg_ℤ b) ≡ false)
  unfolding within_at
  entry_bounds i j h l = bounds _ _ (below_at (within_at b s) (tri p) small (tri j + i) (omega (arith, tri_within j p l)))

  sound_at_lem : (i j : ℕ) → i ≤ j → j < p → breaks b s i j ≡ false
  unfolding breaks
  sound_at_lem i j h l =
      let e = entry_bounds i j h l in
      let x = entry s i j in
      let beside : cond (is_zero (entry s i i)) true (is_zero (entry s j j)) ≡ false =
      other (is_zero (entry s i i)) true (is_zero (entry s j j)) (not_zero (entry s i i) (diagonal i (omega arith))) ∙ not_zero (entry s j j) (diagonal j l) in
      let zero : cond (is_zero x) false (cond (is_zero (entry s i i)) true (is_zero (entry s j j))) ≡ false = ap (cond (is_zero x) false) beside ∙ both_ways (is_zero x) in
      other (lt_z b x) true _ e.0 ∙ other (lt_z x (neg_ℤ b)) true _ e.1
      ∙ by_cases (eqb i j)
      (λ t. chosen (eqb i j) (lt_z x (pos 0)) _ t ∙ subst (λ k. lt_z (entry s k j) (pos 0) ≡ false) (sym (eqb-true i j t)) (not_below (entry s j j) (diagonal j l)))
      (λ t. other (eqb i j) (lt_z x (pos 0)) _ t ∙ zero)

  pub plain_sound : columns_from (breaks b s) 0 p ≡ none
  plain_sound = columns_sound (breaks b s) p sound_at_lem

-- The tests of one sum put together.
-- Assumes nothing.
use Prim.Native.Nat.{ℕ, ◌+◌, ◌<◌}
use mathlib.Core.Path.{◌≡◌, refl, sym, ap, ◌∙◌, subst}
use mathlib.Core.List.{List}
use mathlib.Core.Bool.{Bool, true, false, cond}
use native.Mathlib.Omega.{arith}
use borrow.Author.Tests.{eq-eqb, ne_eqb, eqb-true, eqb-false, le-ltb}
use lib.IntN.{ℤ, pos, negsuc, neg_ℤ}
use lib.Signed.{lt_z}
use mir.Syntax.{w64}
use mir.Val.{SFits, to_z, of_z}
use mir.ValLaws.{to_z-of_z}
use lib.Dec.{eqb, ltb}
use lib.ListN.{get_or}
use Rattle.num_whole.specs.Tests.{same, pick, both, either}
use Rattle.num_whole.proofs.Cases.{apart, fails, holds, last_fails, at_last, is_same, not_same, by_cases}
use Rattle.num_packed.specs.Sound.{entry, is_zero, breaks, breaks_side}
use Rattle.num_packed.proofs.Tests.{chosen, other}
use Rattle.num_packed.specs.Triangle.{tri}
use Rattle.norm_system.specs.System.{breaks_in}
use Rattle.norm_sum.specs.Sums.{sums_at, past, least_of}

-- ---- what the code reads
module _ (s : List ℕ) (start n k : ℕ) (x : ℤ) (fits : SFits w64 x) (told : (n : ℕ) → k < n → x ≡ get_or (sums_at s start n) k (pos 0)) where
  pub sum_read : k < n → to_z w64 (of_z w64 x) ≡ get_or (sums_at s start n) k (pos 0)
  sum_read h = to_z-of_z w64 x fits ∙ told n h

  pub entry_read : (i j : ℕ) → k ≡ tri j + i → tri j + i < n → to_z w64 (of_z w64 x) ≡ entry (sums_at s start n) i j
  entry_read i j e h = sum_read (omega arith) ∙ ap (λ p. get_or (sums_at s start n) p (pos 0)) e

-- ---- a bound
cond_true : (a b : Bool) → cond a true b ≡ true → (c : Bool) → cond a true (cond b true c) ≡ true
cond_true true b e c = refl
cond_true false b e c = rw e

cond_false : (a b : Bool) → cond a true b ≡ false → (c : Bool) → cond a true (cond b true c) ≡ c
cond_false true b e c = absurd (apart e)
cond_false false b e c = rw e

module _ (b : ℕ) (x : ℤ) where
  is_past : past b x ≡ true → (c : Bool) → cond (lt_z (pos b) x) true (cond (lt_z x (neg_ℤ (pos b))) true c) ≡ true
  unfolding past
  is_past = cond_true (lt_z (pos b) x) (lt_z x (neg_ℤ (pos b)))

  not_past : past b x ≡ false → (c : Bool) → cond (lt_z (pos b) x) true (cond (lt_z x (neg_ℤ (pos b))) true c) ≡ c
  unfolding past
  not_past = cond_false (lt_z (pos b) x) (lt_z x (neg_ℤ (pos b)))

-- ---- an entry of the matrix, x
module _ (b : ℕ) (m : List ℤ) (i j : ℕ) (x : ℤ) (is : x ≡ entry m i j) where
  pub entry_past : past b x ≡ true → true ≡ breaks (pos b) m i j
  unfolding breaks
  entry_past e = sym (is_past b (entry m i j) (rw is at e) _)

  module _ (e : past b x ≡ false) where
    within : (c : Bool) → cond (lt_z (pos b) (entry m i j)) true (cond (lt_z (entry m i j) (neg_ℤ (pos b))) true c) ≡ c
    within c = not_past b (entry m i j) (rw is at e) c

    pub entry_diagonal : i ≡ j → lt_z x (pos 0) ≡ breaks (pos b) m i j
    unfolding breaks
    entry_diagonal d = ap (λ z. lt_z z (pos 0)) is ∙ sym (within _ ∙ chosen (eqb i j) _ _ (eq-eqb i j d))

    module _ (d : i ≡ j → ⊥) where
      beside : (c : Bool) → cond (eqb i j) (lt_z (entry m i j) (pos 0)) c ≡ c
      beside c = other (eqb i j) _ _ (ne_eqb i j d)

      pub entry_zero : is_zero x ≡ true → false ≡ breaks (pos b) m i j
      unfolding breaks
      entry_zero z = sym (within _ ∙ beside _ ∙ chosen (is_zero (entry m i j)) _ _ (rw is at z))

      module _ (z : is_zero x ≡ false) where
        beyond : (c : Bool) → cond (is_zero (entry m i j)) false c ≡ c
        beyond c = other (is_zero (entry m i j)) _ _ (rw is at z)

        pub entry_row : is_zero (entry m i i) ≡ true → true ≡ breaks (pos b) m i j
        unfolding breaks
        entry_row r = sym (within _ ∙ beside _ ∙ beyond _ ∙ chosen (is_zero (entry m i i)) _ _ r)

        pub entry_column : is_zero (entry m i i) ≡ false → is_zero (entry m j j) ≡ breaks (pos b) m i j
        unfolding breaks
        entry_column r = sym (within _ ∙ beside _ ∙ beyond _ ∙ other (is_zero (entry m i i)) _ _ r)

-- ---- the same in either form: only a diagonal's least value differs
below_one : (z : ℤ) → either (is_zero z) (lt_z z (pos 0)) ≡ lt_z z (pos 1)
unfolding either
below_one (pos n) =
    by_cases (eqb n 0)
    (λ e. subst (λ m. either (eqb m 0) (ltb m 0) ≡ ltb m 1) (sym (eqb-true n 0 e)) refl)
    (λ e. let off : n ≡ 0 → ⊥ = eqb-false n 0 e in
    ap (λ t. either t (ltb n 0)) e ∙ le-ltb n 0 (omega arith) ∙ sym (le-ltb n 1 (omega arith)))
below_one (negsuc n) = refl

below_least : (small : Bool) (z : ℤ) → lt_z z (least_of small) ≡ either (both small (is_zero z)) (lt_z z (pos 0))
unfolding least_of pick both either
below_least true z = sym (below_one z)
below_least false z = refl

either_true : (a : Bool) {b : Bool} → true ≡ b → true ≡ either a b
unfolding either
either_true true e = refl
either_true false e = e

module _ (small : Bool) (b : ℤ) (m : List ℤ) (i j : ℕ) where
  pub form_broken : true ≡ breaks b m i j → true ≡ breaks_in small b m i j
  unfolding breaks_in
  form_broken e = either_true _ e

  pub form_diagonal : (x least : ℤ) → least ≡ least_of small → x ≡ entry m i j → i ≡ j → lt_z x (pos 0) ≡ breaks b m i j → lt_z x least ≡ breaks_in small b m i j
  unfolding breaks_in
  form_diagonal x least low is d e =
      ap (lt_z x) low
      ∙ below_least small x
      ∙ ap (λ z. either (both small z) (lt_z x (pos 0))) (holds (same i j) (is_zero (entry m i j)) (is_same i j d) (ap is_zero is))
      ∙ ap (either (both small (both (same i j) (is_zero (entry m i j))))) e

  pub form_beside : {t : Bool} → (i ≡ j → ⊥) → t ≡ breaks b m i j → t ≡ breaks_in small b m i j
  unfolding breaks_in
  form_beside d e = at_last _ _ (last_fails small (sym (fails _ _ (not_same i j d)))) e

-- ---- a right side, y
module _ (b : ℕ) (m r : List ℤ) (i : ℕ) (y : ℤ) (is : y ≡ get_or r i (pos 0)) where
  pub side_past : past b y ≡ true → true ≡ breaks_side (pos b) m r i
  unfolding breaks_side
  side_past e = sym (is_past b (get_or r i (pos 0)) (rw is at e) _)

  module _ (e : past b y ≡ false) where
    inside : (c : Bool) → cond (lt_z (pos b) (get_or r i (pos 0))) true (cond (lt_z (get_or r i (pos 0)) (neg_ℤ (pos b))) true c) ≡ c
    inside c = not_past b (get_or r i (pos 0)) (rw is at e) c

    pub side_zero : is_zero y ≡ true → false ≡ breaks_side (pos b) m r i
    unfolding breaks_side
    side_zero z = sym (inside _ ∙ chosen (is_zero (get_or r i (pos 0))) _ _ (rw is at z))

    pub side_diagonal : is_zero y ≡ false → is_zero (entry m i i) ≡ breaks_side (pos b) m r i
    unfolding breaks_side
    side_diagonal z = sym (inside _ ∙ other (is_zero (get_or r i (pos 0))) _ _ (rw is at z))

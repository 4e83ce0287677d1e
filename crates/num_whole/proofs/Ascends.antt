-- A list ascends strictly by a key where each element's key is below the next one's.
-- Assumes nothing.
use Rattle.std.proofs.Common.{◌≡◌, ℕ, zero, suc, ◌+◌, ◌<◌, ◌≤◌, List, [], ◌∷◌, length, get_or, Bool, ltb, true, false, refl, sym, arith, add-one}
use Rattle.std.specs.List.{IsAllAdjacentAnswer}
use borrow.Author.Tests.{ltb-true, ltb-false}
use Rattle.num_whole.specs.Lists.{ascend}
use Rattle.num_whole.proofs.Cases.{holds, fails, last_fails, is_up_to, not_up_to}

module _ {A : Type 0} (key : A → ℕ) (d : A) where
  pub up : (l : List A) (floor : ℕ) → (0 < length l → floor ≤ key (get_or l 0 d))
      → ((k : ℕ) → suc k < length l → key (get_or l k d) < key (get_or l (suc k) d)) → ascend key floor l ≡ true
  unfolding ascend
  up [] floor first next = refl
  up (x ∷ l) floor first next =
      let h : ascend key (key x + 1) l ≡ true
      = up l (key x + 1) (λ p. let h : key x < key (get_or l 0 d) = next 0 (omega arith) in omega arith) (λ k p. next (suc k) (omega arith)) in
      sym (holds _ _ (is_up_to _ _ (first (omega arith))) (sym h))

  pub down : (l : List A) (floor k : ℕ) → suc k < length l → key (get_or l (suc k) d) ≤ key (get_or l k d) → ascend key floor l ≡ false
  unfolding ascend
  down [] floor k p h = absurd (omega arith)
  down (x ∷ []) floor k p h = absurd (omega arith)
  down (x ∷ y ∷ l) floor zero p h = last_fails _ (sym (fails _ _ (not_up_to _ _ (omega arith))))
  down (x ∷ y ∷ l) floor (suc k) p h = last_fails _ (down (y ∷ l) (key x + 1) k (omega arith) h)

  -- what `is_sorted_by` answers to a comparison of keys
  pub ascends : (l : List A) (r : Bool) → IsAllAdjacentAnswer (λ x y b. b ≡ ltb (key x) (key y)) l r → r ≡ ascend key 0 l
  ascends l true h = sym (up l 0 (λ p. omega arith) (λ k p. ltb-true _ _ (sym (rw add-one at (h k d (omega arith))))))
  ascends l false h = sym (down l 0 h.0 (omega (arith, h.1)) (ltb-false _ _ (sym (rw add-one at (h.2 d)))))

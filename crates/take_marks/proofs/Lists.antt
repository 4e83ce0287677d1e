-- The marks of all parameters, and what a record does to them: each parameter's word by itself, their number kept, and records in any order.
-- Assumes nothing.
use Prim.Native.Nat.{ℕ, zero, suc, ◌^◌, ◌<◌}
use mathlib.Core.Path.{◌≡◌, refl, sym, ap, ap₂, ◌∙◌, subst}
use mathlib.Core.List.{List, [], ◌∷◌}
use native.Mathlib.Nat.{le_of_suc-le-suc, not-suc-le-zero}
use lib.IntN.{ℤ, pos}
use lib.ListN.{length, get_or}
use Rattle.num_whole.specs.Tests.{pick}
use Rattle.num_whole.specs.Lists.{Each}
use Rattle.num_whole.proofs.Cases.{yes, no, by_cases}
use Rattle.num_packed.specs.Sound.{is_zero}
use Rattle.take_marks.specs.Marks.{with_mark, marks_with}
use Rattle.take_marks.proofs.Marks.{marks_swap, mark_small}

-- one word, with a mark where its partial is not 0
unfoldable marked_if : ℕ → ℤ → ℕ → ℕ
marked_if k a m = pick (is_zero a) m (with_mark m k)

pub marks_length : (k : ℕ) (a : List ℤ) (l : List ℕ) → length (marks_with k a l) ≡ length l
unfolding marks_with
marks_length k [] l = refl
marks_length k (x ∷ a) [] = refl
marks_length k (x ∷ a) (m ∷ l) = ap suc (marks_length k a l)

-- each parameter's word
module _ (k : ℕ) where
  pub mark_at : (a : List ℤ) (l : List ℕ) (i : ℕ) → i < length l → get_or (marks_with k a l) i 0 ≡ pick (is_zero (get_or a i (pos 0))) (get_or l i 0) (with_mark (get_or l i 0) k)
  unfolding marks_with
  mark_at [] l i h = yes _ _ _ refl refl
  mark_at (x ∷ a) [] i h = absurd (not-suc-le-zero h)
  mark_at (x ∷ a) (m ∷ l) zero h = refl
  mark_at (x ∷ a) (m ∷ l) (suc i) h = mark_at a l i (le_of_suc-le-suc h)

-- words of n stations stay such words
pub marks_small : (n k : ℕ) → k < n → (a : List ℤ) (l : List ℕ) → Each (λ m. m < 2 ^ n) l → Each (λ m. m < 2 ^ n) (marks_with k a l)
unfolding marks_with
marks_small n k h [] l e = e
marks_small n k h (x ∷ a) [] e = e
marks_small n k h (x ∷ a) (m ∷ l) e =
    (by_cases (is_zero x) (λ t. subst (λ z. z < 2 ^ n) (yes _ _ _ t refl) e.0) (λ t. subst (λ z. z < 2 ^ n) (no _ _ _ t refl) (mark_small n m k e.0 h)), marks_small n k h a l e.1)

-- ---- two records, in any order
swap_one : (j k : ℕ) (x y : ℤ) (m : ℕ) → marked_if k y (marked_if j x m) ≡ marked_if j x (marked_if k y m)
unfolding marked_if
swap_one j k x y m =
    by_cases (is_zero x)
    (λ s. ap (λ w. pick (is_zero y) w (with_mark w k)) (sym (yes _ m _ s refl)) ∙ yes _ _ _ s refl)
    (λ s. by_cases (is_zero y)
    (λ t. sym (yes _ _ _ t refl) ∙ ap (λ w. pick (is_zero x) w (with_mark w j)) (yes _ _ _ t refl))
    (λ t. sym (no _ _ _ t (ap (λ w. with_mark w k) (no _ m _ s refl))) ∙ marks_swap m j k ∙ no _ _ _ s (ap (λ w. with_mark w j) (no _ m _ t refl))))

swap_is : (j k : ℕ) (x y : ℤ) (m : ℕ) → pick (is_zero y) (pick (is_zero x) m (with_mark m j)) (with_mark (pick (is_zero x) m (with_mark m j)) k) ≡ pick (is_zero x) (pick (is_zero y) m (with_mark m k)) (with_mark (pick (is_zero y) m (with_mark m k)) j)
unfolding marked_if
swap_is j k x y m = swap_one j k x y m

pub records_swap : (j k : ℕ) (a b : List ℤ) (l : List ℕ) → marks_with k b (marks_with j a l) ≡ marks_with j a (marks_with k b l)
unfolding marks_with
records_swap j k [] b l = refl
records_swap j k (x ∷ a) [] l = refl
records_swap j k (x ∷ a) (y ∷ b) [] = refl
records_swap j k (x ∷ a) (y ∷ b) (m ∷ l) = ap₂ ◌∷◌ (swap_is j k x y m) (records_swap j k a b l)

-- A rule over a table or over all numbers below a bound, by one test that the checker computes: the test's passing is the rule at each place.
-- Assumes nothing.
use mathlib.Core.Path.{◌≡◌, refl, ◌∙◌, subst, sym}
use mathlib.Core.Bool.{Bool, true, false}
use mathlib.Core.List.{List, [], ◌∷◌}
use mathlib.Core.Logic.{⊎_elim}
use Prim.Native.Nat.{ℕ, zero, suc, ◌+◌, ◌<◌}
use native.Mathlib.Nat.{add-zero, zero-add, add-suc, suc-add, le_of_suc-le-suc, not-suc-le-zero, eq-or-lt_of_le}
use native.Mathlib.Omega.{arith}
use lib.ListN.{length, get_or}
use Rattle.num_whole.specs.Tests.{both, below}
use Rattle.num_whole.proofs.Cases.{holds, fails, last_fails, both_first, both_second}

-- each number below n
pub below_at : (f : ℕ → Bool) (n : ℕ) → below f n ≡ true → (k : ℕ) → k < n → f k ≡ true
unfolding below
below_at f zero t k h = absurd (not-suc-le-zero h)
below_at f (suc n) t k h =
    ⊎_elim (λ e. subst (λ m. f m ≡ true) (sym e) (both_first _ _ t)) (λ l. below_at f n (both_second _ _ t) k l)
    (eq-or-lt_of_le (le_of_suc-le-suc h))

pub below_every : (f : ℕ → Bool) (n : ℕ) → ((k : ℕ) → k < n → f k ≡ true) → below f n ≡ true
unfolding below
below_every f zero h = refl
below_every f (suc n) h = sym (holds _ _ (h n (omega arith)) (sym (below_every f n (λ k l. h k (omega arith)))))

-- one number that fails is enough
pub below_fails : (f : ℕ → Bool) (n k : ℕ) → k < n → f k ≡ false → below f n ≡ false
unfolding below
below_fails f zero k h e = absurd (not-suc-le-zero h)
below_fails f (suc n) k h e =
    ⊎_elim (λ i. sym (fails _ _ (subst (λ m. f m ≡ false) i e))) (λ l. last_fails (f n) (below_fails f n k l e))
    (eq-or-lt_of_le (le_of_suc-le-suc h))

-- the test f passes at each entry of the table and its place, counted from i
unfoldable pub every : (ℕ → ℕ → Bool) → ℕ → List ℕ → Bool
every f i [] = true
every f i (x ∷ xs) = both (f i x) (every f (suc i) xs)

from : (f : ℕ → ℕ → Bool) (xs : List ℕ) (i : ℕ) → every f i xs ≡ true → (k : ℕ) → k < length xs → f (i + k) (get_or xs k 0) ≡ true
unfolding every
from f [] i t k h = absurd (not-suc-le-zero h)
from f (x ∷ xs) i t zero h = subst (λ m. f m x ≡ true) (sym (add-zero i)) (both_first _ _ t)
from f (x ∷ xs) i t (suc k) h =
    subst (λ m. f m (get_or xs k 0) ≡ true) (suc-add i k ∙ sym (add-suc i k))
    (from f xs (suc i) (both_second (f i x) _ t) k (le_of_suc-le-suc h))

-- each entry of a table
pub every_at : (f : ℕ → ℕ → Bool) (xs : List ℕ) → every f 0 xs ≡ true → (k : ℕ) → k < length xs → f k (get_or xs k 0) ≡ true
every_at f xs t k h = subst (λ m. f m (get_or xs k 0) ≡ true) (zero-add k) (from f xs 0 t k h)

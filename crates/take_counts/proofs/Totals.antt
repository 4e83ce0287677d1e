-- The tests of the counts, from and to what a walk over them finds; their total.
-- Assumes nothing.
use Prim.Native.Nat.{ℕ, suc, ◌+◌, ◌*◌, ◌≤◌, ◌<◌, zero-le}
use mathlib.Core.Path.{◌≡◌, refl}
use mathlib.Core.Bool.{true, false}
use mathlib.Core.List.{List, [], ◌∷◌}
use native.Mathlib.Nat.{le_trans}
use native.Mathlib.Numerals.{add-one}
use native.Mathlib.Omega.{arith}
use lib.ListN.{length, get_or, drop, drop_of_length-le}
use lib.Seq.{drop-cons}
use Rattle.num_whole.specs.Tests.{less, pick}
use Rattle.num_whole.proofs.Cases.{yes, no, is_up_to, not_up_to, up_to_true, by_cases}
use Rattle.num_whole.proofs.Tables.{below_at, below_every, below_fails}
use Rattle.take_counts.specs.Counts.{sum_of, counts_sound}

module _ (stations : ℕ) (counts : List ℕ) where
  pub counts_pass : ((i : ℕ) → i < 16 → get_or counts i 0 ≤ pick (less i stations) 256 0) → counts_sound stations counts ≡ true
  unfolding counts_sound
  counts_pass h = below_every _ 16 (λ i l. is_up_to _ _ (h i l))

  pub counts_fail : (i : ℕ) → i < 16 → pick (less i stations) 256 0 < get_or counts i 0 → counts_sound stations counts ≡ false
  unfolding counts_sound
  counts_fail i l h = below_fails _ 16 i l (not_up_to _ _ h)

  -- no count is above 256
  pub counts_small : counts_sound stations counts ≡ true → (i : ℕ) → i < 16 → get_or counts i 0 ≤ 256
  unfolding counts_sound
  counts_small e i l =
      let top : pick (less i stations) 256 0 ≤ 256 =
      by_cases (less i stations) (λ t. omega (arith, yes {A = ℕ} _ 256 0 t refl)) (λ t. omega (arith, no {A = ℕ} _ 256 0 t refl)) in
      le_trans (up_to_true _ _ (below_at _ 16 e i l)) top

-- their total is at most so much for each
pub sum_le : (l : List ℕ) (m : ℕ) → ((i : ℕ) → i < length l → get_or l i 0 ≤ m) → sum_of l ≤ length l * m
unfolding sum_of
sum_le [] m h = zero-le
sum_le (a ∷ l) m h = omega (arith, h 0 (omega arith), sum_le l m (λ i g. h (suc i) (omega arith)))

-- their total, from the ith on
module _ (l : List ℕ) (i : ℕ) where
  pub sum_end : length l ≤ i → sum_of (drop i l) ≡ 0
  unfolding sum_of
  sum_end h = rw (drop_of_length-le l h)

  pub sum_more : i < length l → sum_of (drop i l) ≡ get_or l i 0 + sum_of (drop (i + 1) l)
  unfolding sum_of
  sum_more h = rw (drop-cons l i 0 h, add-one)

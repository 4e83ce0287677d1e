-- The tests of the rows, from and to what a walk over them finds; the counts of a sound tally.
-- Assumes nothing.
use Prim.Native.Nat.{ℕ, ◌≤◌, ◌<◌}
use mathlib.Core.Path.{◌≡◌, sym}
use mathlib.Core.Bool.{true, false}
use mathlib.Core.List.{List}
use lib.ListN.{get_or}
use Rattle.num_whole.specs.Tests.{less, same}
use Rattle.num_whole.specs.Lists.{all}
use Rattle.num_whole.proofs.Cases.{at_once, at_last, not_less, less_false, both_first, by_cases}
use Rattle.num_whole.proofs.Tables.{below_every, below_fails}
use Rattle.take_counts.proofs.Totals.{counts_small}
use Rattle.take_tally.specs.Tally.{no_row, count_of, rows_sound, tally_sound}
use Rattle.take_tally.specs.declared.Row.{Row}
use Rattle.take_tally.specs.declared.Tally.{Tally}

module _ (stations : ℕ) (rows : List Row) where
  pub rows_pass : ((i : ℕ) → i < 16 → stations ≤ i → all (λ t. same t 0) (get_or rows i no_row).times ≡ true) → rows_sound stations rows ≡ true
  unfolding rows_sound
  rows_pass h =
      below_every _ 16
      (λ i l. by_cases (less i stations) (λ t. sym (at_once _ _ t)) (λ t. sym (at_last _ _ t (sym (h i l (less_false i stations t))))))

  pub rows_fail : (i : ℕ) → i < 16 → stations ≤ i → all (λ t. same t 0) (get_or rows i no_row).times ≡ false → rows_sound stations rows ≡ false
  unfolding rows_sound
  rows_fail i l h e = below_fails _ 16 i l (sym (at_last _ _ (not_less i stations h) (sym e)))

pub tally_small : (stations : ℕ) (t : Tally) → tally_sound stations t ≡ true → (i : ℕ) → i < 16 → count_of t i ≤ 256
unfolding tally_sound
tally_small stations t e = counts_small stations t.counts (both_first _ _ e)

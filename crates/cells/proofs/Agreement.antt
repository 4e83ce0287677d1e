-- A table's agreement with the two index rules: one computed test over the table, and the lemma that it gives the rule at each entry.
-- Assumes nothing.
use Prim.Native.Nat.{ℕ, ◌<◌}
use mathlib.Core.Path.{◌≡◌, sym, ap, ◌∙◌}
use mathlib.Core.Bool.{Bool, true}
use mathlib.Core.List.{List}
use lib.ListN.{length, get_or}
use Rattle.num_whole.specs.Tests.{both, same}
use Rattle.num_whole.proofs.Cases.{both_first, both_second, same_true}
use Rattle.num_whole.proofs.Tables.{every, every_at}
use Rattle.cells.specs.Cells.{is_cell, cell_index, cell_of}
use Rattle.cells.specs.Table.{decoded}
use Rattle.cells.proofs.Owners.{found}

-- the entry stands for a cell whose index is the entry's place
unfoldable pub right : ℕ → ℕ → Bool
right place entry = both (is_cell (decoded entry)) (same (cell_index (decoded entry)) place)

pub agrees : (table : List ℕ) → every right 0 table ≡ true → (i : ℕ) → i < length table → decoded (get_or table i 0) ≡ cell_of i
unfolding right
agrees table t i h =
    let r : right i (get_or table i 0) ≡ true = every_at right table t i h in
    sym (found _ (both_first _ _ r)) ∙ ap cell_of (same_true _ _ (both_second _ _ r))

-- `norm_spread::spread_matrix` meets its contract. The loop's invariant: what is left to put makes the whole.
use mathlib.Core.Path.{◌≡◌}
use Prim.Native.Nat.{◌≤◌, ◌-◌}
use lib.ListN.{length}
use lib.Seq.{sets}
use Rattle.num_packed.specs.Triangle.{tri}
use Rattle.norm_labels.specs.Table.{columns_of}
use Rattle.norm_spread.specs.Spread.{stored_before, spread_column_at}
use Rattle.norm_spread.proofs.spread_matrix.Given as goal

abbrev pub invariant-loop-j : goal.invariant-loop-j
invariant-loop-j l =
    (l.j ≤ l.p) × (l.r ≡ stored_before l.s l.labels l.j) × (l.r ≤ l.j) × (l.k ≡ tri l.j) × (length l.out ≡ length l.initial.out)
    × (sets l.initial.out 0 (columns_of (spread_column_at l.s l.labels l.start) 0 l.p) ≡ sets l.out l.k (columns_of (spread_column_at l.s l.labels l.start) l.j (l.p - l.j)))

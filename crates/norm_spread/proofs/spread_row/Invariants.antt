-- `norm_spread::spread_row` meets its contract. The loop's invariant: what is left to put makes the whole.
use mathlib.Core.Path.{◌≡◌}
use Prim.Native.Nat.{◌≤◌, ◌+◌, ◌*◌, ◌-◌}
use lib.ListN.{length}
use lib.Seq.{sets}
use Rattle.norm_labels.specs.Table.{rows_of}
use Rattle.norm_spread.specs.Spread.{stored_before, spread_row_at}
use Rattle.norm_spread.proofs.spread_row.Given as goal

abbrev pub invariant-loop-i : goal.invariant-loop-i
invariant-loop-i l =
    (l.i ≤ l.n) × (l.at ≡ l.start + 8 * stored_before l.s l.labels l.i) × (stored_before l.s l.labels l.i ≤ l.i) × (length l.out ≡ length l.initial.out)
    × (sets l.initial.out l.k (rows_of (spread_row_at l.s l.labels l.start) 0 l.n) ≡ sets l.out (l.k + l.i) (rows_of (spread_row_at l.s l.labels l.start) l.i (l.n - l.i)))

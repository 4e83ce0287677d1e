-- `norm_walk::first_entry` meets its contract. The loops' invariants: the first of the columns left is the first of all, and the first of
-- the rows left is the first of the column.
use mathlib.Core.Path.{◌≡◌}
use mathlib.Core.Bool.{Bool}
use mathlib.Core.List.{List}
use Prim.Native.Nat.{ℕ, ◌+◌, ◌-◌, ◌≤◌}
use lib.IntN.{pos}
use Rattle.std.specs.Prelude.{None}
use Rattle.num_packed.specs.Triangle.{tri}
use Rattle.norm_system.specs.System.{breaks_in}
use Rattle.num_packed.specs.Found.{Found, first_from, columns_from}
use Rattle.norm_sum.specs.Sums.{sums_at}
use Rattle.norm_walk.proofs.first_entry.Given as goal

-- the test of the entries, and the walk over a column from row i on, n rows
abbrev pub entries : Bool → List ℕ → ℕ → ℕ → ℕ → ℕ → ℕ → Bool
entries small s start p bound = breaks_in small (pos bound) (sums_at s start (tri p))

abbrev pub column : Bool → List ℕ → ℕ → ℕ → ℕ → ℕ → ℕ → ℕ → Found
column small s start p bound j i n = first_from (λ v. entries small s start p bound v j) i n

abbrev pub invariant-loop-i : goal.invariant-loop-i
invariant-loop-i l = (l.i ≤ l.j + 1) × (l.found ≡ l.initial.found) × (column l.is_small l.s l.start l.p l.bound l.j 0 (l.j + 1) ≡ column l.is_small l.s l.start l.p l.bound l.j l.i (l.j + 1 - l.i))

abbrev pub invariant-all : goal.invariant-all
invariant-all l = (l.j ≤ l.p) × (l.found ≡ None) × (columns_from (entries l.is_small l.s l.start l.p l.bound) 0 l.p ≡ columns_from (entries l.is_small l.s l.start l.p l.bound) l.j (l.p - l.j))

-- `num_packed::walk` meets its contract. The loops' invariants: the first of the columns left is the first of all, and the first of the rows
-- left is the first of the column; the loops are left at the first entry that breaks.
use mathlib.Core.Path.{◌≡◌}
use mathlib.Core.List.{List}
use Prim.Native.Nat.{ℕ, ◌≤◌, ◌+◌, ◌-◌}
use lib.IntN.{ℤ}
use Rattle.std.specs.Prelude.{None}
use Rattle.num_packed.specs.Sound.{breaks}
use Rattle.num_packed.specs.Found.{Found, first_from, columns_from}
use Rattle.num_packed.proofs.walk.Given as goal

-- the walk over a column from row i on, n rows
abbrev pub column : List ℤ → ℤ → ℕ → ℕ → ℕ → Found
column s bound j i n = first_from (λ v. breaks bound s v j) i n

abbrev pub invariant-loop-i : goal.invariant-loop-i
invariant-loop-i l = (l.i ≤ l.j + 1) × (l.found ≡ l.initial.found) × (column l.s l.bound l.j 0 (l.j + 1) ≡ column l.s l.bound l.j l.i (l.j + 1 - l.i))

abbrev pub invariant-all : goal.invariant-all
invariant-all l = (l.j ≤ l.p) × (l.found ≡ None) × (columns_from (breaks l.bound l.s) 0 l.p ≡ columns_from (breaks l.bound l.s) l.j (l.p - l.j))

-- The walks over a file's sections put together, each with the bound that the code works out.
-- Assumes nothing.
use Prim.Native.Nat.{ℕ, ◌+◌, ◌^◌, ◌<◌}
use mathlib.Core.Path.{◌≡◌}
use mathlib.Core.List.{List}
use mathlib.Core.Bool.{Bool}
use lib.IntN.{ℤ, pos}
use Rattle.byte_words.specs.Words.{word}
use Rattle.num_packed.specs.Triangle.{tri}
use Rattle.num_packed.specs.Sound.{breaks_side}
use Rattle.num_packed.specs.Found.{none, at, first_from, columns_from}
use Rattle.norm_system.specs.System.{bound_of, in_matrix, in_rights, after_matrix, after_rights, totals_where, sides_where, breaks_in, sums_where}
use Rattle.norm_system.proofs.Sound.{matrix_inside, rights_inside}
use Rattle.norm_sum.specs.Sums.{sums_at}
use Rattle.norm_walk.specs.Walk.{unsound_at}

module _ (arcs p : ℕ) (m r : List ℤ) (accepted square b : ℕ) (e : b ≡ bound_of arcs accepted (2 ^ 55)) where
  pub beyond_right : (k : ℕ) → first_from (breaks_side (pos b) m r) 0 p ≡ at k → in_rights k ≡ sides_where arcs p m r accepted square
  unfolding sides_where after_rights
  beyond_right k f = let g = rw e at f in rw g

  pub beyond_totals : first_from (breaks_side (pos b) m r) 0 p ≡ none → totals_where arcs accepted square ≡ sides_where arcs p m r accepted square
  unfolding sides_where after_rights
  beyond_totals f = let g = rw e at f in rw g

module _ (small : Bool) (s : List ℕ) (arcs p matrix rights totals accepted square b : ℕ) (n : accepted ≡ word 8 s totals) (q : square ≡ word 8 s (totals + 8))
    (e : b ≡ bound_of arcs accepted (2 ^ 58))
  where
    pub unsound_matrix : (k : ℕ) → columns_from (breaks_in small (pos b) (sums_at s matrix (tri p))) 0 p ≡ at k
        → in_matrix k ≡ unsound_at small s arcs p matrix rights totals
    unfolding unsound_at sums_where after_matrix
    unsound_matrix k f = let g = rw (e, n) at f in rw g

    pub unsound_beyond : columns_from (breaks_in small (pos b) (sums_at s matrix (tri p))) 0 p ≡ none
        → sides_where arcs p (sums_at s matrix (tri p)) (sums_at s rights p) accepted square ≡ unsound_at small s arcs p matrix rights totals
    unfolding unsound_at sums_where after_matrix
    unsound_beyond f = let g = rw (e, n) at f in rw (g, n, q)

-- ---- an unsound sum is one of its section
module _ (small : Bool) (s : List ℕ) (arcs p matrix rights totals k : ℕ) where
  pub inside_matrix : unsound_at small s arcs p matrix rights totals ≡ in_matrix k → k < tri p
  unfolding unsound_at
  inside_matrix e = matrix_inside small arcs p _ _ _ _ k e

  pub inside_rights : unsound_at small s arcs p matrix rights totals ≡ in_rights k → k < p
  unfolding unsound_at
  inside_rights e = rights_inside small arcs p _ _ _ _ k e

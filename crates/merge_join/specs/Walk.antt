-- For the proofs of the code alone: no public promise and no law cites this, and an auditor may skip it.
-- A walk over two lists side by side, in the order of their union: what is still to come, and what one step takes.
use Rattle.std.specs.Prelude.{◌≡◌, List, ◌∷◌, map, ℕ, suc, ◌+◌, ◌≤◌, length, drop}
use Rattle.merge_join.specs.Join.{union}
use Rattle.norm_labels.specs.Seats.{seat}
use Rattle.merge_join.specs.declared.Turn.{Turn}

-- the places in xs of the numbers still to come, where i numbers of xs and j of ys are done
unfoldable pub ahead : List ℕ → List ℕ → ℕ → ℕ → List ℕ
ahead xs ys i j = map (λ k. i + seat (drop i xs) k) (union (drop i xs) (drop j ys))

-- a step takes one number of the union: its place in each list, and how many of each are then done
pub record Stepped (xs ys : List ℕ) (i j : ℕ) (t : Turn) : Type 0 where
  pub takes_left : ahead xs ys i j ≡ t.left ∷ ahead xs ys t.i t.j
  pub takes_right : ahead ys xs j i ≡ t.right ∷ ahead ys xs t.j t.i
  pub within_left : t.i ≤ length xs
  pub within_right : t.j ≤ length ys
  pub on : suc (i + j) ≤ t.i + t.j

-- At the places that a join gives, the numbers of two lists are those of their union.
-- Assumes nothing.
use mathlib.Core.Path.{◌≡◌, sym, ap₂, ◌∙◌, subst}
use mathlib.Core.List.{List}
use mathlib.Core.Bool.{true}
use Prim.Native.Nat.{ℕ, ◌+◌, ◌≤◌, ◌<◌}
use native.Mathlib.Omega.{arith}
use lib.ListN.{length, get_or}
use Rattle.num_whole.proofs.Cases.{apart, by_cases}
use Rattle.norm_system.specs.System.{has}
use Rattle.merge_join.specs.Join.{union, SeatedAt}
use Rattle.norm_labels.specs.Seats.{seat}
use Rattle.norm_labels.proofs.Ascending.{map_own}
use Rattle.merge_join.proofs.Union.{has_union, either_none}
use Rattle.norm_labels.proofs.Seats.{seated, unseated, has_at}
use Rattle.merge_join.proofs.Places.{in_second}
use Rattle.norm_labels.specs.Table.{rows_of}
use Rattle.norm_labels.proofs.Tables.{rows_alike, rows_map}
use Rattle.merge_heads.specs.Heads.{number_of_two, number_at, Somewhere}
use Rattle.merge_heads.proofs.Chosen.{number_first, number_second}

found : (xs ys : List ℕ) (k : ℕ) → has k (union xs ys) ≡ true → number_of_two xs ys (seat xs k) (seat ys k) ≡ k
found xs ys k h =
    by_cases (has k xs)
    (λ a. sym (number_first xs ys (seat xs k) (seat ys k) (seated xs k a).inside) ∙ (seated xs k a).is)
    (λ a. by_cases (has k ys)
    (λ b. let e : seat xs k ≡ length xs = unseated xs k a in
    sym (number_second xs ys (seat xs k) (seat ys k) (omega arith)) ∙ (seated ys k b).is)
    (λ b. absurd (apart (sym h ∙ has_union k xs ys ∙ either_none a b))))

module _ (xs ys left right : List ℕ) (pl : SeatedAt xs (union xs ys) left) (pr : SeatedAt ys (union xs ys) right) where
  pub united : rows_of (number_at xs left ys right) 0 (length (union xs ys)) ≡ union xs ys
  unfolding number_at
  united =
      let u = union xs ys in
      rows_alike (number_at xs left ys right) (λ i. get_or u i 0) (length u) 0
      (λ i h. ap₂ (number_of_two xs ys) (pl i (low i h)) (pr i (low i h)) ∙ found xs ys (get_or u i 0) (has_at u i (low i h)))
      ∙ rows_map (λ k. k) u ∙ map_own u
    where
      low : (i : ℕ) → i < 0 + length (union xs ys) → i < length (union xs ys)
      low i h = omega arith

  -- a place past the end of the first list is within the second
  pub somewhere : Somewhere (length xs) left (length ys) right (length (union xs ys))
  somewhere i h g =
      let u = union xs ys in
      subst (λ q. q < length ys) (sym (pr i h)) (in_second xs ys (get_or u i 0) (has_at u i h) (subst (λ p. length xs ≤ p) (pl i h) g))

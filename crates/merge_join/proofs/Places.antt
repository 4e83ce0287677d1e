-- What the lent rooms hold after a join, place by place.
-- Assumes nothing.
use mathlib.Core.Path.{◌≡◌, refl, sym, ap, ◌∙◌}
use mathlib.Core.List.{List, [], ◌∷◌}
use mathlib.Core.Bool.{true}
use Prim.Native.Nat.{ℕ, zero, suc, ◌+◌, ◌≤◌, ◌<◌}
use native.Mathlib.Nat.{not-suc-le-zero, le_of_suc-le-suc}
use native.Mathlib.Omega.{arith}
use lib.ListN.{length, get_or, drop, length-map, get_or-append}
use Rattle.num_whole.proofs.Cases.{apart, by_cases}
use Rattle.byte_words.specs.Words.{lay}
use Rattle.byte_words.proofs.Words.{lay_front}
use Rattle.norm_system.specs.System.{has}
use Rattle.merge_join.specs.Join.{union, SeatedAt, Joins}
use Rattle.norm_labels.specs.Seats.{seat, seats}
use Rattle.merge_join.proofs.Union.{either_none, has_union}
use Rattle.norm_labels.proofs.Seats.{seated}
use Rattle.merge_join.proofs.Shared.{union_long}

pub length_seats : (l u : List ℕ) → length (seats l u) ≡ length u
unfolding seats
length_seats l u = length-map u (seat l)

pub seats_at : (l u : List ℕ) (i : ℕ) → i < length u → get_or (seats l u) i 0 ≡ seat l (get_or u i 0)
unfolding seats
seats_at l [] i h = absurd (not-suc-le-zero h)
seats_at l (x ∷ u) zero h = refl
seats_at l (x ∷ u) (suc i) h = seats_at l u i (le_of_suc-le-suc h)

laid : (l u room : List ℕ) (i : ℕ) → length u ≤ length room → i < length u → get_or (lay room 0 (seats l u)) i 0 ≡ seat l (get_or u i 0)
laid l u room i h g =
    let n : length (seats l u) ≡ length u = length_seats l u in
    ap (λ r. get_or r i 0) (lay_front room (seats l u) (omega arith))
    ∙ get_or-append (seats l u) (drop (length (seats l u)) room) 0 i (omega arith) ∙ seats_at l u i g

-- a number of the union is within the second list where it is not within the first
pub in_second : (xs ys : List ℕ) (k : ℕ) → has k (union xs ys) ≡ true → length xs ≤ seat xs k → seat ys k < length ys
in_second xs ys k h g =
    by_cases (has k ys) (λ e. (seated ys k e).inside)
    (λ e. by_cases (has k xs) (λ f. absurd (out (seated xs k f).inside)) (λ f. absurd (apart (sym h ∙ has_union k xs ys ∙ either_none f e))))
  where
    out : seat xs k < length xs → ⊥
    out h = omega arith

module _ (xs ys left₀ right₀ left right : List ℕ) (n : ℕ) (j : Joins xs ys left₀ right₀ n left right) where
  pub left_placed : length xs + length ys ≤ length left₀ → SeatedAt xs (union xs ys) left
  left_placed room i h =
      let u : length (union xs ys) ≤ length xs + length ys = union_long xs ys in
      ap (λ l. get_or l i 0) j.left_is ∙ laid xs (union xs ys) left₀ i (omega arith) h

  pub right_placed : length xs + length ys ≤ length right₀ → SeatedAt ys (union xs ys) right
  right_placed room i h =
      let u : length (union xs ys) ≤ length xs + length ys = union_long xs ys in
      ap (λ l. get_or l i 0) j.right_is ∙ laid ys (union xs ys) right₀ i (omega arith) h

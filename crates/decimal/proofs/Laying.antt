-- Pieces of a text laid one after another.
-- Assumes nothing.
use Prim.Native.Nat.{ℕ, suc, ◌+◌, ◌-◌, ◌≤◌, ◌<◌, min}
use mathlib.Core.Path.{◌≡◌, refl, sym, ap, ap₂, ◌∙◌}
use mathlib.Core.List.{List, [], ◌++◌}
use native.Mathlib.Omega.{arith}
use lib.ListN.{length, get_or, set, take, drop, length-append, length-drop, drop_of_length-le}
use lib.Seq.{drop-cons, take_all}
use Rattle.num_whole.specs.Tests.{less}
use Rattle.num_whole.proofs.Cases.{by_cases, less_true, less_false}
use Rattle.byte_words.specs.Words.{lay}
use Rattle.byte_words.proofs.Words.{length_lay, lay_out, lay_append}
use Rattle.decimal.specs.Laid.{laid}

-- ---- a piece after a piece
module _ (s : List ℕ) (at : ℕ) (xs ys : List ℕ) where
  then_lay : lay (lay s at xs) (min (at + length xs) (length s)) ys ≡ lay s at (xs ++ ys)
  then_lay =
      by_cases (less (length s) (at + length xs))
      (λ t. let m : min (at + length xs) (length s) ≡ length s = omega (arith, less_true _ _ t) in
      let l : length (lay s at xs) ≡ length s = length_lay s at xs in
      rw m (lay_out (lay s at xs) (length s) ys (omega arith)
      ∙ sym (sym (lay_append s at (at + length xs) xs ys refl) ∙ lay_out (lay s at xs) (at + length xs) ys (omega (arith, less_true _ _ t)))))
      (λ t. let m : min (at + length xs) (length s) ≡ at + length xs = omega (arith, less_false _ _ t) in
      rw m (lay_append s at (at + length xs) xs ys refl))

  then_place : min (min (at + length xs) (length s) + length ys) (length (lay s at xs)) ≡ min (at + length (xs ++ ys)) (length s)
  then_place =
      let l : length (lay s at xs) ≡ length s = length_lay s at xs in
      let a : length (xs ++ ys) ≡ length xs + length ys = length-append xs ys in
      rw (l, a) (omega arith)

-- of room s with xs laid, and the place after them
pub laid_then : (s : List ℕ) (at : ℕ) (xs ys : List ℕ) {t : List ℕ} {n : ℕ} → (t, n) ≡ laid s at xs → laid t n ys ≡ laid s at (xs ++ ys)
unfolding laid
laid_then s at xs ys e =
    ap (λ p. (lay p.0 p.1 ys, min (p.1 + length ys) (length p.0))) e
    ∙ ap₂ (λ a b. (a, b)) (then_lay s at xs ys) (then_place s at xs ys)

-- and what is laid after them
pub laid_on : (s : List ℕ) (at : ℕ) (xs ys : List ℕ) {t : List ℕ} {n : ℕ} {p : List ℕ × ℕ} → (t, n) ≡ laid s at xs → p ≡ laid t n ys → p ≡ laid s at (xs ++ ys)
laid_on s at xs ys e f = f ∙ laid_then s at xs ys e

-- what is laid, by another name
pub laid_as : (s : List ℕ) (at : ℕ) {xs ys : List ℕ} {p : List ℕ × ℕ} → p ≡ laid s at xs → xs ≡ ys → p ≡ laid s at ys
laid_as s at e f = e ∙ ap (laid s at) f

-- nothing laid
pub laid_none : (s : List ℕ) (at : ℕ) → (s, min at (length s)) ≡ laid s at []
unfolding laid lay
laid_none s at = let z : at + 0 ≡ at = omega arith in rw z

-- a part that goes to the end is all that follows its place
pub part_to_end : (n : ℕ) (l : List ℕ) → take (length l - n) (drop n l) ≡ drop n l
part_to_end n l = take_all (length l - n) (drop n l) (simp length-drop (omega arith))

-- ---- the loop that copies: what is laid and the bytes still to come are the whole
pub copy_turn : (s text : List ℕ) (at i : ℕ) → i < length text → lay s (at + i) (drop i text) ≡ lay (set s (at + i) (get_or text i 0)) (at + (i + 1)) (drop (i + 1) text)
unfolding lay
copy_turn s text at i h =
    let next : at + (i + 1) ≡ suc (at + i) = omega arith in
    let one : i + 1 ≡ suc i = omega arith in
    rw (drop-cons text i 0 h, next, one)

pub copy_end : (s text : List ℕ) (at i : ℕ) → min (length text) (length s - at) ≤ i → lay s (at + i) (drop i text) ≡ s
unfolding lay
copy_end s text at i h =
    by_cases (less i (length text))
    (λ t. lay_out s (at + i) (drop i text) (omega (arith, less_true _ _ t)))
    (λ t. rw (drop_of_length-le text (less_false _ _ t)))

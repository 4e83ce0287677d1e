-- What stands at the places of a run, and what is left of a loop that puts it into an array.
-- Assumes nothing.
use Prim.Native.Nat.{ℕ, zero, suc, ◌+◌, ◌-◌, ◌*◌, ◌≤◌, ◌<◌}
use mathlib.Core.Path.{◌≡◌, refl, sym, ap, ◌∙◌}
use mathlib.Core.List.{List, [], ◌∷◌}
use native.Mathlib.Omega.{arith}
use native.Mathlib.Nat.{not-suc-le-zero, mul-zero, mul-suc, sub-zero}
use native.Mathlib.Numerals.{add-one}
use lib.ListN.{length, get_or, take, set, drop}
use lib.Seq.{sets, sets-eq, take_at}
use Rattle.byte_words.specs.Words.{lay}
use Rattle.byte_words.specs.Stands.{stands}

module _ {A : Type 0} (f : ℕ → A) (size : ℕ) where
  pub length_stands : (n place : ℕ) → length (stands f size n place) ≡ n
  unfolding stands
  length_stands zero place = refl
  length_stands (suc n) place = ap suc (length_stands n (place + size))

  pub stands_at : (n place k : ℕ) (d : A) → k < n → get_or (stands f size n place) k d ≡ f (place + size * k)
  unfolding stands
  stands_at zero place k d h = absurd (not-suc-le-zero h)
  stands_at (suc n) place zero d h = ap f (omega (arith, mul-zero size))
  stands_at (suc n) place (suc k) d h = stands_at n (place + size) k d (omega arith) ∙ ap f (omega (arith, mul-suc size k))

-- a walk over n of them, i done: what is left
module _ {A : Type 0} (f : ℕ → A) (size n i place : ℕ) where
  pub stands_done : n ≤ i → stands f size (n - i) place ≡ []
  unfolding stands
  stands_done h = let z : n - i ≡ zero = omega arith in rw z

  pub stands_next : i < n → stands f size (n - i) place ≡ f place ∷ stands f size (n - (i + 1)) (place + size)
  unfolding stands
  stands_next h = let one : n - i ≡ suc (n - (i + 1)) = omega arith in rw one

-- ---- what stands at n places put into an array, i of them done
module _ {A : Type 0} (f : ℕ → A) (size : ℕ) (l : List A) (n i at : ℕ) where
  pub put_end : n ≤ i → sets l i (stands f size (n - i) at) ≡ l
  unfolding stands
  put_end e = let z : n - i ≡ zero = omega arith in rw z

  pub put_turn : i < n → sets l i (stands f size (n - i) at) ≡ sets (set l i (f at)) (i + 1) (stands f size (n - (i + 1)) (at + size))
  unfolding stands
  put_turn more = let one : n - i ≡ suc (n - (i + 1)) = omega arith in rw (one, add-one i)

-- the whole of it is what the array begins with
pub put_all : {A : Type 0} (f : ℕ → A) (size n at : ℕ) (l : List A) → n ≤ length l → take n (sets l 0 (stands f size n at)) ≡ stands f size n at
put_all f size n at l h =
    let xs = stands f size n at in
    let long : length xs ≡ n = length_stands f size n at in
    ap (take n) (sets-eq xs l 0 (omega arith)) ∙ take_at xs (drop (0 + length xs) l) n long

-- ---- the same in lent room
module _ (f : ℕ → ℕ) (size : ℕ) (l : List ℕ) (n : ℕ) where
  pub load_start : (at : ℕ) → lay l 0 (stands f size n at) ≡ lay l 0 (stands f size (n - 0) at)
  load_start at = rw sub-zero

  pub load_end : (i at : ℕ) → n ≤ i → lay l i (stands f size (n - i) at) ≡ l
  unfolding lay
  load_end i at h = put_end f size l n i at h

  pub load_turn : (i at v : ℕ) → i < n → v ≡ f at → lay l i (stands f size (n - i) at) ≡ lay (set l i v) (i + 1) (stands f size (n - (i + 1)) (at + size))
  unfolding lay
  load_turn i at v h e = put_turn f size l n i at h ∙ ap (λ x. lay (set l i x) (i + 1) (stands f size (n - (i + 1)) (at + size))) (sym e)

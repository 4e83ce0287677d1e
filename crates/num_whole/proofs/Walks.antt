-- Lists that are walked: what is left of `all` and of `ascend` at each turn, for any list and for the first n elements of one, i upwards.
-- Assumes nothing.
use Prim.Native.Nat.{ℕ, zero, suc, ◌+◌, ◌≤◌, ◌<◌}
use mathlib.Core.Path.{◌≡◌}
use mathlib.Core.List.{List, [], ◌∷◌}
use mathlib.Core.Bool.{Bool, true, false}
use native.Mathlib.Omega.{arith}
use native.Mathlib.Nat.{not-suc-le-zero, le_of_suc-le-suc}
use native.Mathlib.Numerals.{add-one}
use lib.ListN.{length, take, get_or, length-take, drop_of_length-le}
use lib.Seq.{drop-cons, get_or-take}
use Rattle.num_whole.specs.Tests.{both}
use Rattle.num_whole.specs.Lists.{all, ascend, rest}
use Rattle.num_whole.proofs.Cases.{is_up_to, not_up_to, both_first, both_second}

-- what holds of each element holds of the one at a place
pub all_at : {A : Type 0} (f : A → Bool) (l : List A) (d : A) (i : ℕ) → all f l ≡ true → i < length l → f (get_or l i d) ≡ true
unfolding all
all_at f [] d i e h = absurd (not-suc-le-zero h)
all_at f (a ∷ l) d zero e h = both_first _ _ e
all_at f (a ∷ l) d (suc i) e h = all_at f l d i (both_second _ _ e) (le_of_suc-le-suc h)

-- a list that is walked: nothing is left, or one element and what follows it
module _ {A : Type 0} (f : A → Bool) {l : List A} where
  pub all_done : l ≡ [] → all f l ≡ true
  unfolding all
  all_done e = rw e

  module _ {a : A} {m : List A} (e : l ≡ a ∷ m) where
    pub all_on : f a ≡ true → all f l ≡ all f m
    unfolding all both
    all_on t = rw (e, t)

    pub all_off : f a ≡ false → all f l ≡ false
    unfolding all both
    all_off t = rw (e, t)

module _ {A : Type 0} (key : A → ℕ) (floor : ℕ) {l : List A} where
  pub ascend_done : l ≡ [] → ascend key floor l ≡ true
  unfolding ascend
  ascend_done e = rw e

  module _ {a : A} {m : List A} (e : l ≡ a ∷ m) where
    pub ascend_on : floor ≤ key a → ascend key floor l ≡ ascend key (key a + 1) m
    unfolding ascend both
    ascend_on t = rw (e, is_up_to _ _ t)

    pub ascend_off : key a < floor → ascend key floor l ≡ false
    unfolding ascend both
    ascend_off t = rw (e, not_up_to _ _ t)

-- the first n elements of a list, i of them done
module _ {A : Type 0} (l : List A) (n i : ℕ) where
  pub rest_end : n ≤ i → rest l n i ≡ []
  unfolding rest
  rest_end e = let h : length (take n l) ≤ i = simp length-take (omega arith) in drop_of_length-le (take n l) h

  pub rest_more : (d : A) → n ≤ length l → i < n → rest l n i ≡ get_or l i d ∷ rest l n (i + 1)
  unfolding rest
  rest_more d fits more =
      let h : i < length (take n l) = simp length-take (omega arith) in
      rw (drop-cons (take n l) i d h, get_or-take n l i d more, add-one)

  module _ (f : A → Bool) where
    pub all_end : n ≤ i → all f (rest l n i) ≡ true
    all_end e = all_done f (rest_end e)

    module _ (d : A) (fits : n ≤ length l) (more : i < n) where
      pub all_pass : f (get_or l i d) ≡ true → all f (rest l n i) ≡ all f (rest l n (i + 1))
      all_pass = all_on f (rest_more d fits more)

      pub all_fail : f (get_or l i d) ≡ false → all f (rest l n i) ≡ false
      all_fail = all_off f (rest_more d fits more)

  module _ (key : A → ℕ) (floor : ℕ) where
    pub ascend_end : n ≤ i → ascend key floor (rest l n i) ≡ true
    ascend_end e = ascend_done key floor (rest_end e)

    module _ (d : A) (fits : n ≤ length l) (more : i < n) where
      pub ascend_pass : floor ≤ key (get_or l i d)
          → ascend key floor (rest l n i) ≡ ascend key (key (get_or l i d) + 1) (rest l n (i + 1))
      ascend_pass = ascend_on key floor (rest_more d fits more)

      pub ascend_fail : key (get_or l i d) < floor → ascend key floor (rest l n i) ≡ false
      ascend_fail = ascend_off key floor (rest_more d fits more)

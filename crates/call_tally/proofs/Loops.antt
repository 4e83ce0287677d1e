-- The loops over a heading's and a tally's values: what stands at n places put into an array of one filling (turn and end are in
-- byte_words/proofs/Stands.antt), and records laid one after the other.
-- Assumes nothing.
use Prim.Native.Nat.{ℕ, ◌+◌, ◌-◌, ◌*◌, ◌≤◌, ◌<◌}
use mathlib.Core.Path.{◌≡◌, sym, ap, ◌∙◌}
use mathlib.Core.List.{List}
use native.Mathlib.Omega.{arith}
use native.Mathlib.Nat.{sub-zero}
use lib.ListN.{length, length-append, get_or, replicate}
use lib.Seq.{sets, take_all}
use Rattle.num_whole.specs.Lists.{rest, padded}
use Rattle.num_whole.proofs.Walks.{rest_end, rest_more}
use Rattle.byte_words.specs.Words.{lay}
use Rattle.byte_words.proofs.Words.{lay_append}
use Rattle.byte_section.specs.Section.{encoded}
use Rattle.num_whole.proofs.Padded.{put_padded}
use Rattle.byte_words.specs.Stands.{stands}
use Rattle.byte_words.proofs.Stands.{length_stands}

module _ {A : Type 0} (f : ℕ → A) (size n at : ℕ) (d : A) where
  pub fill_start : (room : ℕ) → n ≤ room → sets (replicate room d) 0 (stands f size (n - 0) at) ≡ padded room d (stands f size n at)
  fill_start room h = rw (sub-zero n) (put_padded room d (stands f size n at) (rw length_stands h))

-- a walk over a whole list
pub rest_whole : {A : Type 0} (l : List A) (n : ℕ) → length l ≡ n → l ≡ rest l n 0
unfolding rest
rest_whole l n e = sym (take_all n l (omega arith))

-- ---- records laid one after the other: what is left at each turn
module _ {A : Type 0} (bytes : A → List ℕ) (out : List ℕ) (at : ℕ) (l : List A) (n i : ℕ) where
  pub lay_end : n ≤ i → lay out at (encoded bytes (rest l n i)) ≡ out
  unfolding encoded lay
  lay_end e = rw (rest_end l n i e)

  pub lay_turn : (d : A) (k : ℕ) → n ≤ length l → i < n → length (bytes (get_or l i d)) ≡ k
      → lay out at (encoded bytes (rest l n i)) ≡ lay (lay out at (bytes (get_or l i d))) (at + k) (encoded bytes (rest l n (i + 1)))
  unfolding encoded
  lay_turn d k fits more long = rw (rest_more l n i d fits more) (sym (lay_append _ _ _ _ _ (simp long)))

-- how long they are: a total of k bytes for each turn that was made and of what is left
module _ {A : Type 0} (bytes : A → List ℕ) (k : ℕ) (l : List A) (total n i : ℕ) (so_far : total ≡ k * i + length (encoded bytes (rest l n i))) where
  pub long_end : n ≤ i → total ≡ k * i
  unfolding encoded
  long_end e =
      let none : length (encoded bytes (rest l n i)) ≡ 0 = rw (rest_end l n i e) in
      omega (arith, so_far, none)

  pub long_turn : (d : A) → n ≤ length l → i < n → length (bytes (get_or l i d)) ≡ k → total ≡ k * (i + 1) + length (encoded bytes (rest l n (i + 1)))
  unfolding encoded
  long_turn d fits more long =
      let here : length (encoded bytes (rest l n i)) ≡ length (bytes (get_or l i d)) + length (encoded bytes (rest l n (i + 1))) =
      rw (rest_more l n i d fits more) (length-append (bytes (get_or l i d)) (encoded bytes (rest l n (i + 1)))) in
      omega (arith, so_far, here, long)

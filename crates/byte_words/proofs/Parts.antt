-- Words in the bytes where they stand: a number's bytes anywhere in a list are read back, and the bytes of a word that was read are that
-- part of the list.
-- Assumes nothing.
use mathlib.Core.Path.{◌≡◌, refl, sym, ap, ap₂, ◌∙◌}
use mathlib.Core.List.{List, ◌∷◌, ◌++◌, append_assoc, append-nil}
use Prim.Native.Nat.{ℕ, zero, suc, ◌+◌, ◌*◌, ◌/◌, ◌%◌, ◌^◌, ◌<◌, ◌≤◌}
use native.Mathlib.Omega.{arith}
use lib.IntN.{ℤ}
use lib.ListN.{length, get_or, take, drop, length-drop, drop_of_length-le}
use lib.Seq.{sets-eq, length-take-le, get_or-take, get_or-drop, drop-cons, take-add, drop-drop}
use mir.Syntax.{Width}
use mir.Val.{SFits, to_z, of_z, bits, bytes}
use mir.ValLaws.{to_z-of_z, of_z-to_z, of_z_fits}
use Rattle.byte_words.specs.Words.{word, bytes_of, lay, signed_word, signed_bytes}
use Rattle.byte_words.proofs.Words.{Bytes, word_after, word_bytes_of, word_small}
use Rattle.byte_words.proofs.Signs.{full}

-- what stands j bytes into what follows a list of m bytes
pub word_past : (k : ℕ) (p s : List ℕ) (m j : ℕ) → length p ≡ m → word k (p ++ s) (m + j) ≡ word k s j
word_past k p s m j e = rw (← e) (word_after k p s j)

-- a word within a part of a list is the whole list's
pub word_part : (k : ℕ) (s : List ℕ) (at n j m : ℕ) → m ≡ at + j → j + k ≤ n → word k (take n (drop at s)) j ≡ word k s m
unfolding word
word_part zero s at n j m e h = refl
word_part (suc k) s at n j m e h =
    ap₂ (λ a b. a + 256 * b) (get_or-take n (drop at s) j 0 (omega arith) ∙ get_or-drop at s j 0 ∙ ap (λ i. get_or s i 0) (sym e)) (word_part k s at n (suc j) (suc m) (omega arith) (omega arith))

pub signed_part : (w : Width) (s : List ℕ) (at n j m : ℕ) → m ≡ at + j → j + bytes w ≤ n → signed_word w (take n (drop at s)) j ≡ signed_word w s m
unfolding signed_word
signed_part w s at n j m e h = ap (to_z w) (word_part (bytes w) s at n j m e h)

-- bytes laid over a part of just their length, put back, are laid over the whole
pub lay_part : (s : List ℕ) (at n : ℕ) (bs : List ℕ) → n ≡ length bs → at + length bs ≤ length s → take at s ++ (lay (take n (drop at s)) 0 bs ++ drop n (drop at s)) ≡ lay s at bs
unfolding lay
lay_part s at n bs e h =
    let d = drop at s in
    let p : length (take n d) ≡ length bs = ap (λ m. length (take m d)) e ∙ length-take-le (length bs) d (rw (length-drop at s) (omega arith)) in
    let z : 0 + length bs ≡ length bs = omega arith in
    let none : length (take n d) ≤ 0 + length bs = omega arith in
    let all : lay (take n d) 0 bs ≡ bs = sets-eq bs (take n d) 0 (omega arith) ∙ ap (λ r. bs ++ r) (drop_of_length-le (take n d) none) ∙ append-nil bs in
    ap₂ (λ x y. take at s ++ (x ++ y)) all (drop-drop n at s ∙ ap (λ m. drop (at + m) s) e)
    ∙ sym (append_assoc (take at s) bs (drop (at + length bs) s)) ∙ sym (sets-eq bs s at h)

-- ---- written, then read
pub signed_back : (w : Width) (z : ℤ) (r : List ℕ) → SFits w z → to_z w (word (bytes w) (signed_bytes w z ++ r) 0) ≡ z
unfolding signed_bytes
signed_back w z r f = ap (to_z w) (word_bytes_of (bytes w) (of_z w z) r (rw (full w) (of_z_fits w z f).fits)) ∙ to_z-of_z w z f

-- ---- read, then written
module _ (s : List ℕ) (bounded : Bytes s) where
  pub word_forth : (k at : ℕ) → at + k ≤ length s → bytes_of k (word k s at) ≡ take k (drop at s)
  unfolding word bytes_of
  word_forth zero at h = refl
  word_forth (suc k) at h =
      let low : (get_or s at 0 + 256 * word k s (suc at)) % 256 ≡ get_or s at 0 = omega (arith, bounded at) in
      let high : (get_or s at 0 + 256 * word k s (suc at)) / 256 ≡ word k s (suc at) = omega (arith, bounded at) in
      rw (low, high, drop-cons s at 0 (omega arith)) (ap (λ r. get_or s at 0 ∷ r) (word_forth k (suc at) (omega arith)))

  pub signed_forth : (w : Width) (at : ℕ) → at + bytes w ≤ length s → signed_bytes w (signed_word w s at) ≡ take (bytes w) (drop at s)
  unfolding signed_word signed_bytes
  signed_forth w at h =
      let small : word (bytes w) s at < 2 ^ bits w = rw (full w) at (word_small (bytes w) s at bounded) in
      ap (bytes_of (bytes w)) (of_z-to_z w (word (bytes w) s at) (record { fits = small })) ∙ word_forth (bytes w) at h

-- one part after another is one part
pub parts_join : (s : List ℕ) (at a b n m : ℕ) → n ≡ at + a → m ≡ a + b → take a (drop at s) ++ take b (drop n s) ≡ take m (drop at s)
parts_join s at a b n m e f = rw (e, f, take-add a b (drop at s), drop-drop a at s)

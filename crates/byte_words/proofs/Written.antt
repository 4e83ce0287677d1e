-- Words at the front of a list and after other words, for bytes that were written one after another.
-- Assumes nothing.
use Prim.Native.Nat.{ℕ, ◌+◌}
use mathlib.Core.Path.{◌≡◌}
use mathlib.Core.List.{List, ◌++◌}
use native.Mathlib.Nat.{add-zero}
use lib.IntN.{ℤ}
use lib.ListN.{length}
use mir.Syntax.{Width}
use mir.Val.{bytes}
use Rattle.byte_words.specs.Words.{word, bytes_of, signed_bytes}
use Rattle.byte_words.proofs.Words.{length_bytes_of, word_after}
use Rattle.byte_words.proofs.Parts.{word_past}

pub length_signed : (w : Width) (z : ℤ) → length (signed_bytes w z) ≡ bytes w
unfolding signed_bytes
length_signed w z = length_bytes_of _ _

-- what stands at the end of a list stands at the front of what follows it
pub word_first : (k : ℕ) (p s : List ℕ) → word k (p ++ s) (length p) ≡ word k s 0
word_first k p s = let z : length p + 0 ≡ length p = add-zero (length p) in rw z at (word_after k p s 0)

-- a word after a word of m bytes
pub word_beside : (k m n : ℕ) (s : List ℕ) (j : ℕ) → word k (bytes_of m n ++ s) (m + j) ≡ word k s j
word_beside k m n s j = word_past k (bytes_of m n) s m j (length_bytes_of m n)

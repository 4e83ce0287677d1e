-- Document 01, 'Arc file': "Little-endian." Words of k bytes at a place of a list of bytes, read and written, one definition for every width.
use Rattle.std.specs.Prelude.{List, [], ◌∷◌, ℕ, zero, suc, ◌+◌, ◌*◌, ◌/◌, ◌%◌, ℤ, get_or}
use Rattle.std.proofs.lemmas.List.Edits.{sets}
use Rattle.std.specs.Int.{Width}
use mir.Val.{to_z, of_z, bytes}

-- the number of the k bytes from a place on, the least first; a byte past the end counts as 0
unfoldable pub word : ℕ → List ℕ → ℕ → ℕ
word zero s at = 0
word (suc k) s at = get_or s at 0 + 256 * word k s (suc at)

-- the k bytes of a number, the least first
unfoldable pub bytes_of : ℕ → ℕ → List ℕ
bytes_of zero n = []
bytes_of (suc k) n = n % 256 ∷ bytes_of k (n / 256)

-- the list with bytes laid over it from a place on; a byte that would lie past the end is dropped, and the length stays
unfoldable pub lay : List ℕ → ℕ → List ℕ → List ℕ
lay s at bs = sets s at bs

-- the same for signed numbers, in two's complement of a width
unfoldable pub signed_word : Width → List ℕ → ℕ → ℤ
signed_word w s at = to_z w (word (bytes w) s at)

unfoldable pub signed_bytes : Width → ℤ → List ℕ
signed_bytes w z = bytes_of (bytes w) (of_z w z)

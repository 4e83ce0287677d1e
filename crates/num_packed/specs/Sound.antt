-- Document 01, 'Normal file': "a zero diagonal has zeros in its row, column and right side"; "diagonal not negative"; "Each sum is judged
-- alone: it is unsound if it breaks a bound, or should be zero and isn't".
use Rattle.std.specs.Prelude.{Bool, true, false, cond, List, ℕ, ◌+◌, eqb, ℤ, pos, negsuc, neg_ℤ, get_or}
use Rattle.std.specs.Int.Signed.{lt_z}
use Rattle.num_packed.specs.Triangle.{tri}

-- the entry of row i and column j
abbrev pub entry : List ℤ → ℕ → ℕ → ℤ
entry s i j = get_or s (tri j + i) (pos 0)

abbrev pub is_zero : ℤ → Bool
is_zero (pos n) = eqb n 0
is_zero (negsuc n) = false

-- an entry is too large, or is below 0 on the diagonal, or is not 0 where the diagonal of its row or of its column is 0
unfoldable pub breaks : ℤ → List ℤ → ℕ → ℕ → Bool
breaks b s i j =
    cond (lt_z b (entry s i j)) true
    (cond (lt_z (entry s i j) (neg_ℤ b)) true
    (cond (eqb i j) (lt_z (entry s i j) (pos 0))
    (cond (is_zero (entry s i j)) false
    (cond (is_zero (entry s i i)) true (is_zero (entry s j j))))))

-- a right side is too large, or is not 0 where the diagonal of its parameter is 0
unfoldable pub breaks_side : ℤ → List ℤ → List ℤ → ℕ → Bool
breaks_side b s r i =
    cond (lt_z b (get_or r i (pos 0))) true
    (cond (lt_z (get_or r i (pos 0)) (neg_ℤ b)) true
    (cond (is_zero (get_or r i (pos 0))) false (is_zero (entry s i i))))

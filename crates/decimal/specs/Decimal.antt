-- Document 01, 'At the edges' 7: numbers as the arc program prints them, in ASCII: decimal digits with no leading zero, a minus before a negative
-- number.
use Rattle.std.specs.Prelude.{ℕ, zero, suc, ◌+◌, ◌-◌, ◌*◌, ◌/◌, ◌%◌, List, [], ◌∷◌, ℤ, pos, negsuc}
use Rattle.num_whole.specs.Tests.{less, pick}

-- the digits of n before those that stand already, at most so many
unfoldable pub digits_of : ℕ → ℕ → List ℕ → List ℕ
digits_of zero n rest = rest
digits_of (suc k) n rest = pick (less n 10) ((48 + n) ∷ rest) (digits_of k (n / 10) ((48 + n % 10) ∷ rest))

-- twenty digits are enough for every number of 64 bits
unfoldable pub decimal : ℕ → List ℕ
decimal n = digits_of 20 n []

unfoldable pub signed_decimal : ℤ → List ℕ
signed_decimal (pos n) = decimal n
signed_decimal (negsuc n) = 45 ∷ decimal (suc n)

-- the number that digits stand for, behind the number n
unfoldable pub number_behind : ℕ → List ℕ → ℕ
number_behind n [] = n
number_behind n (d ∷ l) = number_behind (n * 10 + (d - 48)) l

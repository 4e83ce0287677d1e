-- A table of counts as answers come in, one after another: each adds one at its own place.
use Rattle.std.specs.Prelude.{ℕ, ◌+◌, ◌<◌, ◌^◌, List, [], ◌∷◌, get_or, set}

unfoldable pub counted : List ℕ → List ℕ → List ℕ
counted table [] = table
counted table (x ∷ told) = counted (set table x (get_or table x 0 + 1)) told

-- n answers more can be counted in words of 64 bits
abbrev pub CountsFit : List ℕ → ℕ → Type 0
CountsFit table n = (k : ℕ) → get_or table k 0 + n < 2 ^ 64

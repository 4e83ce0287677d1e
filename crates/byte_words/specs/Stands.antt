-- Things of one size that stand one after the other.
use Rattle.std.specs.Prelude.{ℕ, zero, suc, ◌+◌, List, [], ◌∷◌}

-- n of them from a place on: f says what stands at a place
unfoldable pub stands : {A : Type 0} → (ℕ → A) → ℕ → ℕ → ℕ → List A
stands f size zero place = []
stands f size (suc n) place = f place ∷ stands f size n (place + size)

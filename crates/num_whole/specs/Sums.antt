-- Sums of whole numbers over a list, and lists added entry by entry.
use Rattle.std.specs.Prelude.{List, [], ◌∷◌, ℕ, ◌≤◌, ℤ, pos, ◌+ℤ◌, nat_abs, get_or}

-- the sum of what f gives for each element
unfoldable pub total : {A : Type 0} → (A → ℤ) → List A → ℤ
total f [] = pos 0
total f (x ∷ l) = f x +ℤ total f l

-- the entries of l, each with the entry of p at its place added; l keeps its length, and an entry that p does not reach is as it was
unfoldable pub plus : List ℤ → List ℤ → List ℤ
plus [] p = []
plus (x ∷ l) [] = x ∷ l
plus (x ∷ l) (y ∷ p) = (x +ℤ y) ∷ plus l p

-- no entry is larger than m in size
abbrev pub Within : ℕ → List ℤ → Type 0
Within m l = (i : ℕ) → nat_abs (get_or l i (pos 0)) ≤ m

-- For the proofs of the code alone: no public promise and no law cites this, and an auditor may skip it.
-- The arcs and labels of two files where they stand in the files' bytes, at the places of their union.
use Rattle.std.specs.Prelude.{List, ℕ, ◌+◌, ◌*◌, ◌^◌, ◌≤◌, ◌<◌, length, get_or}
use Rattle.num_whole.specs.Tests.{less, pick}
use Rattle.norm_system.specs.declared.NormalLabel.{NormalLabel}
use Rattle.norm_kinds.specs.Kinds.{normal_label_at}

-- a number of two lists united, by its places in them: of the first where it is within it
unfoldable pub number_of_two : List ℕ → List ℕ → ℕ → ℕ → ℕ
number_of_two xs ys p q = pick (less p (length xs)) (get_or xs p 0) (get_or ys q 0)

-- the ith, whose places are the ith of two lists
unfoldable pub number_at : List ℕ → List ℕ → List ℕ → List ℕ → ℕ → ℕ
number_at xs left ys right i = number_of_two xs ys (get_or left i 0) (get_or right i 0)

-- a label of two files united, by its places in them: of the first where it is within its n labels
unfoldable pub label_of_two : List ℕ → ℕ → ℕ → List ℕ → ℕ → ℕ → ℕ → NormalLabel
label_of_two a start n b begin p q = pick (less p n) (normal_label_at a (start + 24 * p)) (normal_label_at b (begin + 24 * q))

unfoldable pub label_of_union : List ℕ → ℕ → ℕ → List ℕ → List ℕ → ℕ → List ℕ → ℕ → NormalLabel
label_of_union a start n left b begin right i = label_of_two a start n b begin (get_or left i 0) (get_or right i 0)

-- each of the first places past the end of the first list is within the second
abbrev pub Somewhere : ℕ → List ℕ → ℕ → List ℕ → ℕ → Type 0
Somewhere n left m right count = (i : ℕ) → i < count → n ≤ get_or left i 0 → get_or right i 0 < m

-- numbers that a word of four bytes holds
abbrev pub Short : List ℕ → Type 0
Short xs = (i : ℕ) → get_or xs i 0 < 256 ^ 4

-- Lists that are judged: each element by a test, and their order by a key; lists that are walked over, filled up and put into room.
use Rattle.std.specs.Prelude.{ℕ, ◌+◌, ◌-◌, List, [], ◌∷◌, ◌++◌, Bool, true, length, take, drop, replicate}
use Rattle.num_whole.specs.Tests.{up_to, both}

-- each element passes
unfoldable pub all : {A : Type 0} → (A → Bool) → List A → Bool
all f [] = true
all f (x ∷ xs) = both (f x) (all f xs)

-- something holds of each element
abbrev pub Each : {A : Type 0} → (A → Type 0) → List A → Type 0
Each P [] = Unit {0}
Each P (x ∷ l) = P x × Each P l

-- the keys strictly ascend, the first from floor up
unfoldable pub ascend : {A : Type 0} → (A → ℕ) → ℕ → List A → Bool
ascend key floor [] = true
ascend key floor (x ∷ xs) = both (up_to floor (key x)) (ascend key (key x + 1) xs)

-- the first n elements without the first i: what a walk over n elements has before it when i are done
unfoldable pub rest : {A : Type 0} → List A → ℕ → ℕ → List A
rest l n i = drop i (take n l)

-- a list with a filling after it, n elements in all
abbrev pub padded : {A : Type 0} → ℕ → A → List A → List A
padded n d l = l ++ replicate (n - length l) d

-- "A longer buffer keeps its rest": values at the front of a room
unfoldable pub over : {A : Type 0} → List A → List A → List A
over new old = new ++ drop (length new) old

-- Numbers in order and their places: those of a normal file are its arcs and the keys of its labels.
use Rattle.std.specs.Prelude.{List, [], ◌∷◌, map, Bool, ℕ, suc}
use Rattle.num_whole.specs.Tests.{same, pick}
use Rattle.num_whole.specs.Lists.{ascend}

-- numbers that strictly ascend
unfoldable pub ascending : List ℕ → Bool
ascending l = ascend (λ k. k) 0 l

-- where a number stands in a list; the list's length where it stands nowhere
unfoldable pub seat : List ℕ → ℕ → ℕ
seat [] k = 0
seat (x ∷ l) k = pick (same x k) 0 (suc (seat l k))

-- where each number of u stands in l
unfoldable pub seats : List ℕ → List ℕ → List ℕ
seats l u = map (seat l) u

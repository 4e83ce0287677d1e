-- Document 01, 'Taking a record': "a count for each station", their total, and which counts are sound (6).
use Rattle.std.specs.Prelude.{ℕ, ◌+◌, ◌≤◌, ◌<◌, List, [], ◌∷◌, Bool, get_or}
use Rattle.num_limits.specs.Capacities.{count_most, stations_most}
use Rattle.num_whole.specs.Tests.{less, up_to, pick, below}

-- "n is the total of its station counts"
unfoldable pub sum_of : List ℕ → ℕ
sum_of [] = 0
sum_of (c ∷ l) = c + sum_of l

-- no count is above 256
abbrev pub Few : List ℕ → Type 0
Few counts = (i : ℕ) → i < stations_most → get_or counts i 0 ≤ count_most

-- "a count above 256, .. or anything but 0 in a slot past the parameters or stations": counts have slots past the stations (docs/DECISIONS.md D21)
unfoldable pub counts_sound : ℕ → List ℕ → Bool
counts_sound stations counts = below (λ i. up_to (get_or counts i 0) (pick (less i stations) count_most 0)) stations_most

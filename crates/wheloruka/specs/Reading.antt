-- What the call that reads a normal file puts into lent room.
use Rattle.std.specs.Prelude.{ℕ, List, [], ◌∷◌, Bool, length}
use Rattle.num_whole.specs.Tests.{pick}
use Rattle.num_whole.specs.Answer.{Answered, given, refused, Judged, good, bad}
use Rattle.norm_read.specs.Normal.{Normal}

-- ---- a normal file: its numbers of arcs and parameters, where the matrix sums, the right sides and the totals begin, how many parameters have
-- their sums stored, and 1 for the small form, 0 for the old one
abbrev pub form_number : Bool → ℕ
form_number small = pick small 1 0

unfoldable pub normal_values : Judged Normal → Answered (List ℕ)
normal_values (good x) =
    given (length x.holds.arcs ∷ length x.holds.labels ∷ x.matrix ∷ x.rights ∷ x.totals ∷ length x.stored.labels ∷ form_number x.small ∷ [])
normal_values (bad number place) = refused number

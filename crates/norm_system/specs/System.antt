-- Document 01, 'Normal file': what a normal file holds, the limits and the order of its labels, and which sums are sound; document 02, #106,
-- for the small form.
use Rattle.std.specs.Prelude.{ℕ, ◌+◌, ◌*◌, ◌^◌, List, [], ◌∷◌, Bool, false, ℤ, pos, length}
use Rattle.num_limits.specs.Capacities.{accepted_most, arc_most}
use Rattle.num_whole.specs.Tests.{less, up_to, same, pick, both, either, between}
use Rattle.arc_limits.specs.Limits.{index_ok, weight_most}
use Rattle.num_packed.specs.Sound.{entry, is_zero, breaks, breaks_side}
use Rattle.num_packed.specs.Found.{Found, none, at, first_from, columns_from}
use Rattle.norm_system.specs.declared.NormalLabel.{NormalLabel}

-- "arcs .., parameters .., matrix sums (P(P+1)/2), right sides (P), totals (accepted u64, square sum u64)"
pub record System : Type 0 where
  pub arcs : List ℕ
  pub labels : List NormalLabel
  pub matrix : List ℤ
  pub rights : List ℤ
  pub accepted : ℕ
  pub square : ℕ

-- ---- arcs and labels
-- "arcs (.., strictly ascending, 1 to 999,999)"
unfoldable pub arc_ok : ℕ → Bool
arc_ok a = between 1 a arc_most

-- whether a number is one of a list
unfoldable pub has : ℕ → List ℕ → Bool
has a [] = false
has a (x ∷ l) = either (same x a) (has a l)

-- "arc 0 for kinds 1 and 2, else a listed arc"
unfoldable pub arc_listed : List ℕ → NormalLabel → Bool
arc_listed arcs l = pick (up_to l.kind 2) (same l.arc 0) (has l.arc arcs)

-- "prior weight u32 (to 2^30)" and the indices of the four kinds are the arc file's
unfoldable pub normal_label_ok : List ℕ → NormalLabel → Bool
normal_label_ok arcs l = both (up_to l.weight weight_most) (both (index_ok l.kind l.index) (arc_listed arcs l))

-- "strictly ascending by kind, arc, index": the three as one number
unfoldable pub key_of : NormalLabel → ℕ
key_of l = l.kind * 2 ^ 48 + l.arc * 2 ^ 16 + l.index

-- ---- "Sound sums, for A arcs: |matrix| ≤ A·2^58, diagonal not negative, |right| ≤ A·2^55, accepted ≤ A·4,096"; 02, #101: "The square
-- sum's bounds grow to .. A·2^52"; "a zero diagonal has zeros in its row, column and right side; accepted 0 has all sums zero." Where accepted
-- is 0 every bound is 0.
abbrev pub file_matrix_unit : ℕ
file_matrix_unit = 2 ^ 58

abbrev pub file_right_unit : ℕ
file_right_unit = 2 ^ 55

abbrev pub file_square_unit : ℕ
file_square_unit = 2 ^ 52

abbrev pub file_accepted : ℕ
file_accepted = accepted_most

unfoldable pub bound_of : ℕ → ℕ → ℕ → ℕ
bound_of arcs accepted unit = pick (same accepted 0) 0 (arcs * unit)

-- where the first unsound sum stands: in which section, and at which number of it
pub data Where : Type 0 where
  nowhere : Where
  in_matrix : ℕ → Where
  in_rights : ℕ → Where
  in_accepted : Where
  in_square : Where

-- ---- "for 6 the first unsound sum in file order"; "Accepted and square sum are judged as sums too. Each sum is judged alone"
unfoldable pub after_matrix : Found → Where → Where
after_matrix none w = w
after_matrix (at k) w = in_matrix k

unfoldable pub after_rights : Found → Where → Where
after_rights none w = w
after_rights (at k) w = in_rights k

unfoldable pub totals_where : ℕ → ℕ → ℕ → Where
totals_where arcs accepted square =
    pick (less (arcs * file_accepted) accepted) in_accepted (pick (less (bound_of arcs accepted file_square_unit) square) in_square nowhere)

-- what follows the matrix sums
unfoldable pub sides_where : ℕ → ℕ → List ℤ → List ℤ → ℕ → ℕ → Where
sides_where arcs p m r accepted square =
    after_rights (first_from (breaks_side (pos (bound_of arcs accepted file_right_unit)) m r) 0 p) (totals_where arcs accepted square)

-- 02, #106: in the small form "a seen parameter whose diagonal is 0: 6", at that diagonal
unfoldable pub breaks_in : Bool → ℤ → List ℤ → ℕ → ℕ → Bool
breaks_in small b m i j = either (both small (both (same i j) (is_zero (entry m i j)))) (breaks b m i j)

unfoldable pub sums_where : Bool → ℕ → ℕ → List ℤ → List ℤ → ℕ → ℕ → Where
sums_where small arcs p m r accepted square =
    after_matrix (columns_from (breaks_in small (pos (bound_of arcs accepted file_matrix_unit)) m) 0 p) (sides_where arcs p m r accepted square)

-- the first unsound sum of a system, as a file of either form stores it
unfoldable pub unsound_stored : Bool → System → Where
unsound_stored small x = sums_where small (length x.arcs) (length x.labels) x.matrix x.rights x.accepted x.square

-- and by 01 alone: as the old form stores it
unfoldable pub unsound_in : System → Where
unsound_in x = unsound_stored false x

-- Document 01, 'Refusal numbers': "for a heading, state, system or record in lent room, a length that docs/ fixes by its numbers of parameters,
-- stations and arcs alone (a number past its capacity standing as the capacity), at most .. one element for each value that these papers name
-- for it". A system in lent room: what stands where, which lengths it wants, and how it is judged.
use Rattle.std.specs.Prelude.{ℕ, ◌+◌, ◌*◌, List, [], ◌∷◌, ◌++◌, Bool, true, false, ℤ, length, get_or, take}
use Rattle.std.proofs.Common.{to_z, of_z}
use Rattle.std.specs.Int.{w64}
use Rattle.num_limits.specs.Capacities.{arcs_most, labels_most}
use Rattle.num_whole.specs.Tests.{up_to, both, between}
use Rattle.num_whole.specs.Lists.{all, ascend}
use Rattle.byte_section.specs.Section.{encoded}
use Rattle.refusal.specs.First.{unless, first}
use Rattle.num_packed.specs.Triangle.{tri}
use Rattle.num_packed.specs.Room.{sums_roomy}
use Rattle.norm_system.specs.System.{System, arc_ok, normal_label_ok, key_of, Where, nowhere, in_matrix, in_rights, in_accepted, in_square, unsound_in}
use Rattle.norm_system.specs.declared.NormalLabel.{NormalLabel}
use Rattle.byte_words.specs.Stands.{stands}

-- ---- what stands where
-- the heads: each arc, then for each label its kind, index, arc, prior weight and estimate, then accepted and the square sum, an element each;
-- an estimate stands in two's complement. The matrix sums and the right sides have rooms of their own, as in a state.
abbrev pub heads_long : ℕ → ℕ → ℕ
heads_long a p = a + 5 * p + 2

-- the label whose first element stands at a place
unfoldable pub label_in_heads : List ℕ → ℕ → NormalLabel
label_in_heads h at =
    record {
      kind = get_or h at 0;
      index = get_or h (at + 1) 0;
      arc = get_or h (at + 2) 0;
      weight = get_or h (at + 3) 0;
      estimate = to_z w64 (get_or h (at + 4) 0);
    }

-- the system of a arcs and p parameters that stands in three rooms
unfoldable pub system_in_rooms : ℕ → ℕ → List ℕ → List ℤ → List ℤ → System
system_in_rooms a p h m r =
    record {
      arcs = take a h;
      labels = stands (label_in_heads h) 5 p a;
      matrix = take (tri p) m;
      rights = take p r;
      accepted = get_or h (a + 5 * p) 0;
      square = get_or h (a + 5 * p + 1) 0;
    }

-- ---- the same from the system
unfoldable pub label_numbers : NormalLabel → List ℕ
label_numbers l = l.kind ∷ l.index ∷ l.arc ∷ l.weight ∷ of_z w64 l.estimate ∷ []

unfoldable pub heads_of : System → List ℕ
heads_of x = x.arcs ++ (encoded label_numbers x.labels ++ (x.accepted ∷ x.square ∷ []))

-- ---- a file
-- five counts of 4 bytes, 4 an arc, 24 a label, 8 a matrix sum and a right side, and the totals' 16
abbrev pub file_long : ℕ → ℕ → ℕ
file_long a p = 36 + 4 * a + 32 * p + 8 * tri p

-- ---- judging
-- 20: the heads' room has the length that the numbers of arcs and parameters want; no number past its capacity gets here, since 2 comes before
unfoldable pub heads_roomy : ℕ → ℕ → ℕ → Bool
heads_roomy a p heads = up_to (heads_long a p) heads

-- 20 for all three: and so have the rooms of the matrix sums and the right sides
unfoldable pub roomy_for : ℕ → ℕ → ℕ → ℕ → ℕ → Bool
roomy_for a p heads matrix rights = both (heads_roomy a p heads) (sums_roomy p matrix rights)

-- 2: "arcs (1 to 16 ..); parameters (1 to 500 ..)"
unfoldable pub counts_fit : ℕ → ℕ → Bool
counts_fit a p = both (between 1 a arcs_most) (between 1 p labels_most)

-- 4: each arc and each label within its limits
unfoldable pub fields_fit : System → Bool
fields_fit x = both (all arc_ok x.arcs) (all (normal_label_ok x.arcs) x.labels)

-- 5: "strictly ascending"; "strictly ascending by kind, arc, index"
unfoldable pub orders_fit : System → Bool
orders_fit x = both (ascend (λ a. a) 0 x.arcs) (ascend key_of 0 x.labels)

-- 6
unfoldable pub is_nowhere : Where → Bool
is_nowhere nowhere = true
is_nowhere (in_matrix k) = false
is_nowhere (in_rights k) = false
is_nowhere in_accepted = false
is_nowhere in_square = false

unfoldable pub sums_fit : System → Bool
sums_fit x = is_nowhere (unsound_in x)

-- a system in lent room, of any values: "2, 4, 5, 6, .. 20", each 20 as late as the judging allows, since nothing can be judged of what is not
-- there; 0 where nothing is wrong. Of p parameters, with sums in rooms of these lengths: 20, 6
abbrev pub sums_tests : ℕ → ℕ → ℕ → System → List ℕ
sums_tests p matrix rights x = unless 20 (sums_roomy p matrix rights) ∷ unless 6 (sums_fit x) ∷ []

-- 4, 5, 20, 6
abbrev pub value_tests : ℕ → ℕ → ℕ → System → List ℕ
value_tests p matrix rights x = unless 4 (fields_fit x) ∷ unless 5 (orders_fit x) ∷ sums_tests p matrix rights x

-- 2, 20, 4, 5, 20, 6
unfoldable pub system_number : ℕ → ℕ → List ℕ → List ℤ → List ℤ → ℕ
system_number a p h m r =
    first
    (unless 2 (counts_fit a p)
    ∷ unless 20 (heads_roomy a p (length h))
    ∷ value_tests p (length m) (length r) (system_in_rooms a p h m r))

-- For the proofs of the code alone: no public promise and no law cites this, and an auditor may skip it.
-- The judging of a system's arcs and labels in lent room in the parts that the code has.
use Rattle.std.specs.Prelude.{ℕ, ◌+◌, ◌^◌, ◌<◌, List, [], Bool, pos, get_or}
use Rattle.num_whole.specs.Tests.{up_to, both}
use Rattle.norm_system.specs.System.{System}
use Rattle.norm_system.specs.declared.NormalLabel.{NormalLabel}
use Rattle.norm_room.specs.Room.{system_in_rooms}

-- a label without its estimate: no limit and no key looks at it
unfoldable pub bare_label : List ℕ → ℕ → NormalLabel
bare_label h k =
    record { kind = get_or h k 0; index = get_or h (k + 1) 0; arc = get_or h (k + 2) 0; weight = get_or h (k + 3) 0; estimate = pos 0 }

-- the numbers of a label that the bytes of a file hold
unfoldable pub is_small : ℕ → ℕ → ℕ → ℕ → Bool
is_small kind index arc weight = both (up_to kind 65535) (both (up_to index 65535) (both (up_to arc 4294967295) (up_to weight 4294967295)))

pub record SmallFields (h : List ℕ) (k : ℕ) : Type 0 where
  pub kind : get_or h k 0 < 256 ^ 2
  pub index : get_or h (k + 1) 0 < 256 ^ 2
  pub arc : get_or h (k + 2) 0 < 256 ^ 4
  pub weight : get_or h (k + 3) 0 < 256 ^ 4

-- the arcs and labels that stand in the heads, with no sums: 4 and 5 look at none
abbrev pub bare_system : ℕ → ℕ → List ℕ → System
bare_system a p h = system_in_rooms a p h [] []

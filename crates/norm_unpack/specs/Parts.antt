-- For the proofs of the code alone: no public promise and no law cites this, and an auditor may skip it.
-- Unpacking in the parts that the code has: what stands at places of the file's bytes.
use Rattle.std.specs.Prelude.{ℕ, ◌+◌, ◌*◌, List, [], ◌∷◌, ◌++◌}
use Rattle.byte_words.specs.Words.{word}
use Rattle.byte_section.specs.Section.{encoded}
use Rattle.num_packed.specs.Triangle.{tri}
use Rattle.norm_system.specs.System.{System}
use Rattle.byte_words.specs.Stands.{stands}
use Rattle.norm_sum.specs.Sums.{sums_at}
use Rattle.norm_kinds.specs.Kinds.{normal_label_at, fielded_at, stored_of}
use Rattle.norm_read.specs.Normal.{Normal, normal_from}
use Rattle.norm_read.specs.declared.NormalRead.{NormalRead}
use Rattle.norm_heads.specs.Heads.{arcs_at}
use Rattle.norm_room.specs.Room.{label_numbers}

-- what a file of a arcs and p parameters stores, for n of them, whose sums and totals begin at these places
abbrev pub stored_stands_at : List ℕ → ℕ → ℕ → ℕ → ℕ → ℕ → ℕ → System
stored_stands_at s a p n matrix rights totals =
    record {
      arcs = arcs_at s a;
      labels = stored_of (stands (fielded_at s) 24 p (8 + 4 * a));
      matrix = sums_at s matrix (tri n);
      rights = sums_at s rights n;
      accepted = word 8 s totals;
      square = word 8 s (totals + 8);
    }

-- a file of the numbers that reading gave
abbrev pub normal_at : List ℕ → NormalRead → Normal
normal_at s k =
    normal_from k.is_small (stands (fielded_at s) 24 k.parameters (8 + 4 * k.arcs)) (stored_stands_at s k.arcs k.parameters k.stored k.matrix k.rights k.totals)
    k.matrix k.rights k.totals

-- the numbers of n labels that stand one after the other
unfoldable pub label_numbers_from : List ℕ → ℕ → ℕ → List ℕ
label_numbers_from s n at = encoded label_numbers (stands (normal_label_at s) 24 n at)

-- the heads: arcs, labels, totals
unfoldable pub heads_at : List ℕ → ℕ → ℕ → ℕ → List ℕ
heads_at s a p totals = arcs_at s a ++ (label_numbers_from s p (8 + 4 * a) ++ (word 8 s totals ∷ word 8 s (totals + 8) ∷ []))

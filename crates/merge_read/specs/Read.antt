-- For the proofs of the code alone: no public promise and no law cites this, and an auditor may skip it.
-- The labels of two files where they stand in the files' bytes: their keys, and whether those that both have are alike.
use Rattle.std.specs.Prelude.{List, Bool, not, ℕ, ◌+◌, ◌*◌, get_or}
use Rattle.num_whole.specs.Tests.{less, both, either}
use Rattle.norm_system.specs.System.{key_of}
use Rattle.byte_words.specs.Stands.{stands}
use Rattle.norm_kinds.specs.Kinds.{normal_label_at}
use Rattle.merge_join.specs.Alike.{alike}

-- the keys of n labels that stand at a place
unfoldable pub key_at : List ℕ → ℕ → ℕ
key_at s at = key_of (normal_label_at s at)

unfoldable pub keys_at : List ℕ → ℕ → ℕ → List ℕ
keys_at s start n = stands (key_at s) 24 n start

-- whether the label at p of the first file's n and the one at q of the second's m are alike, where both are there
unfoldable pub agree_in : List ℕ → ℕ → ℕ → List ℕ → ℕ → ℕ → ℕ → ℕ → Bool
agree_in a start n b begin m p q =
    either (not (both (less p n) (less q m))) (alike (normal_label_at a (start + 24 * p)) (normal_label_at b (begin + 24 * q)))

unfoldable pub agree_at : List ℕ → ℕ → ℕ → List ℕ → List ℕ → ℕ → ℕ → List ℕ → ℕ → Bool
agree_at a start n left b begin m right i = agree_in a start n b begin m (get_or left i 0) (get_or right i 0)

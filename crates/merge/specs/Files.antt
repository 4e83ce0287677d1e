-- Document 01, 'Normal file' and 'Refusal numbers': "Merging: first file, second file (the answer names which), 21 to 24, 20." Two normal files
-- as bytes: what merging answers, and what it leaves in the lent room. "A longer buffer keeps its rest. A refusal changes nothing lent." Document
-- 02, #106: "Merging .. takes either form; what they write is the old one": a file counts by the system that it holds.
use Rattle.std.specs.Prelude.{List, ℕ, length, Result, Ok, Err}
use Rattle.num_whole.specs.Tests.{same, pick}
use Rattle.num_whole.specs.Answer.{Judged, good, bad}
use Rattle.refusal.specs.Number.{number_of}
use Rattle.byte_section.specs.Writing.{writing_number, written_in}
use Rattle.norm_system.specs.System.{System}
use Rattle.norm_kinds.specs.Bytes.{normal_bytes}
use Rattle.norm_read.specs.Normal.{Normal, read_normal}
use Rattle.merge.specs.declared.MergeRefusal.{MergeRefusal}
use Rattle.merge.specs.declared.MergeRefusal.TheVariants.{First, Second, Together}
use Rattle.merge_laws.specs.Merge.{merged_of, merge_number}

-- the length of the file that was written; a file that is refused (the first or the second), its number and place; or 20 to 24
pub data Merging : Type 0 where
  wrote : ℕ → Merging
  in_file : ℕ → ℕ → ℕ → Merging
  refusing : ℕ → Merging

-- ---- two systems that were read
-- the bytes of the merged file
unfoldable pub merged_bytes : System → System → List ℕ
merged_bytes x y = normal_bytes (merged_of x y)

-- 21 to 24, then 20 for a room that is shorter
unfoldable pub pair_number : System → System → ℕ → ℕ
pair_number x y room = writing_number (merge_number x y) (merged_bytes x y) room

unfoldable pub pair_answer : System → System → ℕ → Merging
pair_answer x y room = pick (same (pair_number x y room) 0) (wrote (length (merged_bytes x y))) (refusing (pair_number x y room))

unfoldable pub pair_left : System → System → List ℕ → List ℕ
pair_left x y out = written_in (merge_number x y) (merged_bytes x y) out

-- ---- two files
-- what follows from the system that a file holds, or from its refusal
unfoldable pub from_file : {A : Type 0} → Judged Normal → (ℕ → ℕ → A) → (System → A) → A
from_file (good x) refused f = f x.holds
from_file (bad number place) refused f = refused number place

unfoldable pub merge_answer : List ℕ → List ℕ → ℕ → Merging
merge_answer a b room =
    from_file (read_normal a) (in_file 1) λ x.
    from_file (read_normal b) (in_file 2) λ y.
    pair_answer x y room

unfoldable pub merge_left : List ℕ → List ℕ → List ℕ → List ℕ
merge_left a b out =
    from_file (read_normal a) (λ number place. out) λ x.
    from_file (read_normal b) (λ number place. out) λ y.
    pair_left x y out

-- ---- what the answer says
abbrev pub told_merge : Result ℕ MergeRefusal → Merging
told_merge (Ok n) = wrote n
told_merge (Err (First f)) = in_file 1 (number_of f.why) f.place
told_merge (Err (Second f)) = in_file 2 (number_of f.why) f.place
told_merge (Err (Together r)) = refusing (number_of r)

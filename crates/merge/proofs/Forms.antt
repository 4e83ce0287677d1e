-- Document 02, #106: "Merging, and each later request that reads a normal file, takes either form; what they write is the old one." A file and its
-- move to either form hold the same system, so merging answers the same for both and leaves the same bytes, whatever the other file is.
-- Assumes nothing.
use mathlib.Core.Path.{◌≡◌, sym, ap, ◌∙◌}
use mathlib.Core.List.{List}
use mathlib.Core.Bool.{Bool, false}
use Prim.Native.Nat.{ℕ}
use lib.ListN.{length, take}
use Rattle.num_whole.specs.Answer.{good}
use Rattle.byte_words.proofs.Words.{Bytes}
use Rattle.norm_system.specs.System.{System}
use Rattle.norm_read.specs.Normal.{Normal, read_normal}
use Rattle.norm_forms.specs.Forms.{form_bytes}
use Rattle.norm_forms.proofs.Moves.{Reads, move_holds, old_form}
use Rattle.merge_laws.specs.Merge.{merged_of}
use Rattle.merge_laws.proofs.Laws.{merge_sound}
use Rattle.merge_put.specs.Parts.{normal_in, system_in_file}
use Rattle.merge.specs.Files.{wrote, in_file, from_file, pair_answer, pair_left, merge_answer, merge_left}
use Rattle.merge.proofs.Written.{Written, written_file}

-- what follows from the system that a file holds follows from any file that holds it
from_held : {A : Type 0} (s t : List ℕ) (x y : Normal) → read_normal s ≡ good x → read_normal t ≡ good y → x.holds ≡ y.holds → (refused : ℕ → ℕ → A) (f : System → A)
    → from_file (read_normal s) refused f ≡ from_file (read_normal t) refused f
unfolding from_file
from_held s t x y e d h refused f = ap (λ j. from_file j refused f) e ∙ ap f h ∙ sym (ap (λ j. from_file j refused f) d)

-- ---- a file that is accepted, moved to a form
module _ (s : List ℕ) (bounded : Bytes s) (e : read_normal s ≡ good (normal_in s)) (small : Bool) where
  abbrev moved : List ℕ
  moved = form_bytes small (system_in_file s)

  move : Reads moved small (system_in_file s)
  unfolding system_in_file
  move = move_holds s (normal_in s) bounded e small

  moved_from : {A : Type 0} (refused : ℕ → ℕ → A) (f : System → A) → from_file (read_normal moved) refused f ≡ from_file (read_normal s) refused f
  unfolding system_in_file
  moved_from refused f = from_held moved s move.file (normal_in s) move.is e move.held refused f

  -- as the first file: with any second one the same answer and the same bytes
  pub first_moved : (b out : List ℕ) → (merge_answer moved b (length out) ≡ merge_answer s b (length out)) × (merge_left moved b out ≡ merge_left s b out)
  unfolding merge_answer merge_left
  first_moved b out = (moved_from (in_file 1) _, moved_from _ _)

  -- as the second file: with any first one
  pub second_moved : (a out : List ℕ) → (merge_answer a moved (length out) ≡ merge_answer a s (length out)) × (merge_left a moved out ≡ merge_left a s out)
  unfolding merge_answer merge_left
  second_moved a out = (
    ap (λ f. from_file (read_normal a) (in_file 1) f) (λ i x. moved_from (in_file 2) (λ y. pair_answer x y (length out)) i),
    ap (λ f. from_file (read_normal a) (λ number place. out) f) (λ i x. moved_from (λ number place. out) (λ y. pair_left x y out) i),
  )

-- both, each in any form
pub both_moved : (a b out : List ℕ) → Bytes a → Bytes b → read_normal a ≡ good (normal_in a) → read_normal b ≡ good (normal_in b) → (small other : Bool)
    → (merge_answer (form_bytes small (system_in_file a)) (form_bytes other (system_in_file b)) (length out) ≡ merge_answer a b (length out))
    × (merge_left (form_bytes small (system_in_file a)) (form_bytes other (system_in_file b)) out ≡ merge_left a b out)
both_moved a b out p q e f small other =
    let one = first_moved a p e small (form_bytes other (system_in_file b)) out in
    let two = second_moved b q f other a out in
    (one.0 ∙ two.0, one.1 ∙ two.1)

-- "what they write is the old one"
pub merged_old : (a b out : List ℕ) (n : ℕ) → merge_answer a b (length out) ≡ wrote n → take n (merge_left a b out) ≡ form_bytes false (merged_of (system_in_file a) (system_in_file b))
merged_old a b out n w =
    let k : Written a b out n = written_file a b out n w in
    k.front ∙ sym (old_form _ (merge_sound (system_in_file a) (system_in_file b) k.first_sound k.second_sound k.none_refuses))

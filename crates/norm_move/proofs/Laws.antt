-- Document 02, #106: "We want a move to the new form, a move back, and the original bytes after both, from either end." "A move to the form a
-- file already has gives its bytes." For every accepted file, by the entries' own definitions; with what holds of a file and its move.
-- Assumes nothing.
use Prim.Native.Nat.{ℕ, ◌+◌, ◌*◌, ◌≤◌}
use mathlib.Core.Path.{◌≡◌, sym, ap, ◌∙◌, subst}
use mathlib.Core.List.{List}
use mathlib.Core.Bool.{Bool, true, false}
use lib.ListN.{length}
use Rattle.num_whole.specs.Answer.{good, bad}
use Rattle.byte_words.specs.Words.{lay}
use Rattle.byte_words.proofs.Words.{Bytes}
use Rattle.byte_section.specs.Section.{and_then}
use Rattle.byte_section.proofs.Walk.{good_same, then_good}
use Rattle.num_packed.specs.Triangle.{tri}
use Rattle.norm_kinds.specs.Kinds.{stored_of}
use Rattle.norm_read.specs.Normal.{Normal, read_normal}
use Rattle.norm_read.proofs.Accepted.{accepted_sound}
use Rattle.norm_forms.specs.Forms.{form_fields, form_bytes}
use Rattle.norm_forms.proofs.Moves.{Reads, move_stays, move_holds, move_back, length_form, never_longer as form-shorter}
use Rattle.norm_move.specs.Move.{file_moved, move_answer, move_left}
use Rattle.norm_move.proofs.Known.{answer_refused, left_refused, answer_moved, left_moved}

-- ---- a file that is refused: each entry gives its number and place, and the room is as it was
pub refused_alike : (small : Bool) (s : List ℕ) (number place : ℕ) → read_normal s ≡ bad number place
    → (room : List ℕ) → (move_answer small s (length room) ≡ bad number place) × (move_left small s room ≡ room)
refused_alike small s number place e room = (sym (answer_refused small s number place e (length room)), sym (left_refused small s number place e room))

-- ---- a file that is accepted
module _ (s : List ℕ) (f : Normal) (e : read_normal s ≡ good f) where
  is_moved : (small : Bool) → file_moved small s ≡ good (form_bytes small f.holds)
  unfolding file_moved
  is_moved small = then_good _ _ e

  bytes_of : (small : Bool) (t : List ℕ) → file_moved small s ≡ good t → form_bytes small f.holds ≡ t
  bytes_of small t m = good_same (sym (is_moved small) ∙ m)

  -- what an entry leaves in a room that is long enough: its move
  pub entry_moves : (small : Bool) (t : List ℕ) → file_moved small s ≡ good t
      → (room : List ℕ) → length t ≤ length room → (move_answer small s (length room) ≡ good (length t)) × (move_left small s room ≡ lay room 0 t)
  entry_moves small t m room h =
      let is : form_bytes small f.holds ≡ t = bytes_of small t m in
      let long = subst (λ b. length b ≤ length room) (sym is) h in (
        sym (answer_moved small s f e (length room) long) ∙ ap (λ b. good (length b)) is,
        sym (left_moved small s f e room long) ∙ ap (lay room 0) is,
      )

  -- "36 + 4A + 24P + 8·(S(S+1)/2 + S)", S the number of parameters whose sums the form stores
  pub moved_long : (small : Bool) (t : List ℕ) → file_moved small s ≡ good t → let stored = length (stored_of (form_fields small f.holds)) in
      length t ≡ 36 + 4 * length f.holds.arcs + 24 * length f.holds.labels + 8 * (tri stored + stored)
  moved_long small t m = ap length (sym (bytes_of small t m)) ∙ length_form small f.holds (accepted_sound s f e)

  -- the small form is never longer
  pub small_shorter : (t u : List ℕ) → file_moved true s ≡ good t → file_moved false s ≡ good u → length t ≤ length u
  small_shorter t u m n =
      subst (λ b. length b ≤ length u) (bytes_of true t m)
      (subst (λ b. length (form_bytes true f.holds) ≤ length b) (bytes_of false u n) (form-shorter f.holds (accepted_sound s f e)))

  module _ (bounded : Bytes s) where
    -- a file and its move hold the same system, and the move is of its form
    pub moved_holds : (small : Bool) (t : List ℕ) → file_moved small s ≡ good t → Reads t small f.holds
    moved_holds small t m = subst (λ b. Reads b small f.holds) (bytes_of small t m) (move_holds s f bounded e small)

    -- "A move to the form a file already has gives its bytes"
    pub moved_stays : file_moved f.small s ≡ good s
    moved_stays = is_moved f.small ∙ ap (λ b. good b) (move_stays s f bounded e)

    -- "the original bytes after both, from either end": a move to either form, then one to the form that the file had
    pub moved_back : (small : Bool) → and_then (file_moved small s) (file_moved f.small) ≡ good s
    unfolding file_moved
    moved_back small =
        then_good _ _ (is_moved small) ∙ then_good _ _ (move_holds s f bounded e small).is ∙ ap (λ b. good b) (move_back s f bounded e small)

    pub small_then_old : f.small ≡ false → and_then (file_moved true s) (file_moved false) ≡ good s
    small_then_old o = subst (λ b. and_then (file_moved true s) (file_moved b) ≡ good s) o (moved_back true)

    pub old_then_small : f.small ≡ true → and_then (file_moved false s) (file_moved true) ≡ good s
    old_then_small o = subst (λ b. and_then (file_moved false s) (file_moved b) ≡ good s) o (moved_back false)

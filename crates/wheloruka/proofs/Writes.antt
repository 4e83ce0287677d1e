-- Calls that write bytes into a part of a room and their number into another: done, refused, or kept as it was.
-- Assumes nothing.
use Prim.Native.Nat.{ℕ}
use mathlib.Core.Path.{◌≡◌, refl, sym, ap, ◌∙◌}
use mathlib.Core.List.{List, [], ◌++◌}
use mathlib.Core.Bool.{Bool, true, false}
use native.Mathlib.Omega.{arith}
use Rattle.byte_words.proofs.Words.{lay_out}
use lib.IntN.{ℤ}
use lib.ListN.{length, take, drop}
use Rattle.num_whole.specs.Tests.{less, pick}
use Rattle.num_whole.specs.Answer.{Answered, given, refused, Judged, good, bad}
use Rattle.num_whole.proofs.Cases.{yes, no, by_cases}
use Rattle.refusal.specs.Number.{number_of}
use Rattle.refusal.specs.declared.Refusal.{Refusal}
use Rattle.refusal.specs.declared.Refusal.TheVariants.{Room}
use Rattle.refusal.proofs.Firsts.{unless_true, unless_false, first_pass, first_stop, first_none, first_none_left, first_by, number_given, number_refused, answered_refused}
use Rattle.byte_section.specs.Writing.{writing_number, written, written_in}
use Rattle.arc_heading.specs.Judge.{judged}
use Rattle.norm_system.specs.System.{System}
use Rattle.norm_read.specs.Normal.{Normal, read_normal, numbers_of}
use Rattle.norm_read.specs.declared.NormalRead.{NormalRead}
use Rattle.call_rooms.specs.Result.{result_number, result_left, told_values, one, room_for, bytes_left}
use Rattle.call_rooms.proofs.Rooms.{on_refused, part_long, part_left_lem}
use Rattle.byte_section.proofs.Writing.{left_old, none_laid}
use Rattle.call_heading.specs.Lent.{heading_in, head_number}
use Rattle.call_tally.specs.Tally.{has_tally}
use Rattle.norm_write.specs.Write as write
use Rattle.norm_state.specs.OfState as state
use Rattle.norm_move.specs.Move.{moved_into, laid_in, move_left}
use Rattle.merge.specs.Files.{from_file, pair_left, merge_left}
use Rattle.list.specs.Listing.{list_left}
use Rattle.wheloruka.specs.Taking.{Lent, state_in}
use Rattle.call_files.specs.Reading.{judged_number}
use Rattle.wheloruka.specs.Writing.{headed_number, state_file_number, state_file, state_file_left}
use Rattle.wheloruka.proofs.Numbers.{as_told}

-- ---- a file that was unpacked
pub judged_number_lem : (j : Judged Normal) (r : Judged NormalRead) → r ≡ numbers_of j → judged_number r ≡ judged_number j
unfolding judged_number
judged_number_lem (good x) r told = ap judged_number told
judged_number_lem (bad number place) r told = ap judged_number told

-- ---- any call: what it answers by the length of its room, and what it leaves of a room
module _ (answer : ℕ → Answered ℕ) (left : List ℕ → List ℕ) (size out : List ℕ) where
  abbrev Done : ℕ → List ℕ → List ℕ → Type 0
  Done k s b =
      (k ≡ result_number (told_values one (answer (room_for (length size) (length out)))) (length size))
      × ((s ≡ result_left (told_values one (answer (room_for (length size) (length out)))) size)
      × (b ≡ bytes_left (length size) left out))

  -- a part of the room is handed on
  module _ (none : left [] ≡ []) (room : ℕ) (is : room ≡ room_for (length size) (length out)) where
    at_part : answer (length (take room out)) ≡ answer (room_for (length size) (length out))
    at_part = ap answer (ap (λ k. length (take k out)) is ∙ part_long (length size) out)

    bytes : {b : List ℕ} → b ≡ left (take room out) → b ++ drop room out ≡ bytes_left (length size) left out
    bytes e = ap (λ l. l ++ drop room out) e ∙ ap (λ k. left (take k out) ++ drop k out) is ∙ part_left_lem (length size) out left none

    pub gives : (w : Answered ℕ) {k : ℕ} {s b : List ℕ} → w ≡ answer (length (take room out))
        → (k ≡ result_number (told_values one w) (length size)) × (s ≡ result_left (told_values one w) size) → b ≡ left (take room out) → Done k s (b ++ drop room out)
    gives w e put f = let p = as_told one (e ∙ at_part) size put in (p.0, (p.1, bytes f))

  -- nothing is handed on
  pub keeps : (number : ℕ) {k : ℕ} → refused number ≡ answer (room_for (length size) (length out)) → k ≡ number → left out ≡ out → Done k size out
  unfolding bytes_left
  keeps number e i w =
      let d = on_refused one _ size number (sym e) i in
      let same : out ≡ pick (less (length size) 1) out (left out) = by_cases (less (length size) 1) (λ t. yes _ _ _ t refl) (λ t. no _ _ _ t (sym w)) in
      (d.0, (d.1, same))

-- ---- an empty room stays so
pub write_none : (a p : ℕ) (h : List ℕ) (m r : List ℤ) → write.normal_left_in a p h m r [] ≡ []
unfolding write.normal_left_in
write_none a p h m r = none_laid _ _

from_none : (j : Judged Normal) (f : System → List ℕ) → ((x : System) → f x ≡ []) → from_file j (λ number place. []) f ≡ []
unfolding from_file
from_none (good x) f e = e x.holds
from_none (bad number place) f e = refl

pub merge_none : (a b : List ℕ) → merge_left a b [] ≡ []
unfolding merge_left pair_left
merge_none a b = from_none (read_normal a) _ (λ x. from_none (read_normal b) _ (λ y. none_laid _ _))

move_laid_none : (j : Judged (List ℕ)) → laid_in [] j ≡ []
unfolding laid_in
move_laid_none (good bytes) = lay_out [] 0 bytes (omega arith)
move_laid_none (bad number place) = refl

pub move_none : (small : Bool) (file : List ℕ) → move_left small file [] ≡ []
unfolding move_left
move_none small file = move_laid_none (moved_into small file 0)

pub list_none : (file : List ℕ) → list_left file [] ≡ []
unfolding list_left
list_none file = none_laid _ _

-- ---- a heading and a tally in lent bytes: one step for each test
module _ (b t : List ℕ) where
  pub headed_head : {k : ℕ} → k ≡ head_number b → (k ≡ 0 → ⊥) → k ≡ headed_number b t
  unfolding headed_number
  headed_head e some = e ∙ sym (first_stop _ _ (λ z. some (e ∙ z)))

  module _ (head : head_number b ≡ 0) where
    pub headed_judged : (f : Refusal) {k : ℕ} → judged (heading_in b) ≡ refused (number_of f) → k ≡ number_of f → k ≡ headed_number b t
    unfolding headed_number
    headed_judged f e i = i ∙ first_by _ _ f (number_refused _ _ e) ∙ sym (first_pass _ _ head)

    module _ (sound : judged (heading_in b) ≡ given tt) where
      pub headed_tally : has_tally t ≡ false → 20 ≡ headed_number b t
      unfolding headed_number
      headed_tally e = first_by _ _ Room (unless_false 20 _ e) ∙ sym (first_pass _ _ head ∙ first_pass _ _ (number_given _ tt sound))

      pub headed_none : has_tally t ≡ true → 0 ≡ headed_number b t
      unfolding headed_number
      headed_none e = sym (first_pass _ _ head ∙ first_pass _ _ (number_given _ tt sound) ∙ first_pass _ _ (unless_true 20 _ e) ∙ first_none_left)

-- ---- a state in lent room
module _ (b : List ℕ) (x : Lent) where
  -- what is left to judge is what the state by value has left
  module _ (whole : headed_number b x.tally ≡ 0) where
    number_whole : state.held_number (heading_in b) (state_in x) ≡ state_file_number b x
    unfolding headed_number state_file_number state.held_number
    number_whole = first_pass _ _ (first_none _ _ (first_none _ _ whole).1).0 ∙ sym (first_pass _ _ whole)

    pub file_whole : (room : ℕ) → state.file_of (heading_in b) (state_in x) room ≡ state_file b x room
    unfolding state_file state.file_of
    file_whole room = ap (λ k. written k (state.state_bytes (heading_in b) (state_in x)) room) number_whole

    pub left_whole : (out : List ℕ) → state.state_left_in (heading_in b) (state_in x) out ≡ state_file_left b x out
    unfolding state_file_left state.state_left_in
    left_whole out = ap (λ k. written_in k (state.state_bytes (heading_in b) (state_in x)) out) number_whole

  module _ (some : headed_number b x.tally ≡ 0 → ⊥) where
    number_headed : (room : ℕ) → writing_number (state_file_number b x) (state.state_bytes (heading_in b) (state_in x)) room ≡ headed_number b x.tally
    unfolding state_file_number
    number_headed room =
        let is : state_file_number b x ≡ headed_number b x.tally = first_stop _ _ some in
        first_stop _ _ (λ z. some (sym is ∙ z)) ∙ is

    pub file_headed : (room : ℕ) → refused (headed_number b x.tally) ≡ state_file b x room
    unfolding state_file
    file_headed room = let is = number_headed room in ap refused (sym is) ∙ answered_refused _ _ (λ z. some (sym is ∙ z))

    pub left_headed : (out : List ℕ) → state_file_left b x out ≡ out
    unfolding state_file_left
    left_headed out =
        sym (left_old (state_file_number b x) (state.state_bytes (heading_in b) (state_in x)) out (λ z. some (sym (number_headed (length out)) ∙ z)))

  pub state_none : state_file_left b x [] ≡ []
  unfolding state_file_left
  state_none = none_laid _ _

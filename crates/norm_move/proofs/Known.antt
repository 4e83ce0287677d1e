-- What is known of a file that was read: its numbers, where its parts end, and what moving it answers and leaves.
-- Assumes nothing.
use Prim.Native.Nat.{ℕ, ◌+◌, ◌*◌, ◌≤◌, ◌<◌}
use mathlib.Core.Path.{◌≡◌, refl, sym, ap, ◌∙◌, subst}
use mathlib.Core.List.{List}
use mathlib.Core.Bool.{Bool}
use native.Mathlib.Omega.{arith}
use lib.ListN.{length, take, drop}
use lib.Seq.{take_at}
use Rattle.num_whole.specs.Answer.{good, bad}
use Rattle.num_whole.proofs.Cases.{yes, no, is_less, not_less}
use Rattle.byte_words.specs.Words.{lay}
use Rattle.byte_words.proofs.Words.{lay_front}
use Rattle.byte_section.proofs.Walk.{then_good, then_bad}
use Rattle.num_packed.specs.Triangle.{tri}
use Rattle.norm_kinds.specs.Kinds.{stored_of}
use Rattle.norm_read.specs.Normal.{Normal, read_normal, numbers_in, numbers_of}
use Rattle.norm_read.specs.declared.NormalRead.{NormalRead}
use Rattle.norm_read.proofs.Accepted.{accepted_sound, accepted_standing}
use Rattle.norm_read.proofs.Told.{told_good}
use Rattle.norm_forms.specs.Forms.{form_fields, form_bytes}
use Rattle.norm_forms.proofs.Moves.{length_form}
use Rattle.norm_move.specs.Move.{file_moved, with_room, moved_into, move_answer, laid_in, move_left}

-- ---- from the reader's answer
pub record Known (s : List ℕ) (r : NormalRead) : Type 0 where
  pub file : Normal
  pub is : read_normal s ≡ good file
  pub told : r ≡ numbers_in file
  pub few_arcs : r.arcs ≤ 16
  pub few_labels : r.parameters ≤ 500
  pub few_stored : r.stored ≤ 500
  pub labels_end : 8 + 4 * r.arcs + 24 * r.parameters ≤ length s
  pub matrix_end : r.matrix + 8 * tri r.stored ≤ length s
  pub rights_end : r.rights + 8 * r.stored ≤ length s
  pub totals_end : r.totals + 16 ≤ length s

known_of : (s : List ℕ) (r : NormalRead) (f : Normal) → read_normal s ≡ good f → r ≡ numbers_in f → Known s r
known_of s r f e t =
    let o = accepted_sound s f e in
    let d = accepted_standing s f e in
    let arcs : r.arcs ≡ length f.holds.arcs = ap (λ v. v.arcs) t in
    let labels : r.parameters ≡ length f.holds.labels = ap (λ v. v.parameters) t in
    let stored : r.stored ≡ length f.stored.labels = ap (λ v. v.stored) t in
    let sums : tri r.stored ≡ tri (length f.stored.labels) = ap tri stored in
    let m : r.matrix ≡ f.matrix = ap (λ v. v.matrix) t in
    let n : r.rights ≡ f.rights = ap (λ v. v.rights) t in
    let k : r.totals ≡ f.totals = ap (λ v. v.totals) t in
    let a : f.matrix ≡ 12 + 4 * length f.holds.arcs + 24 * length f.holds.labels = d.matrix_at in
    let b : f.rights ≡ f.matrix + 8 * tri (length f.stored.labels) + 4 = d.rights_at in
    let c : f.totals ≡ f.rights + 8 * length f.stored.labels + 4 = d.totals_at_lem in
    let long : length s ≡ f.totals + 16 = d.long in
    record {
      file = f;
      is = e;
      told = t;
      few_arcs = omega (arith, o.few_arcs);
      few_labels = omega (arith, o.few_labels);
      few_stored = omega (arith, o.few_labels, d.few_stored);
      labels_end = omega arith;
      matrix_end = omega arith;
      rights_end = omega arith;
      totals_end = omega arith;
    }

pub known : (s : List ℕ) (r : NormalRead) → numbers_of (read_normal s) ≡ good r → Known s r
known s r t = let f = told_good _ r t in known_of s r f.0 f.1 f.2

-- ---- what is answered and left, by the code's tests
module _ (small : Bool) (s : List ℕ) where
  -- the file's own refusal
  module _ (number place : ℕ) (e : read_normal s ≡ bad number place) where
    into_refused : (n : ℕ) → moved_into small s n ≡ bad number place
    unfolding moved_into file_moved
    into_refused n = then_bad _ _ (then_bad _ _ e)

    pub answer_refused : (n : ℕ) → bad number place ≡ move_answer small s n
    unfolding move_answer
    answer_refused n = sym (then_bad _ _ (into_refused n))

    pub left_refused : (room : List ℕ) → room ≡ move_left small s room
    unfolding move_left laid_in
    left_refused room = sym (ap (laid_in room) (into_refused (length room)))

  module _ (f : Normal) (e : read_normal s ≡ good f) where
    abbrev bytes : List ℕ
    bytes = form_bytes small f.holds

    into_good : (n : ℕ) → moved_into small s n ≡ with_room (length s) n bytes
    unfolding moved_into file_moved
    into_good n = then_good _ _ (then_good _ _ e)

    -- 20
    into_short : (n : ℕ) → n < length bytes → moved_into small s n ≡ bad 20 (length s)
    unfolding with_room
    into_short n h = into_good n ∙ sym (yes _ _ _ (is_less n (length bytes) h) refl)

    pub answer_short : (n : ℕ) → n < length bytes → bad 20 (length s) ≡ move_answer small s n
    unfolding move_answer
    answer_short n h = sym (then_bad _ _ (into_short n h))

    pub left_short : (room : List ℕ) → length room < length bytes → room ≡ move_left small s room
    unfolding move_left laid_in
    left_short room h = sym (ap (laid_in room) (into_short (length room) h))

    -- the bytes
    into_long : (n : ℕ) → length bytes ≤ n → moved_into small s n ≡ good bytes
    unfolding with_room
    into_long n h = into_good n ∙ sym (no _ _ _ (not_less n (length bytes) h) refl)

    pub answer_moved : (n : ℕ) → length bytes ≤ n → good (length bytes) ≡ move_answer small s n
    unfolding move_answer
    answer_moved n h = sym (then_good _ _ (into_long n h))

    pub left_moved : (room : List ℕ) → length bytes ≤ length room → lay room 0 bytes ≡ move_left small s room
    unfolding move_left laid_in
    left_moved room h = sym (ap (laid_in room) (into_long (length room) h))

    -- how many they are
    pub form_long : (a p m : ℕ) → a ≡ length f.holds.arcs → p ≡ length f.holds.labels → m ≡ length (stored_of (form_fields small f.holds))
        → 36 + 4 * a + 24 * p + 8 * tri m + 8 * m ≡ length bytes
    form_long a p m ea ep em =
        let l : length bytes ≡ 36 + 4 * length f.holds.arcs + 24 * length f.holds.labels + 8 * (tri (length (stored_of (form_fields small f.holds))) + length (stored_of (form_fields small f.holds))) =
        length_form small f.holds (accepted_sound s f e) in
        let t : tri m ≡ tri (length (stored_of (form_fields small f.holds))) = ap tri em in
        omega arith

-- what was laid at the front of a room
pub front_of : (l room : List ℕ) (n : ℕ) → length l ≡ n → n ≤ length room → take n (lay room 0 l) ≡ l
front_of l room n e h = ap (take n) (lay_front room l (subst (λ m. m ≤ length room) (sym e) h)) ∙ take_at l (drop (length l) room) n e

-- Sums in room that is longer than they are: records are taken into the first part, and the rest is as it was.
-- Assumes nothing.
use Prim.Native.Nat.{ℕ, ◌+◌, ◌≤◌, ◌<◌}
use mathlib.Core.Path.{◌≡◌, refl, sym, ap, ap₂, ◌∙◌, subst}
use mathlib.Core.Bool.{true}
use mathlib.Core.List.{List, [], ◌∷◌, ◌++◌, append-nil, append_assoc}
use native.Mathlib.Omega.{arith}
use lib.IntN.{ℤ, pos, nat_abs}
use lib.ListN.{length, take, drop, take-append-drop, length-append}
use lib.Seq.{get_or-take, take-append-le, drop-append-le}
use Rattle.num_whole.specs.Sums.{plus}
use Rattle.num_whole.specs.Tests.{same}
use Rattle.num_whole.proofs.Cases.{by_cases, same_true, same_false}
use Rattle.num_whole.proofs.Adding.{length_plus, plus_split, plus_nothing}
use Rattle.num_packed.specs.Triangle.{tri}
use Rattle.num_packed.specs.Sound.{entry}
use Rattle.num_packed.proofs.Places.{tri_within}
use Rattle.take_tally.specs.Tally.{accepted}
use Rattle.take_state.specs.State.{State, state_of, sound_state, matrix_top, right_top}
use Rattle.take_laws.specs.Machine.{run, answers}
use Rattle.take_laws.specs.Taking.{Frame, matrix_terms, right_terms, book, record_answer, record_step}
use Rattle.take_laws.proofs.Accepted.{length_matrix_terms, length_right_terms}
use Rattle.take_laws.proofs.Kept.{step_books, step_leaves, step_keeps}
use Rattle.take_laws.proofs.Parts.{good, sound}

-- a state with more room behind its sums
unfoldable pub widened : List ℤ → List ℤ → State → State
widened m r s = state_of (s.matrix ++ m) (s.rights ++ r) s.tally

plus_front : (l x t : List ℤ) → length t ≤ length l → plus (l ++ x) t ≡ plus l t ++ x
plus_front l x t h =
    let k = length t in
    let longer : length t ≤ length (l ++ x) = omega (arith, length-append l x) in
    ap (λ u. plus (l ++ x) u) (sym (append-nil t)) ∙ plus_split (l ++ x) t [] longer
    ∙ ap₂ (λ a b. plus a t ++ b) (take-append-le k l x h) (plus_nothing (drop k (l ++ x)) ∙ drop-append-le k l x h)
    ∙ sym (append_assoc (plus (take k l) t) (drop k l) x)
    ∙ ap (λ a. a ++ x) (sym (ap (λ u. plus l u) (sym (append-nil t)) ∙ plus_split l t [] h ∙ ap (λ b. plus (take k l) t ++ b) (plus_nothing (drop k l))))

-- the sums of a state have just the room of the frame's parameters
pub record Just (f : Frame) (s : State) : Type 0 where
  pub matrix : length s.matrix ≡ tri f.parameters
  pub rights : length s.rights ≡ f.parameters

module _ (f : Frame) (m r : List ℤ) where
  pub answer_wide : (b : List ℕ) (s : State) → record_answer f b (widened m r s) ≡ record_answer f b s
  unfolding record_answer widened
  answer_wide b s = refl

  book_wide : (b : List ℕ) (s : State) → Just f s → book f b (widened m r s) ≡ widened m r (book f b s)
  unfolding book widened
  book_wide b s j =
      λ i. state_of
      (plus_front s.matrix m (matrix_terms f b) (omega (arith, j.matrix, length_matrix_terms f b)) i)
      (plus_front s.rights r (right_terms f b) (omega (arith, j.rights, length_right_terms f b)) i)
      (book f b s).tally

  pub step_wide : (b : List ℕ) (s : State) → Just f s → record_step f b (widened m r s) ≡ widened m r (record_step f b s)
  step_wide b s j =
      by_cases (same (record_answer f b s) 0)
      (λ t. let e = same_true _ _ t in step_books f b (widened m r s) (answer_wide b s ∙ e) ∙ book_wide b s j ∙ ap (widened m r) (sym (step_books f b s e)))
      (λ t. let e = same_false _ _ t in step_leaves f b (widened m r s) (λ z. e (sym (answer_wide b s) ∙ z)) ∙ ap (widened m r) (sym (step_leaves f b s e)))

  just_step : (b : List ℕ) (s : State) → Just f s → Just f (record_step f b s)
  unfolding book
  just_step b s j = step_keeps f b s (Just f) (λ e. record { matrix = length_plus s.matrix _ ∙ j.matrix; rights = length_plus s.rights _ ∙ j.rights }) j

  pub run_wide : (bs : List (List ℕ)) (s : State) → Just f s → run (record_step f) (widened m r s) bs ≡ widened m r (run (record_step f) s bs)
  unfolding run
  run_wide [] s j = refl
  run_wide (b ∷ bs) s j = ap (λ u. run (record_step f) u bs) (step_wide b s j) ∙ run_wide bs (record_step f b s) (just_step b s j)

  pub answers_wide : (bs : List (List ℕ)) (s : State) → Just f s
      → answers (record_step f) (record_answer f) (widened m r s) bs ≡ answers (record_step f) (record_answer f) s bs
  unfolding answers
  answers_wide [] s j = refl
  answers_wide (b ∷ bs) s j =
      ap₂ (λ a l. a ∷ l) (answer_wide b s)
      (ap (λ u. answers (record_step f) (record_answer f) u bs) (step_wide b s j) ∙ answers_wide bs (record_step f b s) (just_step b s j))

-- a state is its first part, with the rest behind it
pub parted : (k p : ℕ) (s : State) → widened (drop k s.matrix) (drop p s.rights) (state_of (take k s.matrix) (take p s.rights) s.tally) ≡ s
unfolding widened
parted k p s = λ i. state_of (take-append-drop k s.matrix i) (take-append-drop p s.rights i) s.tally

-- ---- the part that holds the sums is sound where the whole is
pub sound_part : (stations p : ℕ) (s : State) → sound_state stations p s ≡ true → sound_state stations p (state_of (take (tri p) s.matrix) (take p s.rights) s.tally) ≡ true
sound_part stations p s v =
    let g = good stations p s v in
    let m = s.matrix in
    let at : (i j : ℕ) → i ≤ j → j < p → entry (take (tri p) m) i j ≡ entry m i j =
    λ i j h l. get_or-take (tri p) m (tri j + i) (pos 0) (omega (arith, tri_within j p l)) in
    sound stations p _
    (record {
      counts = g.counts;
      past_counts = g.past_counts;
      marks = λ i h l. let e = g.marks i h l in
          record {
            unseen = λ z. e.unseen (sym (at i i (omega arith) l) ∙ z);
            unmarked = λ z. at i i (omega arith) l ∙ e.unmarked z;
            heard = e.heard;
          };
      past_marks = g.past_marks;
      past_times = g.past_times;
      square = g.square;
      matrix = λ i j h l. let e = g.matrix i j h l in
          record {
            small = subst (λ z. nat_abs z ≤ matrix_top (accepted s.tally)) (sym (at i j h l)) e.small;
            diagonal = λ q. at i j h l ∙ e.diagonal q ∙ ap (λ z. pos (nat_abs z)) (sym (at i j h l));
            row = λ z. at i j h l ∙ e.row (sym (at i i (omega arith) (omega arith)) ∙ z);
            column = λ z. at i j h l ∙ e.column (sym (at j j (omega arith) l) ∙ z);
          };
      rights = λ i l. let e = g.rights i l in let r = get_or-take p s.rights i (pos 0) l in
          record {
            small = subst (λ z. nat_abs z ≤ right_top (accepted s.tally)) (sym r) e.small;
            zero = λ z. r ∙ e.zero (sym (at i i (omega arith) l) ∙ z);
          };
    })

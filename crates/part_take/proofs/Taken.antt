-- Runs of whole records, one after another.
-- Assumes nothing.
use Prim.Native.Nat.{ℕ, ◌+◌, ◌-◌, ◌*◌, ◌/◌, ◌≤◌, min}
use mathlib.Core.Path.{◌≡◌, sym, ap, ap₂, ◌∙◌}
use mathlib.Core.List.{List, [], ◌∷◌, ◌++◌, append-nil}
use native.Mathlib.Omega.{arith}
use native.Mathlib.Nat.{mul-div_cancel}
use lib.ListN.{length, take, drop, length-append, length-drop}
use lib.Seq.{take_all, take-length, drop-length, length-take-le}
use borrow.Rule.Slice.PartMut.{mid_of, put_mid, mid_len}
use Rattle.byte_words.proofs.Words.{lay_front, length_lay}
use Rattle.take_laws.proofs.Runs.{length_cut, length_answers}
use Rattle.num_whole.proofs.Cases.{is_up_to}
use Rattle.refusal.proofs.Firsts.{first_none_left, first_pass, unless_true}
use Rattle.byte_words.specs.Words.{lay}
use Rattle.arc_kinds.specs.Kinds.{record_size}
use Rattle.arc_heading.specs.declared.Heading.{Heading}
use Rattle.take_state.specs.State.{State}
use Rattle.take_laws.specs.Machine.{run, answers}
use Rattle.take_laws.specs.Taking.{frame_of, record_answer, record_step, cut, run_number, run_state, run_answers}
use Rattle.take_laws.proofs.Guarded.{Held, held_heading, held_step}
use Rattle.take_lent.proofs.Whole.{state_taken, answers_taken, whole_are, records_are, nothing_left}

-- ---- two parts of a room
two_parts : (out first others : List ℕ) (x : ℕ) (ys : List ℕ) → length ys + 1 ≤ length out → first ≡ lay (take 1 out) 0 (x ∷ [])
    → (length ys ≤ length (mid_of 1 (length (first ++ drop 1 out) - 1) (first ++ drop 1 out)) → others ≡ lay (mid_of 1 (length (first ++ drop 1 out) - 1) (first ++ drop 1 out)) 0 ys)
    → put_mid 1 (length (first ++ drop 1 out) - 1) (first ++ drop 1 out) others ≡ lay out 0 (x ∷ ys)
two_parts [] first others x ys r e f = absurd (omega arith)
two_parts (a ∷ b) first others x ys r e f =
    let is : first ≡ x ∷ [] = e ∙ lay_front (a ∷ []) (x ∷ []) (omega arith) in
    let joined : first ++ b ≡ x ∷ b = ap (λ z. z ++ b) is in
    let count : length (first ++ b) - 1 ≡ length b = ap (λ z. length z - 1) joined ∙ omega arith in
    let middle : mid_of 1 (length (first ++ b) - 1) (first ++ b) ≡ b = ap₂ (λ k z. mid_of 1 k z) count joined ∙ take-length b in
    let there : others ≡ lay b 0 ys = f (rw middle (omega arith)) ∙ ap (λ z. lay z 0 ys) middle in
    ap₂ (λ k z. put_mid 1 k z others) count joined
    ∙ ap (λ z. x ∷ (others ++ z)) (drop-length b)
    ∙ ap (λ z. x ∷ z) (append-nil others ∙ there ∙ lay_front b ys (omega arith))
    ∙ sym (lay_front (a ∷ b) (x ∷ ys) (omega arith))

module _ (h : Heading) (l : List ℕ) (n : ℕ) (s : State) (v : Held h s) (long : length l ≡ n * record_size h.parameters) where
  many : length l / record_size h.parameters ≡ n
  many = ap (λ k. k / record_size h.parameters) long ∙ mul-div_cancel n (omega arith)

  few : h.parameters ≤ 50
  few = (held_heading h s v).few

  none : (room : ℕ) → n ≤ room → run_number h l room s ≡ 0
  unfolding run_number
  none room r =
      let least : h.parameters ≡ min h.parameters 50 = omega (arith, few) in
      first_pass _ _ (unless_true 20 _ (is_up_to _ _ (omega (arith, whole_are h l few, many))))
      ∙ first_pass _ _ v.number
      ∙ first_pass _ _ (unless_true 1 _ (nothing_left h l h.parameters least (ap (λ k. k * record_size h.parameters) many ∙ sym long)))
      ∙ first_none_left

  pub run_is : (room : ℕ) → n ≤ room → run_state h l room s ≡ run (record_step (frame_of h)) s (cut (record_size h.parameters) n l)
  run_is room r =
      state_taken h l room s (none room r)
      ∙ ap (run (record_step (frame_of h)) s) (records_are h l few ∙ ap (λ k. cut (record_size h.parameters) k l) many)

  pub run_says : (out : List ℕ) → n ≤ length out
      → run_answers h l out s ≡ lay out 0 (answers (record_step (frame_of h)) (record_answer (frame_of h)) s (cut (record_size h.parameters) n l))
  run_says out r =
      answers_taken h l out s (none (length out) r)
      ∙ ap (λ x. lay out 0 (answers (record_step (frame_of h)) (record_answer (frame_of h)) s x)) (records_are h l few ∙ ap (λ k. cut (record_size h.parameters) k l) many)

-- ---- a record, and then a run
module _ (h : Heading) (one l : List ℕ) (n : ℕ) (s : State) (v : Held h s)
    (whole-one : length one ≡ record_size h.parameters) (long : length l ≡ n * record_size h.parameters)
  where
    single : length one ≡ 1 * record_size h.parameters
    single = omega arith

    alone : cut (record_size h.parameters) 1 one ≡ one ∷ []
    unfolding cut
    alone = ap (λ x. x ∷ []) (take_all (record_size h.parameters) one (omega arith))

    pub two_states : (room room₂ : ℕ) (s₁ s₂ : State) → 1 ≤ room → n ≤ room₂ → s₁ ≡ run_state h one room s → s₂ ≡ run_state h l room₂ s₁
        → s₂ ≡ run (record_step (frame_of h)) s (one ∷ cut (record_size h.parameters) n l)
    unfolding run
    two_states room room₂ s₁ s₂ r r₂ e f =
        let is : s₁ ≡ record_step (frame_of h) one s = e ∙ run_is h one 1 s v single room r ∙ ap (run (record_step (frame_of h)) s) alone in
        f ∙ ap (run_state h l room₂) is ∙ run_is h l n (record_step (frame_of h) one s) (held_step h s v one) long room₂ r₂

    pub one_none : (room : ℕ) → 1 ≤ room → run_number h one room s ≡ 0
    one_none room r = none h one 1 s v single room r

    first_state : (room : ℕ) (s₁ : State) → 1 ≤ room → s₁ ≡ run_state h one room s → s₁ ≡ record_step (frame_of h) one s
    unfolding run
    first_state room s₁ r e = e ∙ run_is h one 1 s v single room r ∙ ap (run (record_step (frame_of h)) s) alone

    pub others_none : (room room₂ : ℕ) (s₁ : State) → 1 ≤ room → n ≤ room₂ → s₁ ≡ run_state h one room s → run_number h l room₂ s₁ ≡ 0
    others_none room room₂ s₁ r r₂ e =
        ap (run_number h l room₂) (first_state room s₁ r e) ∙ none h l n (record_step (frame_of h) one s) (held_step h s v one) long room₂ r₂

    -- the answers: the first in its room of one, the others in the rest
    pub two_answers : (out first others : List ℕ) (s₁ : State) (room : ℕ) → n + 1 ≤ length out → 1 ≤ room → s₁ ≡ run_state h one room s
        → first ≡ run_answers h one (take 1 out) s
        → others ≡ run_answers h l (mid_of 1 (length (first ++ drop 1 out) - 1) (first ++ drop 1 out)) s₁
        → put_mid 1 (length (first ++ drop 1 out) - 1) (first ++ drop 1 out) others
        ≡ lay out 0 (answers (record_step (frame_of h)) (record_answer (frame_of h)) s (one ∷ cut (record_size h.parameters) n l))
    unfolding answers
    two_answers out first others s₁ room r q e f g =
        let step = record_step (frame_of h) in
        let say = record_answer (frame_of h) in
        let x = say one s in
        let ys = answers step say (step one s) (cut (record_size h.parameters) n l) in
        let many-ys : length ys ≡ n = length_answers step say (cut (record_size h.parameters) n l) (step one s) ∙ length_cut (record_size h.parameters) n l in
        let one-room : 1 ≤ length (take 1 out) = rw (length-take-le 1 out (omega arith)) (omega arith) in
        let first-is : first ≡ lay (take 1 out) 0 (x ∷ []) = f ∙ run_says h one 1 s v single (take 1 out) one-room ∙ ap (λ z. lay (take 1 out) 0 (answers step say s z)) alone in
        let rest = mid_of 1 (length (first ++ drop 1 out) - 1) (first ++ drop 1 out) in
        let others-are : n ≤ length rest → others ≡ lay rest 0 ys = λ w.
        g ∙ ap (run_answers h l rest) (first_state room s₁ q e) ∙ run_says h l n (step one s) (held_step h s v one) long rest w in
        two_parts out first others x ys (omega (arith, many-ys)) first-is (λ w. others-are (omega (arith, many-ys)))

    -- there is room for the others
    pub two_room : (out first : List ℕ) → n + 1 ≤ length out → first ≡ run_answers h one (take 1 out) s
        → n ≤ length (mid_of 1 (length (first ++ drop 1 out) - 1) (first ++ drop 1 out))
    two_room out first r f =
        let one_long = length-take-le 1 out (omega arith) in
        let size : length first ≡ 1 = ap length (f ∙ run_says h one 1 s v single (take 1 out) (omega (arith, one_long))) ∙ length_lay _ _ _ ∙ one_long in
        let all : length (first ++ drop 1 out) ≡ length out = length-append first (drop 1 out) ∙ omega (arith, length-drop 1 out) in
        omega (arith, mid_len 1 (length (first ++ drop 1 out)) (first ++ drop 1 out) (omega arith))

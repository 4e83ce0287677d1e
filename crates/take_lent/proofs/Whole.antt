-- A run that nothing refuses: what it has, what is left of the state and the room, its records, and when nothing is left over.
-- Assumes nothing.
use Prim.Native.Nat.{ℕ, ◌+◌, ◌*◌, ◌/◌, ◌≤◌, min}
use mathlib.Core.Path.{◌≡◌, refl, sym, ap, ◌∙◌}
use mathlib.Core.Bool.{true, false}
use mathlib.Core.List.{List}
use native.Mathlib.Omega.{arith}
use lib.ListN.{length}
use Rattle.num_whole.specs.Tests.{same}
use Rattle.num_whole.proofs.Cases.{yes, is_same, not_same, up_to_true}
use Rattle.refusal.proofs.Firsts.{unless_none, first_none}
use Rattle.byte_words.specs.Words.{lay}
use Rattle.arc_heading.specs.declared.Heading.{Heading}
use Rattle.arc_kinds.specs.Kinds.{record_size}
use Rattle.take_state.specs.State.{State, state_number, capped}
use Rattle.take_laws.specs.Machine.{run, answers}
use Rattle.take_laws.specs.Taking.{frame_of, record_answer, record_step, cut, whole_records, records_in, whole_run, run_number, run_state, run_answers}

module _ (h : Heading) (l : List ℕ) (room : ℕ) (s : State) where
  -- what a run that nothing refuses has
  pub record Whole : Type 0 where
    pub roomy : whole_records h l ≤ room
    pub state : state_number h s ≡ 0

  pub whole_run_lem : run_number h l room s ≡ 0 → Whole
  unfolding run_number
  whole_run_lem e =
      let a = first_none _ _ e in
      let b = first_none _ _ a.1 in
      record { roomy = up_to_true _ _ (unless_none 20 _ (λ z. omega arith) a.0); state = b.0 }

  pub state_taken : run_number h l room s ≡ 0 → run_state h l room s ≡ run (record_step (frame_of h)) s (records_in h l)
  unfolding run_state
  state_taken e = sym (yes _ _ _ (is_same _ _ e) refl)

module _ (h : Heading) (l out : List ℕ) (s : State) where
  pub answers_taken : run_number h l (length out) s ≡ 0 → run_answers h l out s ≡ lay out 0 (answers (record_step (frame_of h)) (record_answer (frame_of h)) s (records_in h l))
  unfolding run_answers
  answers_taken e = sym (yes _ _ _ (is_same _ _ e) refl)

-- the records of a heading that is not past its capacity
module _ (h : Heading) (l : List ℕ) (few : h.parameters ≤ 50) where
  same_size : record_size (capped h) ≡ record_size h.parameters
  same_size = let k : min h.parameters 50 ≡ h.parameters = omega arith in ap record_size k

  pub whole_are : whole_records h l ≡ length l / record_size h.parameters
  unfolding whole_records
  whole_are = ap (λ z. length l / z) same_size

  pub records_are : records_in h l ≡ cut (record_size h.parameters) (length l / record_size h.parameters) l
  unfolding records_in whole_records
  records_are = ap (λ z. cut z (length l / z) l) same_size

-- the machine's number of whole records, and its test that nothing is left over
module _ (h : Heading) (l : List ℕ) (k : ℕ) (e : k ≡ min h.parameters 50) where
  pub count_is : length l / (32 + 2 * k) ≡ whole_records h l
  unfolding whole_records
  count_is = ap (λ z. length l / record_size z) e

  whole_by : same (length l / (32 + 2 * k) * (32 + 2 * k)) (length l) ≡ whole_run h l
  unfolding whole_run whole_records
  whole_by = ap (λ z. same (length l / record_size z * record_size z) (length l)) e

  pub nothing_left : length l / (32 + 2 * k) * (32 + 2 * k) ≡ length l → whole_run h l ≡ true
  nothing_left x = sym whole_by ∙ is_same _ _ x

  pub something_left : (length l / (32 + 2 * k) * (32 + 2 * k) ≡ length l → ⊥) → whole_run h l ≡ false
  something_left x = sym whole_by ∙ not_same _ _ x

-- The refusals of the entries in their order, and what an entry leaves where nothing refuses.
-- Assumes nothing.
use Rattle.std.specs.Prelude.{Result, Ok, Err}
use Prim.Native.Nat.{ℕ, ◌≤◌, ◌<◌}
use mathlib.Core.Path.{◌≡◌, refl, sym, ap, ◌∙◌}
use mathlib.Core.Bool.{true, false}
use mathlib.Core.List.{List, [], ◌∷◌}
use lib.ListN.{length}
use Rattle.num_whole.specs.Tests.{same, pick}
use Rattle.num_whole.specs.Answer.{given, refused}
use Rattle.num_whole.proofs.Cases.{no, not_same, is_up_to, not_up_to}
use Rattle.refusal.specs.Number.{number_of}
use Rattle.refusal.specs.First.{unless, first, answered}
use Rattle.refusal.specs.declared.Refusal.{Refusal}
use Rattle.refusal.specs.declared.Refusal.TheVariants.{Room, Short}
use Rattle.refusal.proofs.Apart.{not_none}
use Rattle.refusal.proofs.Firsts.{unless_true, unless_false, first_none_left, first_one, first_pass, first_by, answered_given, answered_by, answered_is, answered_not}
use Rattle.arc_heading.specs.declared.Heading.{Heading}
use Rattle.refusal.specs.Told.{told}
use Rattle.take_state.specs.State.{State, state_number}
use Rattle.take_laws.specs.Taking.{frame_of, book, record_answer, record_step, take_answer, take_step, whole_records, whole_run, run_number, run_state, run_answers}

-- ---- one record
module _ (h : Heading) (b : List ℕ) (s : State) where
  module _ (e : state_number h s ≡ 0) where
    pub sound_answer : take_answer h b s ≡ record_answer (frame_of h) b s
    unfolding take_answer
    sound_answer = first_pass _ _ e ∙ first_one _

    pub sound_step : take_step h b s ≡ record_step (frame_of h) b s
    unfolding take_step record_step
    sound_step = ap (λ k. pick (same k 0) (book (frame_of h) b s) s) sound_answer

  module _ (r : Refusal) (e : state_number h s ≡ number_of r) where
    pub refused_answer : take_answer h b s ≡ number_of r
    unfolding take_answer
    refused_answer = sym (first_by _ _ r e)

    pub refused_step : take_step h b s ≡ s
    unfolding take_step
    refused_step = sym (no _ _ _ (not_same _ _ (λ z. not_none r (sym refused_answer ∙ z))) refl)

-- ---- a run
module _ (h : Heading) (l : List ℕ) (room : ℕ) (s : State) where
  pub run_room : room < whole_records h l → refused 20 ≡ answered (run_number h l room s) (tt {0})
  unfolding run_number
  run_room e = answered_by _ tt Room (sym (first_by _ _ Room (unless_false 20 _ (not_up_to _ _ e))))

  module _ (roomy : whole_records h l ≤ room) where
    to_state : run_number h l room s ≡ first (state_number h s ∷ unless 1 (whole_run h l) ∷ [])
    unfolding run_number
    to_state = first_pass _ _ (unless_true 20 _ (is_up_to _ _ roomy))

    pub run_refused : (r : Refusal) → state_number h s ≡ number_of r → refused (number_of r) ≡ answered (run_number h l room s) (tt {0})
    run_refused r e = answered_by _ tt r (to_state ∙ sym (first_by _ _ r e))

    module _ (e : state_number h s ≡ 0) where
      pub run_short : whole_run h l ≡ false → refused 1 ≡ answered (run_number h l room s) (tt {0})
      run_short f = answered_by _ tt Short (to_state ∙ first_pass _ _ e ∙ sym (first_by _ _ Short (unless_false 1 _ f)))

      pub run_sound : whole_run h l ≡ true → given (tt {0}) ≡ answered (run_number h l room s) (tt {0})
      run_sound t = answered_given _ tt (to_state ∙ first_pass _ _ e ∙ first_pass _ _ (unless_true 1 _ t) ∙ first_none_left)

  module _ (some : run_number h l room s ≡ 0 → ⊥) where
    pub state_left : run_state h l room s ≡ s
    unfolding run_state
    state_left = sym (no _ _ _ (not_same _ _ some) refl)

-- the answers where the run is refused
module _ (h : Heading) (l out : List ℕ) (s : State) where
  pub answers_left_lem : (run_number h l (length out) s ≡ 0 → ⊥) → run_answers h l out s ≡ out
  unfolding run_answers
  answers_left_lem some = sym (no _ _ _ (not_same _ _ some) refl)

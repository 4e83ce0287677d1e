-- The refusals of a heading and its state in their order: the heading's own first, then what is left of the state's.
-- Assumes nothing.
use Prim.Native.Nat.{ℕ}
use mathlib.Core.Path.{◌≡◌, sym, ap, ◌∙◌}
use mathlib.Core.Bool.{true}
use mathlib.Core.List.{[], ◌∷◌}
use native.Mathlib.Omega.{arith}
use Rattle.num_whole.specs.Tests.{same}
use Rattle.num_whole.specs.Answer.{refused}
use Rattle.num_whole.proofs.Cases.{by_cases, same_true, same_false}
use Rattle.refusal.specs.Number.{number_of}
use Rattle.refusal.specs.First.{unless, number_in, first, answered}
use Rattle.refusal.specs.declared.Refusal.{Refusal}
use Rattle.refusal.proofs.Firsts.{first_pass, first_stop, first_none, first_one, first_by, unless_none, answered_by, number_refused}
use Rattle.arc_heading.specs.Judge.{judged}
use Rattle.arc_heading.specs.declared.Heading.{Heading}
use Rattle.take_state.specs.State.{State, sound_state, room_number, state_number}
use Rattle.take_state.proofs.Rooms.{Roomed, state_roomed}
use Rattle.norm_state.specs.OfState.{held_number}

-- a number that nothing follows
first_alone : (k n : ℕ) → n ≡ 0 → first (k ∷ n ∷ []) ≡ k
first_alone k n e =
    by_cases (same k 0)
    (λ t. let z = same_true k 0 t in first_pass k _ z ∙ first_one n ∙ e ∙ sym z)
    (λ t. first_stop k _ (same_false k 0 t))

module _ (h : Heading) (s : State) where
  pub held_judged : (f : Refusal) → judged h ≡ refused (number_of f) → refused (number_of f) ≡ answered (held_number h s) (tt {0})
  unfolding held_number
  held_judged f e = answered_by _ tt f (sym (first_by _ _ f (number_refused (judged h) _ e)))

  -- of a sound heading the two orders agree
  pub held_state : number_in (judged h) ≡ 0 → state_number h s ≡ held_number h s
  unfolding state_number room_number held_number
  held_state e = ap (λ k. first (k ∷ unless 6 (sound_state h.stations h.parameters s) ∷ [])) (first_alone _ _ e) ∙ sym (first_pass _ _ e)

  -- what is known where nothing is refused
  pub record Sound : Type 0 where
    pub room : Roomed h s.matrix s.rights
    pub sums : sound_state h.stations h.parameters s ≡ true

  pub held_sound : held_number h s ≡ 0 → Sound
  unfolding held_number
  held_sound e =
      let head = first_none _ _ e in
      let rest = first_none _ _ head.1 in
      record {
        room = state_roomed h s (held_state head.0 ∙ e);
        sums = unless_none 6 _ (λ z. omega arith) (first_none _ _ rest.1).0;
      }

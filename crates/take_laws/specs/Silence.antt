-- Demand 2, silence: "A parameter is reported unseen exactly where its diagonal sum is 0". In sums begun empty that is exactly where each
-- accepted record has the partial 0 for it; and with no record accepted nothing is seen and every sum is 0. 02, #105: "A parameter is unseen
-- exactly when it has no mark."
use Rattle.std.specs.Prelude.{ℕ, ◌≤◌, ◌<◌, ◌≡◌, false, List, [], ◌↔◌, ℤ, pos, get_or}
use Rattle.num_limits.specs.Capacities.{parameters_most}
use Rattle.num_packed.specs.Sound.{entry}
use Rattle.arc_heading.specs.declared.Heading.{Heading}
use Rattle.take_tally.specs.Tally.{mark_of, accepted}
use Rattle.take_state.specs.State.{State, seen_in, state_number}
use Rattle.take_laws.specs.Taking.{frame_of}
use Rattle.num_whole.specs.Lists.{Each}
use Rattle.take_laws.specs.Arc.{end_of, accepted_in}
use Rattle.take_laws.specs.SumsOver.{partial_of}

-- a state of p parameters in which nothing is seen
pub record Silent (p : ℕ) (s : State) : Type 0 where
  pub unseen : (i : ℕ) → i < p → seen_in s.matrix i ≡ false
  pub matrix : (i j : ℕ) → i ≤ j → j < p → entry s.matrix i j ≡ pos 0
  pub rights : (i : ℕ) → i < p → get_or s.rights i (pos 0) ≡ pos 0
  pub square : s.tally.square ≡ 0
  pub marks : (i : ℕ) → i < parameters_most → mark_of s.tally i ≡ 0
  pub none : accepted s.tally ≡ 0

pub record Silence (h : Heading) (m r : List ℤ) : Type 0 where
  pub exactly : (bs : List (List ℕ)) (i : ℕ) → i < h.parameters
      → (seen_in (end_of h m r bs).matrix i ≡ false) ↔ Each (λ b. partial_of (frame_of h) b i ≡ pos 0) (accepted_in h m r bs)
  -- of every state that is not refused
  pub unmarked : (s : State) → state_number h s ≡ 0 → (i : ℕ) → i < h.parameters → (seen_in s.matrix i ≡ false) ↔ (mark_of s.tally i ≡ 0)
  pub nothing : (bs : List (List ℕ)) → accepted_in h m r bs ≡ [] → Silent h.parameters (end_of h m r bs)

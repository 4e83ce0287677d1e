-- Never unsound: from the empty state every state that records lead to is sound, so that no record is answered 6; and the sums fit their 64 bits.
use Rattle.std.specs.Prelude.{ℕ, ◌^◌, ◌≤◌, ◌<◌, ◌≡◌, Bool, true, List, ℤ, pos, get_or}
use Rattle.std.specs.Int.{w64}
use Rattle.std.proofs.Common.{SFits}
use Rattle.num_whole.specs.Tests.{up_to, same, either, between}
use Rattle.num_packed.specs.Sound.{entry}
use Rattle.arc_heading.specs.declared.Heading.{Heading}
use Rattle.take_state.specs.State.{sound_state, state_number}
use Rattle.num_whole.specs.Lists.{Each}
use Rattle.take_laws.specs.Arc.{end_of, told_in}

-- what a record may be answered: 0 or 1, 3, 10 to 19
unfoldable pub is_answer : ℕ → Bool
is_answer n = either (up_to n 1) (either (same n 3) (between 10 n 19))

pub record Never (h : Heading) (m r : List ℤ) : Type 0 where
  -- the state is sound, and a heading with it is not refused
  pub sound : (bs : List (List ℕ)) → sound_state h.stations h.parameters (end_of h m r bs) ≡ true
  pub number : (bs : List (List ℕ)) → state_number h (end_of h m r bs) ≡ 0
  -- each answer is one of a record's own, and so never 6
  pub answers : (bs : List (List ℕ)) → Each (λ x. is_answer x.1 ≡ true) (told_in h m r bs)
  pub six : (bs : List (List ℕ)) → Each (λ x. x.1 ≡ 6 → ⊥) (told_in h m r bs)
  -- the sums fit
  pub matrix : (bs : List (List ℕ)) (i j : ℕ) → i ≤ j → j < h.parameters → SFits w64 (entry (end_of h m r bs).matrix i j)
  pub rights : (bs : List (List ℕ)) (i : ℕ) → i < h.parameters → SFits w64 (get_or (end_of h m r bs).rights i (pos 0))
  pub square : (bs : List (List ℕ)) → (end_of h m r bs).tally.square < 2 ^ 64

-- A run of records handed in as bytes, from the empty state: its end, and each of its records with the answer in its room, are those of its
-- records taken one by one. So all the demands hold of it.
use Rattle.std.specs.Prelude.{ℕ, ◌<◌, ◌≡◌, false, List, map, ◌↔◌, ℤ, pos, length}
use Rattle.num_limits.specs.Capacities.{stations_most}
use Rattle.arc_heading.specs.declared.Heading.{Heading}
use Rattle.take_state.specs.State.{State, started, seen_in, state_number}
use Rattle.take_laws.specs.Taking.{frame_of, records_in, run_number, run_state, run_answers}
use Rattle.num_whole.specs.Tests.{up_to}
use Rattle.num_whole.specs.Lists.{Each}
use Rattle.take_laws.specs.Mix.{keep, pairs, in_order, told_to, taken}
use Rattle.take_laws.specs.Arc.{end_of, told_in}
use Rattle.take_laws.specs.SumsOver.{partial_of, SumsOver}
use Rattle.take_laws.specs.Order.{whose, stray_answer, Mixes}

-- of a run l, with the room `out` for its answers: that it is not refused, its end, and each of its records with its answer
module _ (h : Heading) (m r : List ℤ) (l out : List ℕ) where
  abbrev pub Unrefused : Type 0
  Unrefused = run_number h l (length out) (started h m r) ≡ 0

  abbrev pub run_end : State
  run_end = run_state h l (length out) (started h m r)

  abbrev pub run_told : List (List ℕ × ℕ)
  run_told = pairs (records_in h l) (run_answers h l out (started h m r))

pub record Runs (h : Heading) (m r : List ℤ) : Type 0 where
  pub end : (l out : List ℕ) → Unrefused h m r l out → run_end h m r l out ≡ end_of h m r (records_in h l)
  pub told : (l out : List ℕ) → Unrefused h m r l out → run_told h m r l out ≡ told_in h m r (records_in h l)
  -- the demands
  pub sums : (l out : List ℕ) → Unrefused h m r l out → SumsOver (frame_of h) (run_end h m r l out) (taken (run_told h m r l out))
  pub unseen : (l out : List ℕ) → Unrefused h m r l out → (i : ℕ) → i < h.parameters
      → (seen_in (run_end h m r l out).matrix i ≡ false) ↔ Each (λ b. partial_of (frame_of h) b i ≡ pos 0) (taken (run_told h m r l out))
  -- demand 3: each station's records are told what they are told with the stations taken one after another, and the end is the same; a record of
  -- no station is told what it alone fixes
  pub one_by_one : (l out : List ℕ) → Unrefused h m r l out → (k : ℕ) → k < stations_most
      → told_to (whose (frame_of h)) k (run_told h m r l out) ≡ told_to (whose (frame_of h)) k (told_in h m r (in_order (whose (frame_of h)) stations_most (records_in h l)))
  pub strays : (l out : List ℕ) → Unrefused h m r l out
      → keep (λ x. up_to stations_most (whose (frame_of h) x.0)) (run_told h m r l out)
      ≡ map (λ b. (b, stray_answer (frame_of h) b)) (keep (λ b. up_to stations_most (whose (frame_of h) b)) (records_in h l))
  pub ends : (l out : List ℕ) → Unrefused h m r l out → run_end h m r l out ≡ end_of h m r (in_order (whose (frame_of h)) stations_most (records_in h l))
  pub same_answers : (l out l₁ out₁ : List ℕ) → Unrefused h m r l out → Unrefused h m r l₁ out₁ → Mixes (frame_of h) (records_in h l) (records_in h l₁)
      → (k : ℕ) → k < stations_most → told_to (whose (frame_of h)) k (run_told h m r l out) ≡ told_to (whose (frame_of h)) k (run_told h m r l₁ out₁)
  pub same_end : (l out l₁ out₁ : List ℕ) → Unrefused h m r l out → Unrefused h m r l₁ out₁ → Mixes (frame_of h) (records_in h l) (records_in h l₁)
      → run_end h m r l out ≡ run_end h m r l₁ out₁
  pub sound : (l out : List ℕ) → Unrefused h m r l out → state_number h (run_end h m r l out) ≡ 0

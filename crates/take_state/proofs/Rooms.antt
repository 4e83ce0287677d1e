-- Refusals of a heading with its state, in their order, what room an accepted one has, what starting leaves in the room, and what is seen.
-- Assumes nothing.
use Rattle.std.specs.Prelude.{Result, Ok, Err}
use Prim.Native.Nat.{ℕ, ◌+◌, ◌≤◌, ◌<◌, min}
use mathlib.Core.Path.{◌≡◌, refl, sym, ap, ◌∙◌}
use mathlib.Core.Bool.{Bool, true, false}
use mathlib.Core.List.{List}
use native.Mathlib.Omega.{arith}
use lib.IntN.{ℤ}
use lib.ListN.{length}
use Rattle.num_whole.specs.Tests.{pick}
use Rattle.num_whole.specs.Answer.{Answered, given, refused}
use Rattle.num_whole.proofs.Cases.{yes, no, is_less, not_less, less_true, is_same, not_same, both_first, both_second, up_to_true}
use Rattle.refusal.specs.Number.{number_of}
use Rattle.refusal.specs.First.{number_in, answered}
use Rattle.refusal.specs.declared.Refusal.{Refusal}
use Rattle.refusal.specs.declared.Refusal.TheVariants.{Limits, Room, Unsound}
use Rattle.refusal.proofs.Apart.{not_none}
use Rattle.refusal.proofs.Firsts.{unless_true, unless_false, unless_none, first_pass, first_none, first_by, answered_given, answered_refused, answered_by, answered_is, answered_not, first_one}
use Rattle.num_packed.specs.Triangle.{tri}
use Rattle.num_packed.specs.Room.{sums_roomy}
use Rattle.num_packed.proofs.Places.{tri_within}
use Rattle.arc_heading.specs.Judge.{judged}
use Rattle.arc_heading.specs.declared.Heading.{Heading}
use Rattle.refusal.specs.Told.{told}
use Rattle.arc_heading.proofs.Sound.{Sound, sound}
use Rattle.take_marks.specs.Marks.{has_mark}
use Rattle.take_tally.specs.Tally.{empty_tally, mark_of}
use Rattle.take_tally.specs.declared.Tally.{Tally}
use Rattle.take_room.specs.Room.{cleared}
use Rattle.take_state.specs.State.{State, state_of, sound_state, roomy, room_number, state_number, started, parameter_number, carries_of}

-- ---- an answer and its number
by_number : (v : Result (Unit {0}) Refusal) → told v ≡ answered (number_in (told v)) tt
unfolding number_in
by_number (Ok tt) = answered_given 0 tt refl
by_number (Err r) = answered_refused (number_of r) tt (not_none r)

-- what an answer says of its number
pub by_given : (k : ℕ) → given (tt {0}) ≡ answered k (tt {0}) → k ≡ 0
by_given k e = (answered_is k tt tt (sym e)).0

pub by_refused : (n k : ℕ) → refused n ≡ answered k (tt {0}) → k ≡ n
by_refused n k e = answered_not k tt n (sym e)

-- the same of a result that was told
module _ {v : Result (Unit {0}) Refusal} {k : ℕ} (e : told v ≡ answered k tt) where
  pub accepted : v ≡ Ok tt → k ≡ 0
  accepted is = by_given k (sym (ap told is) ∙ e)

  pub stopped : {r : Refusal} → v ≡ Err r → k ≡ number_of r
  stopped is = by_refused _ k (sym (ap told is) ∙ e)

-- ---- room
module _ (h : Heading) (m r : List ℤ) where
  pub room_short : roomy h m r ≡ false → refused 20 ≡ answered (room_number h m r) (tt {0})
  unfolding room_number
  room_short e = answered_by _ tt Room (sym (first_by _ _ Room (unless_false 20 _ e)))

  pub room_judged : roomy h m r ≡ true → (v : Result (Unit {0}) Refusal) → told v ≡ judged h → told v ≡ answered (room_number h m r) (tt {0})
  unfolding room_number
  room_judged e v j =
      by_number v ∙ ap (λ k. answered k tt) (ap number_in j ∙ sym (first_pass _ _ (unless_true 20 _ e) ∙ first_one (number_in (judged h))))

-- a test that a heading passed
passed : (k : ℕ) → (k ≡ 0 → ⊥) → (b : Bool) (x : Answered (Unit {0})) → number_in (pick b x (refused k)) ≡ 0 → (b ≡ true) × (number_in x ≡ 0)
unfolding pick number_in
passed k more true x e = (refl, e)
passed k more false x e = absurd (more e)

pub judged_given : (h : Heading) → number_in (judged h) ≡ 0 → judged h ≡ given tt
unfolding judged
judged_given h e =
    let a = passed 2 (λ z. omega arith) _ _ e in
    let b = passed 4 (λ z. omega arith) _ _ a.1 in
    let c = passed 5 (λ z. omega arith) _ _ b.1 in
    sym (yes _ _ _ a.0 (yes _ _ _ b.0 (yes _ _ _ c.0 refl)))

-- what an accepted heading with room has
pub record Roomed (h : Heading) (m r : List ℤ) : Type 0 where
  pub sound : Sound h
  pub matrix : tri h.parameters ≤ length m
  pub rights : h.parameters ≤ length r

pub roomed : (h : Heading) (m r : List ℤ) → room_number h m r ≡ 0 → Roomed h m r
unfolding room_number roomy sums_roomy
roomed h m r e =
    let a = first_none _ _ e in
    let room = unless_none 20 _ (λ z. omega arith) a.0 in
    let s = sound h (judged_given h (sym (first_one _) ∙ a.1)) in
    let few : min h.parameters 50 ≡ h.parameters = omega (arith, s.few) in
    record {
      sound = s;
      matrix = rw few at (up_to_true _ _ (both_first _ _ room));
      rights = rw few at (up_to_true _ _ (both_second _ _ room));
    }

-- ---- the empty state
module _ (h : Heading) (m r : List ℤ) where
  pub started_kept : (f : Refusal) → room_number h m r ≡ number_of f → state_of m r empty_tally ≡ started h m r
  unfolding started
  started_kept f e = no _ _ _ (not_same _ _ (λ z. not_none f (sym e ∙ z))) refl

  pub started_cleared : (a b : List ℤ) (t : Tally) → room_number h m r ≡ 0 → a ≡ cleared (tri h.parameters) m → b ≡ cleared h.parameters r → t ≡ empty_tally → state_of a b t ≡ started h m r
  unfolding started
  started_cleared a b t e x y z = yes _ _ _ (is_same _ _ e) (rw (x, y, z))

-- ---- the state
module _ (h : Heading) (s : State) where
  pub state_room : (f : Refusal) → room_number h s.matrix s.rights ≡ number_of f → refused (number_of f) ≡ answered (state_number h s) (tt {0})
  unfolding state_number
  state_room f e = answered_by _ tt f (sym (first_by _ _ f e))

  module _ (room : room_number h s.matrix s.rights ≡ 0) where
    pub state_unsound : sound_state h.stations h.parameters s ≡ false → refused 6 ≡ answered (state_number h s) (tt {0})
    unfolding state_number
    state_unsound e = answered_by _ tt Unsound (first_pass _ _ room ∙ first_one _ ∙ unless_false 6 _ e)

    pub state_sound : sound_state h.stations h.parameters s ≡ true → given (tt {0}) ≡ answered (state_number h s) (tt {0})
    unfolding state_number
    state_sound e = answered_given _ tt (first_pass _ _ room ∙ first_one _ ∙ unless_true 6 _ e)

  pub state_roomed : state_number h s ≡ 0 → Roomed h s.matrix s.rights
  unfolding state_number
  state_roomed e = roomed h s.matrix s.rights (first_none _ _ e).0

-- ---- what is seen
-- the diagonal of parameter i stands among the 1,275 sums of fifty
pub place_small : (i : ℕ) → i < 50 → tri i + i < 1275
unfolding tri
place_small i h = omega (arith, tri_within i 50 h)

-- the heading with its state is judged first, then the parameter's number
module _ (h : Heading) (s : State) (i : ℕ) where
  pub parameter_judged : (f : Refusal) → state_number h s ≡ number_of f → refused (number_of f) ≡ answered (parameter_number h s i) (tt {0})
  unfolding parameter_number
  parameter_judged f e = answered_by _ _ f (sym (first_by _ _ f e))

  pub parameter_none : state_number h s ≡ 0 → h.parameters ≤ i → refused 4 ≡ answered (parameter_number h s i) (tt {0})
  unfolding parameter_number
  parameter_none sound l = answered_by _ _ Limits (first_pass _ _ sound ∙ first_one _ ∙ unless_false 4 _ (not_less _ _ l))

  pub parameter_some : state_number h s ≡ 0 → i < h.parameters → given (tt {0}) ≡ answered (parameter_number h s i) (tt {0})
  unfolding parameter_number
  parameter_some sound l = answered_given _ _ (first_pass _ _ sound ∙ first_one _ ∙ unless_true 4 _ (is_less _ _ l))

  pub parameter_found : state_number h s ≡ 0 → i < h.parameters → parameter_number h s i ≡ 0
  parameter_found sound l = by_given _ (parameter_some sound l)

  -- what a parameter that was found has
  pub parameter_is : parameter_number h s i ≡ 0 → (state_number h s ≡ 0) × (i < h.parameters)
  unfolding parameter_number
  parameter_is e = let a = first_none _ _ e in (a.0, less_true _ _ (unless_none 4 _ (λ z. omega arith) (sym (first_one _) ∙ a.1)))

  -- there are few of them, and few stations
  pub parameter_few : parameter_number h s i ≡ 0 → i < 50
  parameter_few e = let f = parameter_is e in omega (arith, f.1, (state_roomed _ _ f.0).sound.few)

  pub parameter_seats : parameter_number h s i ≡ 0 → h.stations ≤ 16
  parameter_seats e = (state_roomed _ _ (parameter_is e).0).sound.seats

  -- ---- the station's row comes last
  pub row_judged : (k : ℕ) (f : Refusal) → parameter_number h s i ≡ number_of f → refused (number_of f) ≡ carries_of h s i k
  unfolding carries_of
  row_judged k f e = answered_by _ _ f (sym (first_by _ _ f e))

  module _ (k : ℕ) (found : parameter_number h s i ≡ 0) where
    pub row_none : h.stations ≤ k → refused 4 ≡ carries_of h s i k
    unfolding carries_of
    row_none l = answered_by _ _ Limits (first_pass _ _ found ∙ first_one _ ∙ unless_false 4 _ (not_less _ _ l))

    pub row_some : k < h.stations → given (has_mark (mark_of s.tally i) k) ≡ carries_of h s i k
    unfolding carries_of
    row_some l = answered_given _ _ (first_pass _ _ found ∙ first_one _ ∙ unless_true 4 _ (is_less _ _ l))

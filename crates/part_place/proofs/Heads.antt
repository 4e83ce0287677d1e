-- The parameters that were read; whether a state is one that the entries give.
-- Assumes nothing.
use Rattle.std.specs.Prelude.{Result, Ok, Err, Option, Some, None, is_ok, is_some}
use Rattle.std.specs.Result.{result_unwrap_or}
use Prim.Native.Nat.{ℕ}
use mathlib.Core.Path.{◌≡◌, refl, sym, ap, ◌∙◌, subst}
use mathlib.Core.List.{List}
use mathlib.Core.Bool.{Bool, true, false, not}
use native.Mathlib.Omega.{arith}
use lib.Dec.{leb}
use lib.IntN.{ℤ, pos}
use lib.ListN.{length}
use Rattle.num_whole.specs.Tests.{up_to}
use Rattle.num_whole.specs.Answer.{Judged, good, bad}
use Rattle.num_whole.proofs.Cases.{by_cases, holds, fails, by_up_to}
use Rattle.num_limits.specs.Capacities.{parameters_most, stations_most}
use Rattle.refusal.specs.Number.{number_of}
use Rattle.refusal.specs.First.{unless, answered}
use Rattle.refusal.specs.declared.Refusal.{Refusal}
use Rattle.refusal.proofs.Apart.{not_none}
use Rattle.refusal.proofs.Firsts.{first_pass, first_one, unless_true, unless_none, answered_is, answered_not}
use Rattle.refusal.specs.Told.{told, told_placed}
use Rattle.refusal.specs.declared.Fault.{Fault}
use Rattle.num_packed.specs.Found.{told_walked, columns_from, first_from}
use Rattle.num_packed.specs.Sound.{breaks, breaks_side}
use Rattle.take_state.proofs.Judged.{matrix_pass, matrix_fail, rights_pass, rights_fail}
use Rattle.byte_section.specs.Section.{and_then, count_at}
use Rattle.byte_section.proofs.Walk.{then_good, then_bad}
use Rattle.arc_limits.specs.declared.Settings.{Settings}
use Rattle.arc_kinds.specs.Told.{settings_part}
use Rattle.arc_heading.specs.declared.Heading.{Heading}
use Rattle.arc_read.specs.Arc.{Arc}
use Rattle.arc_read.proofs.Parts.{settings_first}
use Rattle.take_tally.specs.Tally.{accepted, tally_sound}
use Rattle.take_state.specs.State.{State, matrix_top, right_top, matrix_sound, rights_sound, sums_sound, sound_state, room_number, state_number}
use Rattle.part_laws.specs.Entries.{count_by, parameters_in, sound_by}
use Rattle.part_laws.proofs.States.{none_in_tally}
use Rattle.part_place.specs.Looks.{RoomAt}

-- ---- the parameters
module _ (s : List ℕ) where
  read_so : parameters_in s ≡ count_by (and_then (settings_part s) (λ a. count_at s 16 1 parameters_most))
  unfolding parameters_in
  read_so = ap count_by (settings_first s (λ a. count_at s a.next 1 parameters_most))

  parameters_are : (a : Settings) (n : ℕ) → settings_part s ≡ good a → count_at s 16 1 parameters_most ≡ good n → n ≡ parameters_in s
  parameters_are a n e f = sym (read_so ∙ ap count_by (then_good _ _ e ∙ f))

  parameters_not : (a : Settings) (number place : ℕ) → settings_part s ≡ good a → count_at s 16 1 parameters_most ≡ bad number place → parameters_most ≡ parameters_in s
  parameters_not a number place e f = sym (read_so ∙ ap count_by (then_good _ _ e ∙ f))

  settings_not : (number place : ℕ) → settings_part s ≡ bad number place → parameters_most ≡ parameters_in s
  settings_not number place e = sym (read_so ∙ ap count_by (then_bad _ _ e))

  pub parameters_so : (r : Result Settings Fault) (n : Result ℕ Fault) → told_placed r ≡ settings_part s → told_placed n ≡ count_at s 16 1 parameters_most
      → is_ok r ≡ true → result_unwrap_or n parameters_most ≡ parameters_in s
  parameters_so (Ok a) (Ok n) e f g = parameters_are a n (sym e) (sym f)
  parameters_so (Ok a) (Err x) e f g = parameters_not a _ _ (sym e) (sym f)
  parameters_so (Err x) n e f g = absurd (cc g)

  pub parameters_none : (r : Result Settings Fault) → told_placed r ≡ settings_part s → is_ok r ≡ false → parameters_most ≡ parameters_in s
  parameters_none (Ok a) e g = absurd (cc g)
  parameters_none (Err x) e g = settings_not _ _ (sym e)

-- ---- the state
module _ (h : Heading) (s : State) (v : Result (Unit {0}) Refusal) (room : room_number h s.matrix s.rights ≡ 0) (e : told v ≡ answered (state_number h s) (tt {0})) where
  number_is : state_number h s ≡ unless 6 (sound_state h.stations h.parameters s)
  unfolding state_number
  number_is = first_pass _ _ room ∙ first_one _

  judged_yes : v ≡ Ok tt → sound_state h.stations h.parameters s ≡ true
  judged_yes f = unless_none 6 _ (λ z. omega arith) (sym number_is ∙ (answered_is _ tt tt (sym e ∙ ap told f)).0)

  judged_no : (r : Refusal) → v ≡ Err r → sound_state h.stations h.parameters s ≡ false
  judged_no r f =
      by_cases (sound_state h.stations h.parameters s)
      (λ t. absurd (not_none r (sym (answered_not _ tt (number_of r) (sym e ∙ ap told f)) ∙ number_is ∙ unless_true 6 _ t)))
      (λ t. t)

pub judged_so : (h : Heading) (s : State) (v : Result (Unit {0}) Refusal) → room_number h s.matrix s.rights ≡ 0 → told v ≡ answered (state_number h s) (tt {0})
    → is_ok v ≡ sound_state h.stations h.parameters s
judged_so h s (Ok tt) room e = sym (judged_yes h s (Ok tt) room e refl)
judged_so h s (Err r) room e = sym (judged_no h s (Err r) room e r refl)

-- ---- walks that find nothing
module _ (p top : ℕ) (m : List ℤ) where
  pub matrix_so : (o : Option ℕ) (x : Bool) → told_walked o ≡ columns_from (breaks (pos top) m) 0 p → is_some o ≡ not x → x ≡ matrix_sound p top m
  matrix_so None true e f = sym (matrix_pass p top m (sym e))
  matrix_so None false e f = absurd (cc f)
  matrix_so (Some k) true e f = absurd (cc f)
  matrix_so (Some k) false e f = sym (matrix_fail p top m k (sym e))

  pub sides_so : (r : List ℤ) (o : Option ℕ) (x : Bool) → told_walked o ≡ first_from (breaks_side (pos top) m r) 0 p → is_some o ≡ not x → x ≡ rights_sound p top m r
  sides_so r None true e f = sym (rights_pass p top m r (sym e))
  sides_so r None false e f = absurd (cc f)
  sides_so r (Some k) true e f = absurd (cc f)
  sides_so r (Some k) false e f = sym (rights_fail p top m r k (sym e))

-- ---- a state that holds nothing
module _ (p : ℕ) (s : State) (long : length s.tally.counts ≡ stations_most) where
  none_there : tally_sound 0 s.tally ≡ true → accepted s.tally ≡ 0
  none_there e = none_in_tally s.tally long e

  module _ (e : tally_sound 0 s.tally ≡ true) where
    pub empty_yes : {x : Bool} → matrix_sound p 0 s.matrix ≡ true → x ≡ rights_sound p 0 s.matrix s.rights → x ≡ sums_sound 0 p s
    unfolding sums_sound
    empty_yes m f =
        let none = none_there e in
        holds _ _ e
        (holds _ _ (ap (λ n. matrix_sound p (matrix_top n) s.matrix) none ∙ m) (f ∙ ap (λ n. rights_sound p (right_top n) s.matrix s.rights) (sym none)))

    pub empty_no : matrix_sound p 0 s.matrix ≡ false → false ≡ sums_sound 0 p s
    unfolding sums_sound
    empty_no m = holds _ _ e (fails _ _ (ap (λ n. matrix_sound p (matrix_top n) s.matrix) (none_there e) ∙ m))

  pub empty_not : tally_sound 0 s.tally ≡ false → false ≡ sums_sound 0 p s
  unfolding sums_sound
  empty_not e = fails _ _ e

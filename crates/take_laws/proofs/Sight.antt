-- Demand 2 of what the entries tell, asked after the records of an arc: whether a parameter is seen is never refused, and it is told unseen exactly
-- where each accepted record has the partial 0 for it; and which stations carry it, and how many, are those that gave an accepted partial
-- other than zero.
-- Assumes nothing.
use Prim.Native.Nat.{ℕ, ◌<◌}
use mathlib.Core.Path.{◌≡◌, refl, sym, ap, ◌∙◌}
use mathlib.Core.Bool.{Bool, false}
use mathlib.Core.List.{List}
use mathlib.Core.Logic.{◌↔◌}
use native.Mathlib.Omega.{arith}
use lib.IntN.{ℤ, pos}
use Rattle.num_whole.specs.Answer.{given}
use Rattle.num_whole.specs.Lists.{Each}
use Rattle.num_limits.specs.Capacities.{stations_most}
use Rattle.arc_heading.specs.declared.Heading.{Heading}
use Rattle.arc_heading.proofs.Sound.{Sound}
use Rattle.take_marks.specs.Marks.{rows_from, mark_count}
use Rattle.take_marks.proofs.Marks.{count_none, none_count}
use Rattle.take_tally.specs.Tally.{mark_of}
use Rattle.take_state.specs.State.{seen_in, parameter_number, sight_of, carriers_of, carries_of, room_number}
use Rattle.take_state.proofs.Rooms.{parameter_found, row_some}
use Rattle.refusal.proofs.Firsts.{answered_given}
use Rattle.take_laws.specs.Taking.{frame_of}
use Rattle.take_laws.specs.Arc.{end_of, accepted_in}
use Rattle.take_laws.specs.SumsOver.{partial_of, gave_one}
use Rattle.take_laws.proofs.Guarded.{held_heading}
use Rattle.take_laws.proofs.SumsOver.{sums_over}
use Rattle.take_laws.proofs.Silence.{silence}
use Rattle.take_laws.proofs.Never.{end_held, never}

same_told : (b c : Bool) → given b ≡ given c → b ≡ c
same_told b c e = cc

same_number : (n k : ℕ) → given n ≡ given k → n ≡ k
same_number n k e = cc

module _ (h : Heading) (m r : List ℤ) (e : room_number h m r ≡ 0) (bs : List (List ℕ)) (i : ℕ) (l : i < h.parameters) where
  found : parameter_number h (end_of h m r bs) i ≡ 0
  found = parameter_found h (end_of h m r bs) i ((never h m r e).number bs) l

  heading : Sound h
  heading = held_heading h (end_of h m r bs) (end_held h m r e bs)

  pub sight_told : sight_of h (end_of h m r bs) i ≡ given (seen_in (end_of h m r bs).matrix i)
  unfolding sight_of
  sight_told = sym (answered_given _ _ found)

  pub unseen_told : (sight_of h (end_of h m r bs) i ≡ given false) ↔ Each (λ b. partial_of (frame_of h) b i ≡ pos 0) (accepted_in h m r bs)
  unseen_told =
      let s = (silence h m r e).exactly bs i l in (
        λ u. s.0 (same_told _ _ (sym sight_told ∙ u)),
        λ z. sight_told ∙ ap given (s.1 z),
      )

  -- 02, #105: "give the number of stations for each parameter"
  pub carriers_told : carriers_of h (end_of h m r bs) i ≡ given (rows_from (gave_one (frame_of h) (accepted_in h m r bs) i) 0 stations_most)
  unfolding carriers_of
  carriers_told = sym (answered_given _ _ found) ∙ ap given ((sums_over h m r e bs).carriers i (omega (arith, l, heading.few)))

  -- "which stations carry a parameter"
  pub carries_told : (k : ℕ) → k < h.stations → carries_of h (end_of h m r bs) i k ≡ given (gave_one (frame_of h) (accepted_in h m r bs) i k)
  carries_told k a =
      sym (row_some h (end_of h m r bs) i k found a)
      ∙ ap given ((sums_over h m r e bs).marks i k (omega (arith, l, heading.few)) (omega (arith, a, heading.seats)))

  -- no station carries it exactly where it is told unseen
  pub carriers_none : (sight_of h (end_of h m r bs) i ≡ given false) ↔ (carriers_of h (end_of h m r bs) i ≡ given 0)
  unfolding carriers_of
  carriers_none =
      let u = (silence h m r e).unmarked (end_of h m r bs) ((never h m r e).number bs) i l in
      let told = answered_given _ (mark_count (mark_of (end_of h m r bs).tally i)) found in (
        λ z. sym told ∙ ap given (none_count _ (u.0 (same_told _ _ (sym sight_told ∙ z)))),
        λ z. sight_told ∙ ap given (u.1 (count_none _ (same_number _ _ (told ∙ z)))),
      )

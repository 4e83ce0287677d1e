-- 6 of positions, the other way: what begin, a part and finish give is never refused.
-- Assumes nothing.
use Prim.Native.Nat.{ℕ, ◌≤◌}
use mathlib.Core.Path.{◌≡◌, refl, sym, ap, ◌∙◌}
use mathlib.Core.List.{List}
use mathlib.Core.Bool.{true, false}
use native.Mathlib.Omega.{arith}
use lib.ListN.{length}
use Rattle.num_whole.specs.Tests.{same, both}
use Rattle.num_whole.specs.Answer.{Judged, good, bad}
use Rattle.num_whole.proofs.Cases.{yes, no, by_cases, holds, same_true, both_first, both_second}
use Rattle.refusal.proofs.Firsts.{first_none, when_none}
use Rattle.byte_section.proofs.Walk.{by_judged}
use Rattle.arc_read.specs.Arc.{Arc}
use Rattle.take_state.specs.State.{State}
use Rattle.part_laws.specs.Beginning.{opened}
use Rattle.part_laws.specs.Feeding.{Position, begun, feed, finish, closing}
use Rattle.part_laws.specs.Entries.{position_most, position_of, held_of, placed_by, placed, ends_by, ends, led, fair, part_number, part_position, finish_number, finish_position}
use Rattle.part_laws.specs.declared.Position as ByValue
use Rattle.part_laws.proofs.ByValue.{position_back, held_tidy}
use Rattle.part_laws.proofs.Front.{opened_start}
use Rattle.part_laws.proofs.Six.{part_placed}
use Rattle.part_laws.proofs.States.{nothing_opened}
use Rattle.part_laws.proofs.Over.{placed_short, feed_moved, part_ends, finish_ends}

-- ---- a position that is not refused, by value
ends_short : (q : Position) → ends q ≡ true → length q.kept ≤ position_most
unfolding ends
ends_short q e =
    by_judged (opened q.kept)
    (λ a o. let v : ends_by (length q.kept) q.taken (good a) ≡ true = ap (ends_by (length q.kept) q.taken) (sym o) ∙ e in
    omega (arith, same_true _ _ (both_first _ _ v), opened_start q.kept a o))
    (λ number place o. let v : ends_by (length q.kept) q.taken (bad number place) ≡ true = ap (ends_by (length q.kept) q.taken) (sym o) ∙ e in
    omega (arith, same_true _ _ (both_first _ _ v)))

fair_by : (q : Position) → led q ≡ true → length q.kept ≤ position_most → fair (held_of q) ≡ true
unfolding fair
fair_by q e h = sym (holds _ _ (held_tidy q h) (sym (ap led (position_back q) ∙ e)))

fair_on : (q : Position) → q.over ≡ false → placed q ≡ true → fair (held_of q) ≡ true
unfolding led
fair_on q o e = fair_by q (sym (no _ _ _ o (sym e))) (omega (arith, placed_short q e))

fair_over : (q : Position) → q.over ≡ true → ends q ≡ true → fair (held_of q) ≡ true
unfolding led
fair_over q o e = fair_by q (sym (yes _ _ _ o (sym e))) (ends_short q e)

closed_over : (j : Judged Arc) (q : Position) → (closing j q).over ≡ true
closed_over (good a) q = refl
closed_over (bad number place) q = refl

-- ---- the entries
pub begin_fair : fair (held_of begun) ≡ true
unfolding placed both same
begin_fair = fair_on begun refl (ap (placed_by 0 0) nothing_opened)

module _ (p : ByValue.Position) (ok : fair p ≡ true) where
  there : p.over ≡ false → placed (position_of p) ≡ true
  unfolding fair led
  there o = no _ _ _ o refl ∙ both_second _ _ ok

  pub part_fair : (s : State) (l : List ℕ) (room : ℕ) → fair (part_position p s l room) ≡ true
  unfolding part_position part_number
  part_fair s l room =
      let q = position_of p in
      let f = feed q s l in
      by_cases (same (part_number p s l room) 0)
      (λ e. let going : p.over ≡ false = when_none 28 _ (λ z. omega arith) (first_none _ _ (same_true _ _ e)).0 in
      let is : held_of f.position ≡ part_position p s l room = yes _ _ _ e refl in
      let m = feed_moved q s going l in
      ap fair (sym is)
      ∙ by_judged f.verdict
      (λ u v. fair_on f.position (m.goes u v) (part_placed q (there going) l s going v))
      (λ number place v. fair_over f.position (m.stops number place v) (part_ends q (there going) going s l number place v)))
      (λ e. let is : p ≡ part_position p s l room = no _ _ _ e refl in ap fair (sym is) ∙ ok)

  pub finish_fair : fair (finish_position p) ≡ true
  unfolding finish_position finish_number
  finish_fair =
      let q = position_of p in
      by_cases (same (finish_number p) 0)
      (λ e. let going : p.over ≡ false = when_none 28 _ (λ z. omega arith) (first_none _ _ (same_true _ _ e)).0 in
      let is : held_of (closing (finish q) q) ≡ finish_position p = yes _ _ _ e refl in
      ap fair (sym is) ∙ fair_over (closing (finish q) q) (closed_over (finish q) q) (finish_ends q (there going) going))
      (λ e. let is : p ≡ finish_position p = no _ _ _ e refl in ap fair (sym is) ∙ ok)

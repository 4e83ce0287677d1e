-- Silence: a sum of weighted squares is 0 exactly where each number squared is; so a diagonal sum is, where each accepted record's partial is.
-- Assumes nothing.
use Prim.Native.Nat.{ℕ, ◌+◌, ◌*◌, ◌≤◌, ◌<◌}
use mathlib.Core.Path.{◌≡◌, refl, sym, ap, ap₂, ◌∙◌, subst}
use mathlib.Core.Bool.{false, not}
use mathlib.Core.List.{List, [], ◌∷◌}
use mathlib.Core.Logic.{◌↔◌}
use native.Mathlib.Nat.{le_refl, mul-zero}
use native.Mathlib.Omega.{arith}
use borrow.Author.Tests.{not-false}
use lib.IntN.{ℤ, pos, nat_abs, ◌+ℤ◌, ◌*ℤ◌}
use Rattle.num_whole.specs.Sums.{total}
use Rattle.num_whole.specs.Tests.{less}
use Rattle.num_whole.proofs.Cases.{by_cases, less_true, less_false}
use Rattle.num_packed.specs.Sound.{entry}
use Rattle.arc_heading.specs.declared.Heading.{Heading}
use Rattle.arc_heading.proofs.Sound.{sound as sound-heading}
use Rattle.take_tally.specs.Tally.{mark_of}
use Rattle.take_state.specs.State.{State, seen_in, room_number, state_number, started}
use Rattle.take_laws.specs.Taking.{frame_of, weight_in}
use Rattle.num_whole.specs.Lists.{Each}
use Rattle.take_laws.specs.Arc.{end_of, accepted_in}
use Rattle.take_laws.specs.SumsOver.{partial_of, SumsOver}
use Rattle.take_laws.specs.Silence.{Silence}
use Rattle.take_laws.proofs.Accepted.{accepted_in_lem, terms}
use Rattle.num_packed.proofs.Tests.{zero_true, zero_is}
use Rattle.take_laws.proofs.Kept.{square_is, grows}
use Rattle.take_laws.proofs.Parts.{Good, good}
use Rattle.take_laws.proofs.Guarded.{whole, fine, held_heading, started_held}
use Rattle.take_laws.proofs.Never.{never}
use Rattle.take_laws.proofs.SumsOver.{each_accepted, sums_over}

-- ---- a sum of weighted squares
module _ {R : Type 0} (w : R → ℕ) (a : R → ℤ) where
  abbrev squares : R → ℤ
  squares r = pos (w r) *ℤ (a r *ℤ a r)

  -- as a natural number
  record Natural (l : List R) : Type 0 where
    value : ℕ
    is : total squares l ≡ pos value

  natural : (l : List R) → Natural l
  unfolding total
  natural [] = record { value = 0; is = refl }
  natural (r ∷ l) =
      let t = natural l in
      record { value = w r * (nat_abs (a r) * nat_abs (a r)) + t.value; is = ap₂ (λ x y. x +ℤ y) (square_is (w r) (a r)) t.is }

  all_zero : (l : List R) → Each (λ r. 1 ≤ w r) l → total squares l ≡ pos 0 → Each (λ r. a r ≡ pos 0) l
  unfolding total
  all_zero [] h e = tt
  all_zero (r ∷ l) h e =
      let t = natural l in
      let sum : w r * (nat_abs (a r) * nat_abs (a r)) + t.value ≡ 0 = ap nat_abs (sym (ap₂ (λ x y. x +ℤ y) (square_is (w r) (a r)) t.is) ∙ e) in
      let g = grows t.value (w r) (a r) h.0 (omega arith) in
      (g.1, all_zero l h.1 (t.is ∙ ap pos g.0))

  zero_all : (l : List R) → Each (λ r. a r ≡ pos 0) l → total squares l ≡ pos 0
  unfolding total
  zero_all [] h = refl
  zero_all (r ∷ l) h = ap₂ (λ x y. x +ℤ y) (ap (λ x. pos (w r) *ℤ (x *ℤ x)) h.0 ∙ ap pos (mul-zero (w r))) (zero_all l h.1)

-- ---- what is reported unseen
pub unseen : (m : List ℤ) (i : ℕ) → (seen_in m i ≡ false) ↔ (entry m i i ≡ pos 0)
unfolding seen_in
unseen m i = (λ e. zero_true (entry m i i) (not-false _ e), λ e. ap not (zero_is (entry m i i) e))

-- "A parameter is unseen exactly when it has no mark", in every state that is not refused
module _ (h : Heading) (s : State) (e : state_number h s ≡ 0) where
  marked : Good h.stations h.parameters s
  marked = good _ _ s (whole h s e).state

  few : h.parameters ≤ 50
  few = (sound-heading h (whole h s e).heading).few

  pub unmarked_so : (i : ℕ) → i < h.parameters → (seen_in s.matrix i ≡ false) ↔ (mark_of s.tally i ≡ 0)
  unmarked_so i l =
      let g = marked.marks i (omega (arith, few)) l in
      (λ z. g.unseen ((unseen s.matrix i).0 z), λ z. (unseen s.matrix i).1 (g.unmarked z))

  no_marks : ((i : ℕ) → i < h.parameters → entry s.matrix i i ≡ pos 0) → (i : ℕ) → i < 50 → mark_of s.tally i ≡ 0
  no_marks z i l =
      by_cases (less i h.parameters)
      (λ c. (marked.marks i l (less_true _ _ c)).unseen (z i (less_true _ _ c)))
      (λ c. marked.past_marks i l (less_false _ _ c))

-- Demand 2: for every heading that is accepted, with room for its sums
module _ (h : Heading) (m r : List ℤ) (e : room_number h m r ≡ 0) where
  pub silence : Silence h m r
  unfolding total
  silence =
      let f = frame_of h in
      let few = fine h (held_heading h (started h m r) (started_held h m r e)) in
      let heavy : (bs : List (List ℕ)) → Each (λ b. 1 ≤ weight_in b) (accepted_in h m r bs) =
      λ bs. each_accepted h m r e bs (λ b. 1 ≤ weight_in b) (λ b s a. (terms f b _ _ few.level (accepted_in_lem f b s a)).heavy) in
      record {
        exactly = λ bs i l.
            let u = unseen (end_of h m r bs).matrix i in
            let d = (sums_over h m r e bs).matrix i i (le_refl i) l in (
              λ z. all_zero weight_in (λ b. partial_of f b i) (accepted_in h m r bs) (heavy bs) (sym d ∙ u.0 z),
              λ z. u.1 (d ∙ zero_all weight_in (λ b. partial_of f b i) (accepted_in h m r bs) z),
            );
        unmarked = unmarked_so h;
        nothing = λ bs z.
            let s : SumsOver f (end_of h m r bs) [] = subst (SumsOver f (end_of h m r bs)) z (sums_over h m r e bs) in
            record {
              unseen = λ i l. (unseen (end_of h m r bs).matrix i).1 (s.matrix i i (le_refl i) l);
              matrix = s.matrix;
              rights = s.rights;
              square = ap nat_abs s.square;
              marks = no_marks h (end_of h m r bs) ((never h m r e).number bs) (λ i l. s.matrix i i (le_refl i) l);
              none = s.accepted;
            };
      }

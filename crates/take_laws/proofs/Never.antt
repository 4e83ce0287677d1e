-- Never unsound: the judgement of the state passes all the way, for soundness is kept from the empty state on; and a sound state's sums fit.
-- Assumes nothing.
use Prim.Native.Nat.{ℕ, ◌+◌, ◌^◌}
use mathlib.Core.Path.{◌≡◌, sym, ap, ◌∙◌, subst}
use mathlib.Core.Bool.{true}
use mathlib.Core.List.{List, [], ◌∷◌}
use native.Mathlib.Omega.{arith}
use lib.IntN.{ℤ}
use mir.Syntax.{w64}
use Rattle.num_whole.specs.Tests.{up_to, same, both, either, between}
use Rattle.num_whole.proofs.Cases.{apart}
use Rattle.num_whole.proofs.Ints.{within_fits}
use Rattle.num_packed.specs.Triangle.{tri}
use Rattle.num_packed.proofs.Places.{tri_within}
use Rattle.arc_heading.specs.declared.Heading.{Heading}
use Rattle.take_state.specs.State.{room_number, started}
use Rattle.take_laws.specs.Machine.{answers}
use Rattle.take_laws.specs.Taking.{frame_of, record_answer, record_step}
use Rattle.num_whole.specs.Lists.{Each}
use Rattle.take_laws.specs.Mix.{pairs, records_told}
use Rattle.take_laws.specs.Arc.{end_of, told_in}
use Rattle.take_laws.specs.Never.{is_answer, Never}
use Rattle.take_laws.proofs.Lists.{each_map}
use Rattle.take_laws.proofs.Kept.{matrix_bound, right_bound, accepted_few, square_fits}
use Rattle.take_laws.proofs.Guarded.{Held, whole, held_run, started_held, guarded_run, guarded_answers}
use Rattle.take_laws.proofs.Numbers.{answer_good}

-- what holds of every answer holds of each that is told
each_told : {R S A : Type 0} (step : R → S → S) (ans : R → S → A) (P : A → Type 0) → ((r : R) (s : S) → P (ans r s))
    → (l : List R) (s : S) → Each (λ x. P x.1) (records_told step ans s l)
unfolding pairs answers
each_told step ans P h [] s = tt
each_told step ans P h (r ∷ l) s = (h r s, each_told step ans P h l (step r s))

not_six : (n : ℕ) → is_answer n ≡ true → n ≡ 6 → ⊥
unfolding is_answer up_to same both either between
not_six n h e = apart (sym h ∙ ap is_answer e)

module _ (h : Heading) (m r : List ℤ) (e : room_number h m r ≡ 0) where
  -- each state on the way is one that an entry may be handed
  pub end_held : (bs : List (List ℕ)) → Held h (end_of h m r bs)
  end_held bs =
      let s = started h m r in
      let v = started_held h m r e in
      subst (Held h) (sym (guarded_run h bs s v)) (held_run h bs s v)

  pub never : Never h m r
  never =
      let f = frame_of h in
      let p = h.parameters in
      let s = started h m r in
      let told_good : (bs : List (List ℕ)) → Each (λ x. is_answer x.1 ≡ true) (told_in h m r bs) = λ bs.
      subst (λ l. Each (λ x. is_answer x.1 ≡ true) (pairs bs l)) (sym (guarded_answers h bs s (started_held h m r e)))
      (each_told (record_step f) (record_answer f) (λ n. is_answer n ≡ true) (answer_good f) bs s) in
      record {
        sound = λ bs. (whole h _ (end_held bs).number).state;
        number = λ bs. (end_held bs).number;
        answers = told_good;
        six = λ bs. each_map (λ x. not_six x.1) (told_in h m r bs) (told_good bs);
        matrix = λ bs i j a b. let v = (whole h _ (end_held bs).number).state in
            within_fits w64 _ {m = 2 ^ 58} (omega (arith, matrix_bound _ p _ v (tri j + i) (omega (arith, tri_within j p b)), accepted_few _ p _ v (end_held bs).counts)) tt;
        rights = λ bs i b. let v = (whole h _ (end_held bs).number).state in
            within_fits w64 _ {m = 2 ^ 55} (omega (arith, right_bound _ p _ v i b, accepted_few _ p _ v (end_held bs).counts)) tt;
        square = λ bs. omega (arith, square_fits _ p _ (whole h _ (end_held bs).number).state (end_held bs).counts);
      }

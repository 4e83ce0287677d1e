-- A call on a heading and a state in lent room: too short, done, or refused with everything kept.
-- Assumes nothing.
use Prim.Native.Nat.{ℕ}
use mathlib.Core.Path.{◌≡◌, refl, sym, ap, ap₂, ◌∙◌}
use mathlib.Core.List.{List, [], ◌∷◌}
use mathlib.Core.Bool.{Bool, true, false}
use native.Mathlib.Omega.{arith}
use lib.IntN.{ℤ}
use lib.ListN.{length}
use Rattle.num_whole.specs.Tests.{same, pick}
use Rattle.num_whole.specs.Answer.{Answered, given, refused}
use Rattle.num_whole.proofs.Cases.{refused_not, yes, no, is_same, not_same, same_true, same_false, by_cases}
use Rattle.byte_words.specs.Words.{lay}
use Rattle.refusal.specs.Number.{number_of}
use Rattle.refusal.specs.First.{answered, number_in, value_or, verdict_of}
use Rattle.refusal.specs.declared.Refusal.{Refusal}
use Rattle.refusal.proofs.Apart.{not_none}
use Rattle.refusal.proofs.Firsts.{unless_true, unless_false, first_pass, first_stop, first_one, answered_given, answered_refused}
use Rattle.arc_heading.specs.declared.Heading.{Heading}
use Rattle.take_tally.specs.Tally.{empty_tally}
use Rattle.take_tally.specs.declared.Tally.{Tally}
use Rattle.take_state.specs.State.{State, state_of, room_number, started, sight_of, carriers_of, carries_of}
use Rattle.take_state.proofs.Rooms.{by_given, by_refused}
use Rattle.take_laws.specs.Taking.{take_answer, take_step, run_answers}
use Rattle.call_heading.specs.Lent.{heading_in, has_both}
use Rattle.call_tally.specs.Tally.{tally_bytes}
use Rattle.call_rooms.specs.Result.{result_number, result_left, told_values, one}
use Rattle.call_rooms.proofs.Rooms.{as_refused}
use Rattle.call_files.specs.Taking.{seen_numbers, tally_left}
use Rattle.wheloruka.specs.Taking.{Lent, lent, state_in, lent_number, call_number, call_left, answers_left, seen_values, carriers_values, carries_values}

-- ---- any call: k is the number that follows
module _ (b : List ℕ) (x : Lent) (k : ℕ) where
  pub number_short : has_both b x.tally ≡ false → 20 ≡ call_number b x k
  unfolding call_number lent_number
  number_short e =
      let is : lent_number b x ≡ 20 = unless_false 20 _ e in
      sym (first_stop _ (k ∷ []) (λ z. let w = sym is ∙ z in omega arith) ∙ is)

  module _ (whole : has_both b x.tally ≡ true) where
    pub number_is : call_number b x k ≡ k
    unfolding call_number lent_number
    number_is = first_pass _ (k ∷ []) (unless_true 20 _ whole) ∙ first_one k

    pub number_done : given (tt {0}) ≡ answered k (tt {0}) → 0 ≡ call_number b x k
    number_done e = sym (number_is ∙ by_given k e)

    pub number_refused : (e : Refusal) (n : ℕ) → refused (number_of e) ≡ answered k (tt {0}) → n ≡ number_of e → n ≡ call_number b x k
    number_refused e n a i = i ∙ sym (number_is ∙ by_refused _ k a)

  -- s is the state that a call which is done leaves, t what stands in the tally's room then
  module _ (s : State) where
    pub left_kept : (call_number b x k ≡ 0 → ⊥) → x ≡ call_left b x k s
    unfolding call_left
    left_kept some = no _ _ _ (not_same _ _ some) refl

    pub short : has_both b x.tally ≡ false → (20 ≡ call_number b x k) × (x ≡ call_left b x k s)
    short e = let is = number_short e in (is, left_kept (λ z. let w = is ∙ z in omega arith))

    module _ (whole : has_both b x.tally ≡ true) (m r : List ℤ) where
      pub done : (t : List ℕ) (u : Tally) → t ≡ lay x.tally 0 (tally_bytes u) → given (tt {0}) ≡ answered k (tt {0}) → state_of m r u ≡ s
          → (0 ≡ call_number b x k) × (lent t m r ≡ call_left b x k s)
      unfolding call_left
      done t u w e f =
          let zero = number_done whole e in
          (zero, yes _ _ _ (is_same _ _ (sym zero)) (ap (λ y. lent y m r) w ∙ ap (λ v. lent (lay x.tally 0 (tally_bytes v.tally)) v.matrix v.rights) f))

      pub kept : (e : Refusal) (n : ℕ) → refused (number_of e) ≡ answered k (tt {0}) → n ≡ number_of e → m ≡ x.matrix → r ≡ x.rights
          → (n ≡ call_number b x k) × (lent x.tally m r ≡ call_left b x k s)
      kept e n a i f g =
          let is = number_refused whole e n a i in
          (is, ap₂ (λ y z. lent x.tally y z) f g ∙ left_kept (λ z. not_none e (sym i ∙ is ∙ z)))

-- ---- a call that answers w: s is the state that it leaves, its sums as they were where the number is not 0
module _ (b : List ℕ) (x : Lent) (k : ℕ) (s : State) (whole : has_both b x.tally ≡ true) (m r : List ℤ) (before : Tally) (as_it_was : (k ≡ 0 → ⊥) → (s.matrix ≡ x.matrix) × (s.rights ≡ x.rights)) where
  pub gives : (w : Answered Tally) → verdict_of w ≡ answered k tt → state_of m r (value_or before w) ≡ s → {n : ℕ} {t : List ℕ} → (n ≡ number_in w) × (t ≡ tally_left w x.tally)
      → (n ≡ call_number b x k) × (lent t m r ≡ call_left b x k s)
  unfolding verdict_of value_or number_in tally_left
  gives (given u) e after put = let d = done b x k s whole m r _ u put.1 e after in (put.0 ∙ d.0, d.1)
  gives (refused j) e after put =
      let some : k ≡ 0 → ⊥ = λ z. refused_not (sym e) (sym (answered_given k tt z)) in
      let is = number_is b x k whole in
      let was = as_it_was some in (
        put.0 ∙ sym (by_refused j k e) ∙ sym is,
        ap (λ p. lent p m r) put.1 ∙ ap₂ (λ p q. lent x.tally p q) (ap (λ v. v.matrix) after ∙ was.0) (ap (λ v. v.rights) after ∙ was.1)
            ∙ left_kept b x k s (λ z. some (sym is ∙ z)),
      )

pub sums_kept : {u v : State} → u ≡ v → (u.matrix ≡ v.matrix) × (u.rights ≡ v.rights)
sums_kept e = (ap (λ s. s.matrix) e, ap (λ s. s.rights) e)

-- ---- a refusal leaves the state as it was
pub start_kept : (h : Heading) (m r : List ℤ) → (room_number h m r ≡ 0 → ⊥) → ((started h m r).matrix ≡ m) × ((started h m r).rights ≡ r)
unfolding started
start_kept h m r some = sums_kept (sym (no _ _ _ (not_same _ _ some) refl))

pub take_kept : (h : Heading) (l : List ℕ) (s : State) → (take_answer h l s ≡ 0 → ⊥) → take_step h l s ≡ s
unfolding take_step
take_kept h l s some = sym (no _ _ _ (not_same _ _ some) refl)

-- ---- the answers of a run
module _ (b l out : List ℕ) (x : Lent) where
  pub answers_short : has_both b x.tally ≡ false → out ≡ answers_left b l out x
  unfolding answers_left lent_number
  answers_short e = no _ _ _ (not_same _ _ (λ z. let w = sym (unless_false 20 _ e) ∙ z in omega arith)) refl

  pub answers_whole : has_both b x.tally ≡ true → (left : List ℕ) → left ≡ run_answers (heading_in b) l out (state_in x) → left ≡ answers_left b l out x
  unfolding answers_left lent_number
  answers_whole e left h = yes _ _ _ (is_same _ _ (unless_true 20 _ e)) h

-- ---- a state asked for something: f makes the values of what is told, `said` is what the definition says
module _ {A : Type 0} (f : A → List ℕ) (there : Bool) (said : Answered A) (out : List ℕ) where
  asked : Answered (List ℕ)
  asked = pick there (told_values f said) (refused 20)

  asked_short : there ≡ false → (20 ≡ result_number asked (length out)) × (out ≡ result_left asked out)
  unfolding asked
  asked_short e = as_refused _ out 20 (sym (no _ _ _ e refl)) refl

  -- w is what was told of the state
  asked_whole : there ≡ true → (w : Answered A) → w ≡ said → {n : ℕ} {left : List ℕ}
      → (n ≡ result_number (told_values f w) (length out)) × (left ≡ result_left (told_values f w) out)
      → (n ≡ result_number asked (length out)) × (left ≡ result_left asked out)
  unfolding asked
  asked_whole e w t put =
      let is : told_values f w ≡ asked = yes _ _ _ e (ap (told_values f) t) in
      (put.0 ∙ ap (λ v. result_number v (length out)) is, put.1 ∙ ap (λ v. result_left v out) is)

-- whether a parameter is seen
module _ (b : List ℕ) (x : Lent) (i : ℕ) (out : List ℕ) where
  pub seen_short : has_both b x.tally ≡ false → (20 ≡ result_number (seen_values b x i) (length out)) × (out ≡ result_left (seen_values b x i) out)
  unfolding seen_values asked
  seen_short e = asked_short seen_numbers (has_both b x.tally) (sight_of (heading_in b) (state_in x) i) out e

  pub seen_whole : has_both b x.tally ≡ true → (w : Answered Bool) → w ≡ sight_of (heading_in b) (state_in x) i → {n : ℕ} {left : List ℕ}
      → (n ≡ result_number (told_values seen_numbers w) (length out)) × (left ≡ result_left (told_values seen_numbers w) out)
      → (n ≡ result_number (seen_values b x i) (length out)) × (left ≡ result_left (seen_values b x i) out)
  unfolding seen_values asked
  seen_whole = asked_whole seen_numbers (has_both b x.tally) (sight_of (heading_in b) (state_in x) i) out

-- how many stations gave a partial for it
module _ (b : List ℕ) (x : Lent) (i : ℕ) (out : List ℕ) where
  pub carriers_short : has_both b x.tally ≡ false → (20 ≡ result_number (carriers_values b x i) (length out)) × (out ≡ result_left (carriers_values b x i) out)
  unfolding carriers_values asked
  carriers_short e = asked_short one (has_both b x.tally) (carriers_of (heading_in b) (state_in x) i) out e

  pub carriers_whole : has_both b x.tally ≡ true → (w : Answered ℕ) → w ≡ carriers_of (heading_in b) (state_in x) i → {n : ℕ} {left : List ℕ}
      → (n ≡ result_number (told_values one w) (length out)) × (left ≡ result_left (told_values one w) out)
      → (n ≡ result_number (carriers_values b x i) (length out)) × (left ≡ result_left (carriers_values b x i) out)
  unfolding carriers_values asked
  carriers_whole = asked_whole one (has_both b x.tally) (carriers_of (heading_in b) (state_in x) i) out

-- whether the station of row k did
module _ (b : List ℕ) (x : Lent) (i k : ℕ) (out : List ℕ) where
  pub carries_short : has_both b x.tally ≡ false → (20 ≡ result_number (carries_values b x i k) (length out)) × (out ≡ result_left (carries_values b x i k) out)
  unfolding carries_values asked
  carries_short e = asked_short seen_numbers (has_both b x.tally) (carries_of (heading_in b) (state_in x) i k) out e

  pub carries_whole : has_both b x.tally ≡ true → (w : Answered Bool) → w ≡ carries_of (heading_in b) (state_in x) i k → {n : ℕ} {left : List ℕ}
      → (n ≡ result_number (told_values seen_numbers w) (length out)) × (left ≡ result_left (told_values seen_numbers w) out)
      → (n ≡ result_number (carries_values b x i k) (length out)) × (left ≡ result_left (carries_values b x i k) out)
  unfolding carries_values asked
  carries_whole = asked_whole seen_numbers (has_both b x.tally) (carries_of (heading_in b) (state_in x) i k) out

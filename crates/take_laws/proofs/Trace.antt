-- Any machine whose steps for records of different stations commute, and whose answer to a record hears only its own station's: mixing the
-- stations' records changes no answer and not the end. Nothing here knows what a record is.
-- Assumes nothing.
use Prim.Native.Nat.{ℕ, ◌≤◌, ◌<◌}
use mathlib.Core.Path.{◌≡◌, refl, sym, ap, ap₂, ◌∙◌}
use mathlib.Core.Bool.{false}
use mathlib.Core.List.{List, [], ◌∷◌, ◌++◌, map}
use native.Mathlib.Omega.{arith}
use Rattle.num_whole.specs.Tests.{less, up_to, same}
use Rattle.num_whole.proofs.Cases.{by_cases, less_true, less_false, up_to_true, same_true, same_false, is_same, not_same}
use Rattle.take_laws.specs.Machine.{run, answers}
use Rattle.take_laws.specs.Mix.{keep, pairs, only, in_order, Alike, records_told, told_to}
use Rattle.num_whole.specs.Lists.{Each}
use Rattle.take_laws.proofs.Lists.{keep_yes, keep_no, split, in_order_alike, alike_rest}

module _ {R S : Type 0} (step : R → S → S) where
  pub run_append : (s : S) (l m : List R) → run step s (l ++ m) ≡ run step (run step s l) m
  unfolding run
  run_append s [] m = refl
  run_append s (r ∷ l) m = run_append (step r s) l m

  -- what each step keeps is kept
  pub reached : (P : S → Type 0) → ((r : R) (s : S) → P s → P (step r s)) → (l : List R) (s : S) → P s → P (run step s l)
  unfolding run
  reached P h [] s v = v
  reached P h (r ∷ l) s v = reached P h l (step r s) (h r s v)

-- a machine by stations: steps for different stations commute, an answer does not hear another station's step, and a record of no station, from
-- n on, does nothing
pub record Stationed {R S A : Type 0} (step : R → S → S) (ans : R → S → A) (who : R → ℕ) (n : ℕ) : Type 0 where
  pub commute : (r r' : R) (s : S) → (who r ≡ who r' → ⊥) → step r (step r' s) ≡ step r' (step r s)
  pub deaf : (r r' : R) (s : S) → (who r ≡ who r' → ⊥) → ans r (step r' s) ≡ ans r s
  pub stray : (r : R) (s : S) → n ≤ who r → step r s ≡ s

module _ {R S A : Type 0} (step : R → S → S) (ans : R → S → A) (who : R → ℕ) (n : ℕ) (v : Stationed step ans who n) where
  -- a step of another station is not heard by the records of station k
  unheard : (k : ℕ) (r' : R) → (who r' ≡ k → ⊥) → (l : List R) (s : S) → records_told step ans (step r' s) (only who k l) ≡ records_told step ans s (only who k l)
  unfolding keep pairs answers
  unheard k r' d [] s = refl
  unheard k r' d (r ∷ l) s =
      by_cases (same (who r) k)
      (λ t. let mine = keep_yes (λ x. same (who x) k) r l t in
      let other : who r ≡ who r' → ⊥ = λ e. d (sym e ∙ same_true (who r) k t) in
      ap (records_told step ans (step r' s)) mine
      ∙ ap₂ (λ a u. (r, a) ∷ records_told step ans u (only who k l)) (v.deaf r r' s other) (v.commute r r' s other)
      ∙ ap (λ x. (r, ans r s) ∷ x) (unheard k r' d l (step r s))
      ∙ sym (ap (records_told step ans s) mine))
      (λ t. let theirs = keep_no (λ x. same (who x) k) r l t in
      ap (records_told step ans (step r' s)) theirs ∙ unheard k r' d l s ∙ sym (ap (records_told step ans s) theirs))

  -- A. what is told to a station's records in a list is what they are told when they are taken alone
  pub alone : (k : ℕ) (l : List R) (s : S) → told_to who k (records_told step ans s l) ≡ records_told step ans s (only who k l)
  unfolding keep pairs answers
  alone k [] s = refl
  alone k (r ∷ l) s =
      by_cases (same (who r) k)
      (λ t. keep_yes (λ x. same (who x.0) k) (r, ans r s) (records_told step ans (step r s) l) t
      ∙ ap (λ x. (r, ans r s) ∷ x) (alone k l (step r s))
      ∙ sym (ap (records_told step ans s) (keep_yes (λ x. same (who x) k) r l t)))
      (λ t. keep_no (λ x. same (who x.0) k) (r, ans r s) (records_told step ans (step r s) l) t
      ∙ alone k l (step r s) ∙ unheard k r (same_false (who r) k t) l s
      ∙ sym (ap (records_told step ans s) (keep_no (λ x. same (who x) k) r l t)))

  -- B. two mixes of the same: each station's records are told the same
  pub same_answers : (l m : List R) → Alike who n l m → (k : ℕ) → k < n → (s : S) → told_to who k (records_told step ans s l) ≡ told_to who k (records_told step ans s m)
  same_answers l m h k b s = alone k l s ∙ ap (records_told step ans s) (h k b) ∙ sym (alone k m s)

  -- a step goes past a run of other stations' records
  past : (r : R) (m : List R) (s : S) → Each (λ x. same (who x) (who r) ≡ false) m → run step (step r s) m ≡ step r (run step s m)
  unfolding run
  past r [] s h = refl
  past r (x ∷ m) s h = ap (λ u. run step u m) (v.commute x r s (same_false _ _ h.0)) ∙ past r m (step x s) h.1

  -- a list with no station's records does nothing
  idle : (m : List R) (s : S) → ((k : ℕ) → k < n → only who k m ≡ []) → run step s m ≡ s
  unfolding run
  idle [] s h = refl
  idle (x ∷ m) s h =
      by_cases (less (who x) n)
      (λ t. let e : x ∷ only who (who x) m ≡ [] = sym (keep_yes (λ y. same (who y) (who x)) x m (is_same _ _ refl)) ∙ h (who x) (less_true _ _ t) in
      absurd (let z : ◌≡◌ {A = ℕ} 0 1 = cc in omega arith))
      (λ t. let b = less_false _ _ t in
      ap (λ u. run step u m) (v.stray x s b)
      ∙ idle m s (λ k c. sym (keep_no (λ y. same (who y) k) x m (not_same _ _ (omega arith))) ∙ h k c))

  -- C. two mixes of the same end in the same state
  pub same_end : (l m : List R) (s : S) → Alike who n l m → run step s l ≡ run step s m
  unfolding run keep
  same_end [] m s h = sym (idle m s (λ k b. sym (h k b)))
  same_end (r ∷ l) m s h =
      by_cases (less (who r) n)
      (λ t. let k = who r in
      let own = keep_yes (λ x. same (who x) k) r l (is_same k k refl) in
      let d = split (λ x. same (who x) k) m r (only who k l) (sym (h k (less_true _ _ t)) ∙ own) in
      same_end l (d.before ++ d.after) (step r s) (alike_rest who n r l m h d)
      ∙ run_append step (step r s) d.before d.after
      ∙ ap (λ u. run step u d.after) (past r d.before s d.none)
      ∙ sym (run_append step s d.before (r ∷ d.after))
      ∙ ap (run step s) (sym d.is))
      (λ t. let b = less_false _ _ t in
      ap (λ u. run step u l) (v.stray r s b)
      ∙ same_end l m s (λ k c. sym (keep_no (λ y. same (who y) k) r l (not_same _ _ (omega arith))) ∙ h k c))

  -- D. a list ends where the stations' records end, taken one station after another
  pub in_order_lem : (l : List R) (s : S) → run step s l ≡ run step s (in_order who n l)
  in_order_lem l s = same_end l (in_order who n l) s (in_order_alike who n l)

-- E. a record of no station is told the same anywhere
module _ {R S A : Type 0} (step : R → S → S) (ans : R → S → A) (who : R → ℕ) (n : ℕ) (fixed : R → A)
    (lost : (r : R) (s : S) → n ≤ who r → ans r s ≡ fixed r) where
  pub stray_answers : (l : List R) (s : S) → keep (λ x. up_to n (who x.0)) (records_told step ans s l) ≡ map (λ r. (r, fixed r)) (keep (λ r. up_to n (who r)) l)
  unfolding keep pairs answers
  stray_answers [] s = refl
  stray_answers (r ∷ l) s =
      by_cases (up_to n (who r))
      (λ t. keep_yes (λ x. up_to n (who x.0)) (r, ans r s) (records_told step ans (step r s) l) t
      ∙ ap₂ (λ a x. (r, a) ∷ x) (lost r s (up_to_true _ _ t)) (stray_answers l (step r s))
      ∙ sym (ap (map (λ r. (r, fixed r))) (keep_yes (λ x. up_to n (who x)) r l t)))
      (λ t. keep_no (λ x. up_to n (who x.0)) (r, ans r s) (records_told step ans (step r s) l) t
      ∙ stray_answers l (step r s) ∙ sym (ap (map (λ r. (r, fixed r))) (keep_no (λ x. up_to n (who x)) r l t)))

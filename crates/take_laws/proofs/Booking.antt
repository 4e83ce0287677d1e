-- Any machine that books the records which it accepts and leaves its state for the others: from the laws of booking, those of its steps; its
-- end is what booking exactly the accepted records makes; and what booking a list makes of each kind of part. Nothing here knows what a record is.
-- Assumes nothing.
use Prim.Native.Nat.{ℕ, ◌+◌, ◌≤◌, ◌<◌}
use mathlib.Core.Path.{◌≡◌, refl, sym, ap, ◌∙◌, subst}
use mathlib.Core.List.{List, [], ◌∷◌, map}
use native.Mathlib.Omega.{arith}
use lib.IntN.{ℤ, pos, ◌+ℤ◌, +ℤ_assoc, +ℤ_idr}
use lib.ListN.{length, get_or, set, length-set}
use lib.Seq.{get_or-set_same, get_or-set_other, set_comm}
use Rattle.num_whole.specs.Tests.{less, same}
use Rattle.num_whole.specs.Sums.{total, plus}
use Rattle.num_whole.proofs.Cases.{by_cases, less_true, less_false, is_same, not_same, same_true, same_false}
use Rattle.num_whole.proofs.Adding.{length_plus, get_d_plus}
use Rattle.take_laws.specs.Machine.{run, answers}
use Rattle.take_laws.specs.Mix.{keep, pairs, last_or, only, records_told, taken}
use Rattle.num_whole.specs.Lists.{Each}
use Rattle.take_laws.proofs.Lists.{keep_yes, keep_no}
use Rattle.take_laws.proofs.Trace.{Stationed}

-- ---- exactly the accepted records are booked
module _ {R S : Type 0} (step book : R → S → S) (ans : R → S → ℕ)
    (books : (r : R) (s : S) → ans r s ≡ 0 → step r s ≡ book r s) (leaves : (r : R) (s : S) → (ans r s ≡ 0 → ⊥) → step r s ≡ s) where
  taken_yes : (r : R) (l : List R) (s : S) → ans r s ≡ 0 → taken (records_told step ans s (r ∷ l)) ≡ r ∷ taken (records_told step ans (step r s) l)
  unfolding taken pairs answers
  taken_yes r l s e = ap (map (λ x. x.0)) (keep_yes (λ x. same x.1 0) (r, ans r s) (records_told step ans (step r s) l) (is_same _ _ e))

  taken_no : (r : R) (l : List R) (s : S) → (ans r s ≡ 0 → ⊥) → taken (records_told step ans s (r ∷ l)) ≡ taken (records_told step ans (step r s) l)
  unfolding taken pairs answers
  taken_no r l s e = ap (map (λ x. x.0)) (keep_no (λ x. same x.1 0) (r, ans r s) (records_told step ans (step r s) l) (not_same _ _ e))

  pub booked : (l : List R) (s : S) → run step s l ≡ run book s (taken (records_told step ans s l))
  unfolding run taken keep pairs
  booked [] s = refl
  booked (r ∷ l) s =
      by_cases (same (ans r s) 0)
      (λ t. let e = same_true _ _ t in
      booked l (step r s) ∙ ap (λ u. run book u (taken (records_told step ans (step r s) l))) (books r s e) ∙ sym (ap (run book s) (taken_yes r l s e)))
      (λ t. let e = same_false _ _ t in
      booked l (step r s) ∙ ap (λ u. run book u (taken (records_told step ans (step r s) l))) (leaves r s e) ∙ sym (ap (run book s) (taken_no r l s e)))

  -- what acceptance shows of a record holds of each that is accepted
  pub each_taken : (P : R → Type 0) → ((r : R) (s : S) → ans r s ≡ 0 → P r) → (l : List R) (s : S) → Each P (taken (records_told step ans s l))
  unfolding taken keep pairs
  each_taken P h [] s = tt
  each_taken P h (r ∷ l) s =
      by_cases (same (ans r s) 0)
      (λ t. let e = same_true _ _ t in subst (Each P) (sym (taken_yes r l s e)) (h r s e, each_taken P h l (step r s)))
      (λ t. let e = same_false _ _ t in subst (Each P) (sym (taken_no r l s e)) (each_taken P h l (step r s)))

  -- ---- the laws of its steps. The records of no station are those from n on: their answer is fixed, and is a refusal
  module _ (who : R → ℕ) (n : ℕ) (fixed : R → ℕ)
      (commute : (r r' : R) (s : S) → who r < n → who r' < n → (who r ≡ who r' → ⊥) → book r (book r' s) ≡ book r' (book r s))
      (deaf : (r r' : R) (s : S) → who r < n → who r' < n → (who r ≡ who r' → ⊥) → ans r (book r' s) ≡ ans r s)
      (lost : (r : R) (s : S) → n ≤ who r → ans r s ≡ fixed r) (refuses : (r : R) → n ≤ who r → fixed r ≡ 0 → ⊥) where
    step_stray : (r : R) (s : S) → n ≤ who r → step r s ≡ s
    step_stray r s b = leaves r s (λ e. refuses r b (sym (lost r s b) ∙ e))

    -- a step is that of a record of a station, or nothing
    step_cases : (r : R) (s : S) (P : S → Type 0) → (who r < n → P (book r s)) → P s → P (step r s)
    step_cases r s P h v =
        by_cases (less (who r) n)
        (λ t. by_cases (same (ans r s) 0)
        (λ c. subst P (sym (books r s (same_true _ _ c))) (h (less_true _ _ t)))
        (λ c. subst P (sym (leaves r s (same_false _ _ c))) v))
        (λ t. subst P (sym (step_stray r s (less_false _ _ t))) v)

    step_deaf : (r r' : R) (s : S) → (who r ≡ who r' → ⊥) → ans r (step r' s) ≡ ans r s
    step_deaf r r' s d =
        by_cases (less (who r) n)
        (λ t. step_cases r' s (λ u. ans r u ≡ ans r s) (λ b. deaf r r' s (less_true _ _ t) b d) refl)
        (λ t. let b = less_false _ _ t in lost r (step r' s) b ∙ sym (lost r s b))

    -- a record that is refused, taken before or after another
    past_refused : (r r' : R) (s : S) → (who r ≡ who r' → ⊥) → (ans r s ≡ 0 → ⊥) → step r (step r' s) ≡ step r' (step r s)
    past_refused r r' s d e =
        leaves r (step r' s) (λ z. e (sym (step_deaf r r' s d) ∙ z)) ∙ sym (ap (step r') (leaves r s e))

    step_commute : (r r' : R) (s : S) → (who r ≡ who r' → ⊥) → step r (step r' s) ≡ step r' (step r s)
    step_commute r r' s d =
        let d' : who r' ≡ who r → ⊥ = λ e. d (sym e) in
        by_cases (same (ans r s) 0)
        (λ t. by_cases (same (ans r' s) 0)
        (λ c. let e = same_true _ _ t in
        let e' = same_true _ _ c in
        books r (step r' s) (step_deaf r r' s d ∙ e) ∙ ap (book r) (books r' s e')
        ∙ commute r r' s (listed r s e) (listed r' s e') d
        ∙ sym (books r' (step r s) (step_deaf r' r s d' ∙ e') ∙ ap (book r') (books r s e)))
        (λ c. sym (past_refused r' r s d' (same_false _ _ c))))
        (λ t. past_refused r r' s d (same_false _ _ t))
      where
        listed : (r : R) (s : S) → ans r s ≡ 0 → who r < n
        listed r s e = by_cases (less (who r) n) (λ t. less_true _ _ t) (λ t. let b = less_false _ _ t in absurd (refuses r b (sym (lost r s b) ∙ e)))

    pub stationed : Stationed step ans who n
    stationed = record { commute = step_commute; deaf = step_deaf; stray = step_stray }

-- ---- what booking a list makes of each part
-- a part of the state that each step changes by itself
pub run_part : {R S X : Type 0} (step : R → S → S) (part : S → X) (next : R → X → X) → ((r : R) (s : S) → part (step r s) ≡ next r (part s))
    → (l : List R) (s : S) → part (run step s l) ≡ run next (part s) l
unfolding run
run_part step part next e [] s = refl
run_part step part next e (r ∷ l) s = run_part step part next e l (step r s) ∙ ap (λ x. run next x l) (e r s)

module _ {R : Type 0} where
  -- an entry of sums, after lists are added to them
  pub get_d_runs : (f : R → List ℤ) (l : List R) (m : List ℤ) (i : ℕ) → i < length m
      → get_or (run (λ r x. plus x (f r)) m l) i (pos 0) ≡ get_or m i (pos 0) +ℤ total (λ r. get_or (f r) i (pos 0)) l
  unfolding run total
  get_d_runs f [] m i h = sym (+ℤ_idr (get_or m i (pos 0)))
  get_d_runs f (r ∷ l) m i h =
      get_d_runs f l (plus m (f r)) i (rw length_plus h)
      ∙ ap (λ z. z +ℤ total (λ r. get_or (f r) i (pos 0)) l) (get_d_plus m (f r) i h)
      ∙ +ℤ_assoc (get_or m i (pos 0)) (get_or (f r) i (pos 0)) (total (λ r. get_or (f r) i (pos 0)) l)

  -- a sum of numbers that are not negative
  pub total_runs : (f : R → ℕ) (l : List R) (n : ℕ) → pos (run (λ r x. x + f r) n l) ≡ pos n +ℤ total (λ r. pos (f r)) l
  unfolding run total
  total_runs f [] n = sym (+ℤ_idr (pos n))
  total_runs f (r ∷ l) n = total_runs f l (n + f r) ∙ +ℤ_assoc (pos n) (pos (f r)) (total (λ r. pos (f r)) l)

  -- a list whose entries are changed, each by the records of its own place: an entry is changed by just these
  pub get_d_changes : {X : Type 0} (who : R → ℕ) (next : R → X → X) (d : X) (l : List R) (m : List X) (k : ℕ) → k < length m
      → get_or (run (λ r x. set x (who r) (next r (get_or x (who r) d))) m l) k d ≡ run next (get_or m k d) (only who k l)
  unfolding run keep
  get_d_changes who next d [] m k h = refl
  get_d_changes who next d (r ∷ l) m k h =
      get_d_changes who next d l (set m (who r) (next r (get_or m (who r) d))) k (rw length-set h)
      ∙ by_cases (same (who r) k)
      (λ t. let e : who r ≡ k = same_true _ _ t in
      ap (λ x. run next x (only who k l))
      (ap (λ j. get_or (set m j (next r (get_or m j d))) k d) e ∙ get_or-set_same m k (next r (get_or m k d)) d h)
      ∙ sym (ap (run next (get_or m k d)) (keep_yes (λ x. same (who x) k) r l t)))
      (λ t. ap (λ x. run next x (only who k l)) (get_or-set_other m (who r) k (next r (get_or m (who r) d)) d (λ e. same_false _ _ t (sym e)))
      ∙ sym (ap (run next (get_or m k d)) (keep_no (λ x. same (who x) k) r l t)))

  -- a count, and a last time
  pub run_count : (l : List R) (c : ℕ) → run (λ r x. x + 1) c l ≡ c + length l
  unfolding run
  run_count [] c = omega arith
  run_count (r ∷ l) c = omega (arith, run_count l (c + 1))

  pub run_last : (f : R → ℕ) (l : List R) (x : ℕ) → run (λ r x. f r) x l ≡ last_or x (map f l)
  unfolding run last_or
  run_last f [] x = refl
  run_last f (r ∷ l) x = run_last f l (f r)

-- two entries of a list are changed, each by what it held, in either order
pub change_comm : {X : Type 0} (l : List X) (d : X) (i j : ℕ) (f g : X → X) → (i ≡ j → ⊥)
    → set (set l j (g (get_or l j d))) i (f (get_or (set l j (g (get_or l j d))) i d)) ≡ set (set l i (f (get_or l i d))) j (g (get_or (set l i (f (get_or l i d))) j d))
change_comm l d i j f g ne =
    rw (get_or-set_other l j i (g (get_or l j d)) d ne, get_or-set_other l i j (f (get_or l i d)) d (λ e. ne (sym e)))
    (set_comm l j i (g (get_or l j d)) (f (get_or l i d)) (λ e. ne (sym e)))

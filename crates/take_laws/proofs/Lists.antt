-- Laws of lists by station.
-- Assumes nothing.
use Prim.Native.Nat.{ℕ, zero, suc, ◌≤◌, ◌<◌}
use mathlib.Core.Path.{◌≡◌, refl, sym, ap, ap₂, ◌∙◌, subst}
use mathlib.Core.Bool.{Bool, true, false}
use mathlib.Core.List.{List, [], ◌∷◌, ◌++◌, append-nil}
use native.Mathlib.Nat.{not-suc-le-zero}
use native.Mathlib.Omega.{arith}
use Rattle.num_whole.specs.Tests.{same}
use Rattle.num_whole.proofs.Cases.{by_cases, not_same, same_true, same_false, yes, no}
use Rattle.take_laws.specs.Mix.{keep, only, in_order, Alike}
use Rattle.num_whole.specs.Lists.{Each}

module _ {A : Type 0} (p : A → Bool) where
  pub keep_yes : (x : A) (l : List A) → p x ≡ true → keep p (x ∷ l) ≡ x ∷ keep p l
  unfolding keep
  keep_yes x l e = sym (yes _ _ _ e refl)

  pub keep_no : (x : A) (l : List A) → p x ≡ false → keep p (x ∷ l) ≡ keep p l
  unfolding keep
  keep_no x l e = sym (no _ _ _ e refl)

  pub keep_append : (l m : List A) → keep p (l ++ m) ≡ keep p l ++ keep p m
  unfolding keep
  keep_append [] m = refl
  keep_append (x ∷ l) m =
      by_cases (p x)
      (λ t. keep_yes x (l ++ m) t ∙ ap (λ k. x ∷ k) (keep_append l m) ∙ ap (λ k. k ++ keep p m) (sym (keep_yes x l t)))
      (λ t. keep_no x (l ++ m) t ∙ keep_append l m ∙ ap (λ k. k ++ keep p m) (sym (keep_no x l t)))

  -- all or none
  pub keep_all : (l : List A) → Each (λ x. p x ≡ true) l → keep p l ≡ l
  unfolding keep
  keep_all [] h = refl
  keep_all (x ∷ l) h = keep_yes x l h.0 ∙ ap (λ k. x ∷ k) (keep_all l h.1)

  pub keep_none : (l : List A) → Each (λ x. p x ≡ false) l → keep p l ≡ []
  unfolding keep
  keep_none [] h = refl
  keep_none (x ∷ l) h = keep_no x l h.0 ∙ keep_none l h.1

  -- what is kept passes the test
  pub keep_each : (l : List A) → Each (λ x. p x ≡ true) (keep p l)
  unfolding keep
  keep_each [] = tt
  keep_each (x ∷ l) =
      by_cases (p x)
      (λ t. subst (Each (λ y. p y ≡ true)) (sym (keep_yes x l t)) (t, keep_each l))
      (λ t. subst (Each (λ y. p y ≡ true)) (sym (keep_no x l t)) (keep_each l))

  -- where the first that passes stands
  pub record Split (m : List A) (r : A) (t : List A) : Type 0 where
    pub before : List A
    pub after : List A
    pub is : m ≡ before ++ r ∷ after
    pub none : Each (λ x. p x ≡ false) before
    pub rest : keep p after ≡ t

  pub split : (m : List A) (r : A) (t : List A) → keep p m ≡ r ∷ t → Split m r t
  unfolding keep
  split [] r t e = absurd (let z : ◌≡◌ {A = ℕ} 0 1 = cc in omega arith)
  split (x ∷ m) r t e =
      by_cases (p x)
      (λ b. let both : x ∷ keep p m ≡ r ∷ t = sym (keep_yes x m b) ∙ e in
      let head : x ≡ r = cc in
      let tail : keep p m ≡ t = cc in
      record { before = []; after = m; is = ap (λ y. y ∷ m) head; none = tt; rest = tail })
      (λ b. let d = split m r t (sym (keep_no x m b) ∙ e) in
      record { before = x ∷ d.before; after = d.after; is = ap (λ l. x ∷ l) d.is; none = (b, d.none); rest = d.rest })

-- what follows of each entry
pub each_map : {A : Type 0} {P Q : A → Type 0} → ((x : A) → P x → Q x) → (l : List A) → Each P l → Each Q l
each_map h [] e = tt
each_map h (x ∷ l) e = (h x e.0, each_map h l e.1)

-- ---- by station
module _ {R : Type 0} (who : R → ℕ) where
  -- a station's own records are all its own, and none of another's
  only_own : (k : ℕ) (l : List R) → only who k (only who k l) ≡ only who k l
  only_own k l = keep_all (λ r. same (who r) k) (only who k l) (keep_each (λ r. same (who r) k) l)

  only_other : (k j : ℕ) → (k ≡ j → ⊥) → (l : List R) → only who k (only who j l) ≡ []
  only_other k j d l =
      keep_none (λ r. same (who r) k) (only who j l)
      (each_map (λ r e. not_same (who r) k (λ z. d (sym z ∙ same_true (who r) j e))) (only who j l) (keep_each (λ r. same (who r) j) l))

  not_yet : (n k : ℕ) (l : List R) → n ≤ k → only who k (in_order who n l) ≡ []
  unfolding in_order keep
  not_yet zero k l h = refl
  not_yet (suc n) k l h =
      keep_append (λ r. same (who r) k) (in_order who n l) (only who n l)
      ∙ ap₂ (λ a b. a ++ b) (not_yet n k l (omega arith)) (only_other k n (omega arith) l)

  -- the stations one after another are a mix of the same
  pub in_order_alike : (n : ℕ) (l : List R) → Alike who n l (in_order who n l)
  unfolding in_order
  in_order_alike zero l k h = absurd (not-suc-le-zero h)
  in_order_alike (suc n) l k h =
      sym (keep_append (λ r. same (who r) k) (in_order who n l) (only who n l) ∙ go (in_order_alike n l k))
    where
      go : (k < n → only who k l ≡ only who k (in_order who n l)) → only who k (in_order who n l) ++ only who k (only who n l) ≡ only who k l
      go ih =
          by_cases (same k n)
          (λ t. let e : k ≡ n = same_true k n t in
          ap (λ a. a ++ only who k (only who n l)) (not_yet n k l (omega arith)) ∙ ap (λ m. only who k (only who m l)) (sym e) ∙ only_own k l)
          (λ t. let d = same_false k n t in
          ap₂ (λ a b. a ++ b) (sym (ih (omega arith))) (only_other k n d l) ∙ append-nil (only who k l))

  -- a record that one mix begins with, taken out of the other: what is left are mixes of the same
  pub alike_rest : (n : ℕ) (r : R) (l m : List R) → Alike who n (r ∷ l) m
      → (d : Split (λ x. same (who x) (who r)) m r (only who (who r) l)) → Alike who n l (d.before ++ d.after)
  alike_rest n r l m h d j b =
      by_cases (same (who r) j)
      (λ t. let e : who r ≡ j = same_true (who r) j t in
      subst (λ i. only who i l ≡ only who i (d.before ++ d.after)) e
      (sym (keep_append (λ x. same (who x) (who r)) d.before d.after
      ∙ ap₂ (λ x y. x ++ y) (keep_none (λ x. same (who x) (who r)) d.before d.none) d.rest)))
      (λ t. let p : R → Bool = λ x. same (who x) j in
      sym (keep_no p r l t) ∙ h j b ∙ ap (only who j) d.is ∙ keep_append p d.before (r ∷ d.after)
      ∙ ap (λ x. only who j d.before ++ x) (keep_no p r d.after t) ∙ sym (keep_append p d.before d.after))

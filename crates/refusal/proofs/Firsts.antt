-- How an answer meets a list of refusals in order: one step for each, and what an acceptance says of each.
-- Assumes nothing.
use Prim.Native.Nat.{ℕ}
use mathlib.Core.Path.{◌≡◌, refl, sym, ap, ◌∙◌}
use mathlib.Core.Bool.{Bool, true, false}
use mathlib.Core.List.{List, [], ◌∷◌}
use Rattle.num_whole.specs.Tests.{same}
use Rattle.num_whole.specs.Answer.{Answered, given, refused}
use Rattle.num_whole.proofs.Cases.{yes, no, is_same, not_same, same_true, same_false, by_cases, refused_not}
use Rattle.refusal.specs.Number.{number_of}
use Rattle.refusal.specs.declared.Refusal.{Refusal}
use Rattle.refusal.proofs.Apart.{not_none}
use Rattle.refusal.specs.First.{when, unless, number_in, first, answered, value_or}

-- ---- one test
module _ (k : ℕ) (b : Bool) where
  pub when_true : b ≡ true → when k b ≡ k
  unfolding when
  when_true e = sym (yes b k 0 e refl)

  pub when_false : b ≡ false → when k b ≡ 0
  unfolding when
  when_false e = sym (no b k 0 e refl)

  pub unless_true : b ≡ true → unless k b ≡ 0
  unfolding unless
  unless_true e = sym (yes b 0 k e refl)

  pub unless_false : b ≡ false → unless k b ≡ k
  unfolding unless
  unless_false e = sym (no b 0 k e refl)

  module _ (more : k ≡ 0 → ⊥) where
    pub when_none : when k b ≡ 0 → b ≡ false
    when_none e = by_cases b (λ t. absurd (more (sym (when_true t) ∙ e))) (λ t. t)

    pub unless_none : unless k b ≡ 0 → b ≡ true
    unless_none e = by_cases b (λ t. t) (λ t. absurd (more (sym (unless_false t) ∙ e)))

-- ---- the list
pub first_none_left : first [] ≡ 0
unfolding first
first_none_left = refl

module _ (k : ℕ) (l : List ℕ) where
  pub first_pass : k ≡ 0 → first (k ∷ l) ≡ first l
  unfolding first
  first_pass e = sym (yes (same k 0) (first l) k (is_same k 0 e) refl)

  pub first_stop : (k ≡ 0 → ⊥) → first (k ∷ l) ≡ k
  unfolding first
  first_stop e = sym (no (same k 0) (first l) k (not_same k 0 e) refl)

  -- nothing refuses: not the first, and none of the others
  pub first_none : first (k ∷ l) ≡ 0 → (k ≡ 0) × (first l ≡ 0)
  first_none e =
      by_cases (same k 0)
      (λ t. let z = same_true k 0 t in (z, sym (first_pass z) ∙ e))
      (λ t. absurd (same_false k 0 t (sym (first_stop (same_false k 0 t)) ∙ e)))

pub first_one : (k : ℕ) → first (k ∷ []) ≡ k
first_one k =
    by_cases (same k 0)
    (λ t. first_pass k [] (same_true k 0 t) ∙ first_none_left ∙ sym (same_true k 0 t))
    (λ t. first_stop k [] (same_false k 0 t))

-- ---- the answer
module _ {A : Type 0} (k : ℕ) (a : A) where
  pub answered_given : k ≡ 0 → given a ≡ answered k a
  unfolding answered
  answered_given e = yes (same k 0) (given a) (refused k) (is_same k 0 e) refl

  pub answered_refused : (k ≡ 0 → ⊥) → refused k ≡ answered k a
  unfolding answered
  answered_refused e = no (same k 0) (given a) (refused k) (not_same k 0 e) refl

module _ {A : Type 0} (x : Answered A) where
  pub number_given : (a : A) → x ≡ given a → number_in x ≡ 0
  unfolding number_in
  number_given a e = rw e refl

  pub number_refused : (k : ℕ) → x ≡ refused k → number_in x ≡ k
  unfolding number_in
  number_refused k e = rw e refl

-- a refusal by its case
pub answered_by : {A : Type 0} (k : ℕ) (a : A) (r : Refusal) → k ≡ number_of r → refused (number_of r) ≡ answered k a
answered_by k a r e = rw e (answered_refused (number_of r) a (not_none r))

pub first_by : (k : ℕ) (l : List ℕ) (r : Refusal) → k ≡ number_of r → number_of r ≡ first (k ∷ l)
first_by k l r e = rw e (sym (first_stop (number_of r) l (not_none r)))

-- what an answer says of the number that it was made of
pub answered_is : {A : Type 0} (k : ℕ) (a x : A) → answered k a ≡ given x → (k ≡ 0) × (a ≡ x)
unfolding answered value_or
answered_is k a x e =
    by_cases (same k 0)
    (λ t. (same_true k 0 t, ap (value_or a) (yes (same k 0) (given a) (refused k) t refl ∙ e)))
    (λ t. absurd (refused_not (sym (no (same k 0) (given a) (refused k) t refl)) e))

pub answered_not : {A : Type 0} (k : ℕ) (a : A) (n : ℕ) → answered k a ≡ refused n → k ≡ n
unfolding answered number_in
answered_not k a n e =
    by_cases (same k 0)
    (λ t. absurd (refused_not e (sym (yes (same k 0) (given a) (refused k) t refl))))
    (λ t. ap number_in (no (same k 0) (given a) (refused k) t refl ∙ e))

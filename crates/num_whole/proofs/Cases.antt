-- How an answer meets a definition that goes by tests: one step for each test on the way. Where a call gave the test, its fact is the call's
-- promise turned round and then the branch (`cc` finds it too, slowly where a large struct is in scope); where the code compared numbers, it is
-- `is-less _ _ (omega arith)` and its like.
-- Assumes nothing.
use Prim.Native.Nat.{ℕ, ◌≤◌, ◌<◌}
use mathlib.Core.Path.{◌≡◌, refl, sym, subst}
use mathlib.Core.Bool.{Bool, true, false, not}
use borrow.Author.Tests.{ltb-true, ltb-false, leb-true, leb-false, eqb-true, eqb-false, lt-ltb, le-ltb, le-leb, lt-leb, eq-eqb, ne_eqb}
use native.Mathlib.Omega.{arith}
use lib.Dec.{T, ltb, leb, eqb}
use Rattle.num_whole.specs.Answer.{Answered, given, refused}
use Rattle.num_whole.specs.Tests.{less, up_to, same, pick, both, either, between}

-- true is not false
pub apart : true ≡ false → ⊥
apart e = subst T e tt

module _ {A : Type 0} (b : Bool) {x : A} (y z : A) where
  pub yes : b ≡ true → x ≡ y → x ≡ pick b y z
  unfolding pick
  yes e h = rw e h

  pub no : b ≡ false → x ≡ z → x ≡ pick b y z
  unfolding pick
  no e h = rw e h

pub last_fails : (a : Bool) {b : Bool} → b ≡ false → both a b ≡ false
unfolding both
last_fails true e = e
last_fails false e = refl

module _ (a b : Bool) where
  pub fails : a ≡ false → false ≡ both a b
  unfolding both
  fails e = rw e

  pub holds : {x : Bool} → a ≡ true → x ≡ b → x ≡ both a b
  unfolding both
  holds e h = rw e h

  pub at_once : a ≡ true → true ≡ either a b
  unfolding either
  at_once e = rw e

  pub at_last : {x : Bool} → a ≡ false → x ≡ b → x ≡ either a b
  unfolding either
  at_last e h = rw e h

module _ (a b : ℕ) where
  pub is_less : a < b → less a b ≡ true
  unfolding less
  is_less = lt-ltb a b

  pub not_less : b ≤ a → less a b ≡ false
  unfolding less
  not_less = le-ltb a b

  pub is_up_to : a ≤ b → up_to a b ≡ true
  unfolding up_to
  is_up_to = le-leb a b

  pub not_up_to : b < a → up_to a b ≡ false
  unfolding up_to
  not_up_to = lt-leb a b

  pub is_same : a ≡ b → same a b ≡ true
  unfolding same
  is_same = eq-eqb a b

  pub not_same : (a ≡ b → ⊥) → same a b ≡ false
  unfolding same
  not_same = ne_eqb a b

  -- a test that is itself the answer
  pub by_less : ltb a b ≡ less a b
  unfolding less
  by_less = refl

  pub by_up_to : leb a b ≡ up_to a b
  unfolding up_to
  by_up_to = refl

  pub by_same : eqb a b ≡ same a b
  unfolding same
  by_same = refl

  pub by_not_same : not (eqb a b) ≡ not (same a b)
  unfolding same
  by_not_same = refl

  -- what a test that holds says, and one that fails
  pub less_true : less a b ≡ true → a < b
  unfolding less
  less_true = ltb-true a b

  pub less_false : less a b ≡ false → b ≤ a
  unfolding less
  less_false = ltb-false a b

  pub up_to_true : up_to a b ≡ true → a ≤ b
  unfolding up_to
  up_to_true = leb-true a b

  pub up_to_false : up_to a b ≡ false → b < a
  unfolding up_to
  up_to_false = leb-false a b

  pub same_true : same a b ≡ true → a ≡ b
  unfolding same
  same_true = eqb-true a b

  pub same_false : same a b ≡ false → a ≡ b → ⊥
  unfolding same
  same_false = eqb-false a b

pub both_first : (a b : Bool) → both a b ≡ true → a ≡ true
unfolding both
both_first true b e = refl
both_first false b e = e

pub both_second : (a b : Bool) → both a b ≡ true → b ≡ true
unfolding both
both_second true b e = e
both_second false b e = absurd (apart (sym e))

module _ (low x high : ℕ) where
  pub is_between : low ≤ x → x ≤ high → between low x high ≡ true
  unfolding between
  is_between p q = sym (holds _ _ (is_up_to low x p) (sym (is_up_to x high q)))

  pub is_below : x < low → between low x high ≡ false
  unfolding between
  is_below p = sym (fails _ _ (not_up_to low x p))

  pub is_above : high < x → between low x high ≡ false
  unfolding between
  is_above q = last_fails (up_to low x) (not_up_to x high q)

  pub between_true : between low x high ≡ true → (low ≤ x) × (x ≤ high)
  unfolding between
  between_true e = (up_to_true low x (both_first _ _ e), up_to_true x high (both_second _ _ e))

-- a test by cases: what follows where it holds and where it fails follows
pub by_cases : {A : Type 0} (b : Bool) → (b ≡ true → A) → (b ≡ false → A) → A
by_cases true f g = f refl
by_cases false f g = g refl

-- ---- what an acceptance says of the tests before it
pub refused_not : {A : Type 0} {x : Answered A} {k : ℕ} {a : A} → x ≡ refused k → x ≡ given a → ⊥
refused_not p e = let z : ◌≡◌ {A = ℕ} 0 1 = cc in omega arith

pub chosen : {A : Type 0} (k : ℕ) (b : Bool) (x : Answered A) {a : A} → pick b x (refused k) ≡ given a → (b ≡ true) × (x ≡ given a)
unfolding pick
chosen k true x e = (refl, e)
chosen k false x e = absurd (refused_not refl e)

pub passed : {A : Type 0} (k : ℕ) (b : Bool) (x : Answered A) {a : A} → pick b (refused k) x ≡ given a → (b ≡ false) × (x ≡ given a)
unfolding pick
passed k true x e = absurd (refused_not refl e)
passed k false x e = (refl, e)

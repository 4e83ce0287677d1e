-- Tests on numbers, tests joined, and a choice by a test. They stay shut, so that a proof finds their arguments by itself:
-- `proofs/Cases.antt` has their laws.
use Rattle.std.specs.Prelude.{ℕ, zero, suc, Bool, true, false, ltb, leb, eqb}

-- a < b
unfoldable pub less : ℕ → ℕ → Bool
less a b = ltb a b

-- a ≤ b
unfoldable pub up_to : ℕ → ℕ → Bool
up_to a b = leb a b

-- a ≡ b
unfoldable pub same : ℕ → ℕ → Bool
same a b = eqb a b

-- a where the test holds, else b
unfoldable pub pick : {A : Type 0} → Bool → A → A → A
pick true a b = a
pick false a b = b

-- both tests hold
unfoldable pub both : Bool → Bool → Bool
both true b = b
both false b = false

-- one of the tests holds, or both do
unfoldable pub either : Bool → Bool → Bool
either true b = true
either false b = b

-- low ≤ x ≤ high
unfoldable pub between : ℕ → ℕ → ℕ → Bool
between low x high = both (up_to low x) (up_to x high)

-- the test holds of each number below n
unfoldable pub below : (ℕ → Bool) → ℕ → Bool
below f zero = true
below f (suc n) = both (f n) (below f n)

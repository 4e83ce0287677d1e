-- Document 01, 'Refusal numbers', with its orders ("Taking: 20, 2, 4, 5, 6, 1, 3, then 10 to 19"): each test has its number, 0 where nothing is
-- wrong, and the first number that is not 0 is the answer.
use Rattle.std.specs.Prelude.{ℕ, Bool, List, [], ◌∷◌}
use Rattle.num_whole.specs.Tests.{same, pick}
use Rattle.num_whole.specs.Answer.{Answered, given, refused}

-- the number where a test holds
unfoldable pub when : ℕ → Bool → ℕ
when k b = pick b k 0

-- the number where a test does not hold
unfoldable pub unless : ℕ → Bool → ℕ
unless k b = pick b 0 k

-- the number that an answer has
unfoldable pub number_in : {A : Type 0} → Answered A → ℕ
number_in (given a) = 0
number_in (refused k) = k

-- the first number that is not 0
unfoldable pub first : List ℕ → ℕ
first [] = 0
first (k ∷ l) = pick (same k 0) (first l) k

-- a value where nothing is wrong, else the refusal
unfoldable pub answered : {A : Type 0} → ℕ → A → Answered A
answered k a = pick (same k 0) (given a) (refused k)

-- what an answer gives, or d where it is a refusal
unfoldable pub value_or : {A : Type 0} → A → Answered A → A
value_or d (given a) = a
value_or d (refused k) = d

-- whether something is given, and not what
unfoldable pub verdict_of : {A : Type 0} → Answered A → Answered (Unit {0})
verdict_of (given a) = given tt
verdict_of (refused k) = refused k

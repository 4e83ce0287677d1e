-- Results in lent room, one element a value, for every entry and every type of element. Document 01: 20 is "a lent buffer shorter than needed";
-- "A longer buffer keeps its rest. A refusal changes nothing lent."
use Rattle.std.specs.Prelude.{ℕ, List, [], ◌∷◌, length}
use Rattle.num_whole.specs.Tests.{less, pick}
use Rattle.num_whole.specs.Lists.{over}
use Rattle.num_whole.specs.Answer.{Answered, given, refused}
use Rattle.refusal.specs.First.{when}

-- the answer's own number, then 20; 0 where the values are in the room
unfoldable pub result_number : {A : Type 0} → Answered (List A) → ℕ → ℕ
result_number (given l) room = when 20 (less room (length l))
result_number (refused k) room = k

unfoldable pub result_left : {A : Type 0} → Answered (List A) → List A → List A
result_left (given l) out = pick (less (length out) (length l)) out (over l out)
result_left (refused k) out = out

-- the values of an answer, by what they are of it
unfoldable pub told_values : {A B : Type 0} → (A → List B) → Answered A → Answered (List B)
told_values f (given a) = given (f a)
told_values f (refused k) = refused k

-- ---- bytes in one room, and how many in another: where there is no room for the number, the bytes have none either
unfoldable pub room_for : ℕ → ℕ → ℕ
room_for size out = pick (less size 1) 0 out

-- what an entry leaves of a room, by what it makes of the room alone
unfoldable pub bytes_left : ℕ → (List ℕ → List ℕ) → List ℕ → List ℕ
bytes_left size left out = pick (less size 1) out (left out)

-- a single value
unfoldable pub one : {A : Type 0} → A → List A
one a = a ∷ []

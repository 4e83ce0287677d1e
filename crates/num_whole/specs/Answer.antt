-- What an entry answers in document 01's words. An entry's own enum is read as one of these by a definition that its promise cites:
-- "When an answer is an enum, a definition gives this paper's number and values for each of its cases, and the promises use that definition."
use Rattle.std.specs.Prelude.{ℕ}

-- a value, or a refusal by its number
pub data Answered (A : Type 0) : Type 0 where
  given : A → Answered A
  refused : ℕ → Answered A

-- a value, or a refusal by its number and place ("A reading refusal adds a place")
pub data Judged (A : Type 0) : Type 0 where
  good : A → Judged A
  bad : ℕ → ℕ → Judged A

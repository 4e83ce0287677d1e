-- Lists of records by their station, mixes of them, and what a machine tells each record. Nothing here knows what a record is.
use Rattle.std.specs.Prelude.{ℕ, zero, suc, ◌<◌, ◌≡◌, Bool, List, [], ◌∷◌, ◌++◌, map}
use Rattle.num_whole.specs.Tests.{same, pick}
use Rattle.take_laws.specs.Machine.{answers}

-- the entries that pass a test, in their order
unfoldable pub keep : {A : Type 0} → (A → Bool) → List A → List A
keep p [] = []
keep p (x ∷ l) = pick (p x) (x ∷ keep p l) (keep p l)

-- two lists side by side
unfoldable pub pairs : {A B : Type 0} → List A → List B → List (A × B)
pairs [] m = []
pairs (a ∷ l) [] = []
pairs (a ∷ l) (b ∷ m) = (a, b) ∷ pairs l m

-- the last number of a list, d where it has none
unfoldable pub last_or : ℕ → List ℕ → ℕ
last_or d [] = d
last_or d (x ∷ l) = last_or x l

module _ {R : Type 0} (who : R → ℕ) where
  -- the records of station k
  abbrev pub only : ℕ → List R → List R
  only k l = keep (λ r. same (who r) k) l

  -- the stations below n one after another, each with its own records in their order
  unfoldable pub in_order : ℕ → List R → List R
  in_order zero l = []
  in_order (suc n) l = in_order n l ++ only n l

  -- two mixes of the same: each station below n has the same records in the same order. Records of no station may stand anywhere
  abbrev pub Alike : ℕ → List R → List R → Type 0
  Alike n l m = (k : ℕ) → k < n → only k l ≡ only k m

module _ {R S A : Type 0} (step : R → S → S) (answer : R → S → A) where
  -- each record with its answer
  abbrev pub records_told : S → List R → List (R × A)
  records_told s l = pairs l (answers step answer s l)

-- of records with their answers: those of station k, and the records that are answered accepted, each in their order
abbrev pub told_to : {R A : Type 0} → (R → ℕ) → ℕ → List (R × A) → List (R × A)
told_to who k l = keep (λ x. same (who x.0) k) l

unfoldable pub taken : {R : Type 0} → List (R × ℕ) → List R
taken l = map (λ x. x.0) (keep (λ x. same x.1 0) l)

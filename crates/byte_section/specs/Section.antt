-- Document 01: "Files are read left to right: a section's count (1, 2), then its records one by one, each 1, 4, 5; then 3" and "A reading
-- refusal adds a place: for 1 the length, else the first byte of the count, record or surplus." One definition for every kind of record.
use Rattle.std.specs.Prelude.{ℕ, zero, suc, ◌+◌, ◌-◌, List, [], ◌∷◌, ◌++◌, Bool, length}
use Rattle.num_whole.specs.Tests.{less, up_to, pick, between}
use Rattle.num_whole.specs.Answer.{Judged, good, bad}
use Rattle.byte_words.specs.Words.{word}

-- A kind of record: its size in bytes, what stands at a place of the bytes, whether its fields there are within their limits, its key,
-- and the least key that may follow it. Strictly ascending keys: one more than its own. No order: both are 0.
pub record Kind (A : Type 0) : Type 0 where
  pub size : ℕ
  pub decode : List ℕ → ℕ → A
  pub fields_ok : List ℕ → ℕ → Bool
  pub key : A → ℕ
  pub after : A → ℕ

-- records, and the place after them
pub record Run (A : Type 0) : Type 0 where
  pub items : List A
  pub next : ℕ

-- one thing after another: the first refusal is the answer
unfoldable pub and_then : {A B : Type 0} → Judged A → (A → Judged B) → Judged B
and_then (good a) f = f a
and_then (bad number place) f = bad number place

-- a count of four bytes: 1 where the bytes end before it does, 2 where it is not one that is allowed
unfoldable pub count_at : List ℕ → ℕ → ℕ → ℕ → Judged ℕ
count_at s at low high =
    pick (less (length s - at) 4) (bad 1 (length s))
    (pick (between low (word 4 s at) high) (good (word 4 s at)) (bad 2 at))

module _ {A : Type 0} (K : Kind A) (s : List ℕ) where
  -- one record: 1 where the bytes end before it does, 4 where a field is out of its limits, 5 where its key is below the floor
  unfoldable pub judged_at : ℕ → ℕ → Judged A
  judged_at at floor =
      pick (less (length s - at) K.size) (bad 1 (length s))
      (pick (K.fields_ok s at)
      (pick (up_to floor (K.key (K.decode s at))) (good (K.decode s at)) (bad 5 at))
      (bad 4 at))

  -- n records from a place on, the first with a key from the floor up
  unfoldable pub records : ℕ → ℕ → ℕ → Judged (Run A)
  records zero at floor = good (record { items = []; next = at })
  records (suc n) at floor =
      and_then (judged_at at floor)
      (λ a. and_then (records n (at + K.size) (K.after a)) (λ r. good (record { items = a ∷ r.items; next = r.next })))

  -- the whole section: its count, from low to high, then that many records
  unfoldable pub section_at : ℕ → ℕ → ℕ → Judged (Run A)
  section_at low high at = and_then (count_at s at low high) (λ n. records n (at + 4) 0)

-- after the last section: 3 where bytes follow it
unfoldable pub closed : {A : Type 0} → List ℕ → ℕ → A → Judged A
closed s at a = pick (less at (length s)) (bad 3 at) (good a)

-- the bytes of records, one after the other
unfoldable pub encoded : {A : Type 0} → (A → List ℕ) → List A → List ℕ
encoded bytes [] = []
encoded bytes (a ∷ l) = bytes a ++ encoded bytes l

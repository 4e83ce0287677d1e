-- What a section that was read is: its count, its records' limits and order, its first records, and its bytes; and that a run of whole
-- records after its count is read.
-- Assumes nothing.
use Prim.Native.Nat.{ℕ, zero, suc, ◌+◌, ◌-◌, ◌*◌, ◌^◌, ◌≤◌, ◌<◌}
use mathlib.Core.Path.{◌≡◌, sym, ap, ap₂, ◌∙◌, subst}
use mathlib.Core.List.{List, [], ◌++◌}
use mathlib.Core.Bool.{Bool, true}
use native.Mathlib.Omega.{arith}
use native.Mathlib.Nat.{suc-add, suc-mul, zero-mul}
use lib.ListN.{length, take, drop, length-append, take-append-drop}
use lib.Seq.{drop-drop}
use Rattle.num_whole.specs.Answer.{good}
use Rattle.num_whole.specs.Lists.{all, ascend}
use Rattle.num_whole.proofs.Cases.{holds, is_up_to}
use Rattle.byte_words.specs.Words.{bytes_of}
use Rattle.byte_words.proofs.Words.{Bytes, length_bytes_of}
use Rattle.byte_words.proofs.Parts.{word_forth}
use Rattle.num_whole.specs.Lists.{Each}
use Rattle.byte_section.specs.Section.{Kind, Run, records, section_at, encoded}
use Rattle.byte_section.proofs.Walk.{good_same, then_good, then_read, judged_read, Counted, counted, records_next, records_within, records_room}
use Rattle.byte_section.proofs.Trips.{count_back, records_forth}

-- ---- the records
module _ {A : Type 0} (K : Kind A) (s : List ℕ) where
  -- each is so, where whatever stands in these bytes is so
  pub records_each : (P : A → Type 0) → ((at : ℕ) → P (K.decode s at)) → (n at floor : ℕ) (r : Run A) → records K s n at floor ≡ good r → Each P r.items
  unfolding records
  records_each P h zero at floor r e = subst (λ x. Each P x.items) (good_same e) tt
  records_each P h (suc n) at floor r e =
      let one = then_read _ _ _ e in
      let rest = then_read _ _ _ one.2 in
      let first : P one.0 = subst P (judged_read K s at floor one.0 one.1).is (h at) in
      subst (λ x. Each P x.items) (good_same rest.2) (first, records_each P h n (at + K.size) (K.after one.0) rest.0 rest.1)

  -- each passes a test that the limits imply
  pub records_all : (f : A → Bool) → ((at : ℕ) → K.fields_ok s at ≡ true → f (K.decode s at) ≡ true) → (n at floor : ℕ) (r : Run A)
      → records K s n at floor ≡ good r → all f r.items ≡ true
  unfolding records all
  records_all f h zero at floor r e = rw (← good_same e)
  records_all f h (suc n) at floor r e =
      let one = then_read _ _ _ e in
      let rest = then_read _ _ _ one.2 in
      let here = judged_read K s at floor one.0 one.1 in
      let first : f one.0 ≡ true = rw here.is at (h at here.ok) in
      rw (← good_same rest.2) (sym (holds _ _ first (sym (records_all f h n (at + K.size) (K.after one.0) rest.0 rest.1))))

  -- and their keys ascend
  pub records_ascend : ((a : A) → K.after a ≡ K.key a + 1) → (n at floor : ℕ) (r : Run A) → records K s n at floor ≡ good r → ascend K.key floor r.items ≡ true
  unfolding records ascend
  records_ascend h zero at floor r e = rw (← good_same e)
  records_ascend h (suc n) at floor r e =
      let one = then_read _ _ _ e in
      let rest = then_read _ _ _ one.2 in
      let here = judged_read K s at floor one.0 one.1 in
      let others = records_ascend h n (at + K.size) (K.after one.0) rest.0 rest.1 in
      rw (← good_same rest.2) (sym (holds _ _ (is_up_to _ _ here.up) (sym (ap (λ f. ascend K.key f rest.0.items) (sym (h one.0)) ∙ others))))

  -- the first j of them are what is read when j are asked for
  pub records_first : (j k at floor : ℕ) (r : Run A) → records K s (j + k) at floor ≡ good r
      → records K s j at floor ≡ good (record { items = take j r.items; next = at + j * K.size })
  unfolding records
  records_first zero k at floor r e = ap (λ n. good (record { items = []; next = n })) (omega (arith, zero-mul K.size))
  records_first (suc j) k at floor r e =
      let e₁ : records K s (suc (j + k)) at floor ≡ good r = rw (suc-add j k) at e in
      let one = then_read _ _ _ e₁ in
      let rest = then_read _ _ _ one.2 in
      let end : at + K.size + j * K.size ≡ at + suc j * K.size = omega (arith, suc-mul j K.size) in
      then_good _ _ one.1
      ∙ then_good _ _ (records_first j k (at + K.size) (K.after one.0) rest.0 rest.1)
      ∙ ap₂ (λ l n. good (record { items = l; next = n })) (ap (λ x. take (suc j) x.items) (good_same rest.2)) end

  -- ---- the section
  pub record Section (low high at : ℕ) (r : Run A) : Type 0 where
    pub count : Counted s at low high (length r.items)
    pub run : records K s (length r.items) (at + 4) 0 ≡ good r
    pub next : r.next ≡ at + 4 + length r.items * K.size
    pub within : r.next ≤ length s

  pub section_read : (low high at : ℕ) (r : Run A) → section_at K s low high at ≡ good r → Section low high at r
  unfolding section_at
  section_read low high at r e =
      let c = then_read _ _ _ e in
      let n = records_next K s c.0 (at + 4) 0 r c.2 in
      let k = counted s at low high c.0 c.1 in
      let inside = records_within K s c.0 (at + 4) 0 r (omega (arith, k.whole)) c.2 in
      record { count = rw n.1 k; run = rw n.1 c.2; next = rw n.1 n.0; within = omega (arith, n.0) }

  -- the bytes of what was read, and what follows, are what stands there
  module _ (bounded : Bytes s) (bytes : A → List ℕ)
      (forth : (at : ℕ) → K.size ≤ length s - at → K.fields_ok s at ≡ true → bytes (K.decode s at) ≡ take K.size (drop at s))
    where
      pub section_forth : (low high at : ℕ) (r : Run A) → section_at K s low high at ≡ good r
          → bytes_of 4 (length r.items) ++ (encoded bytes r.items ++ drop r.next s) ≡ drop at s
      section_forth low high at r e =
          let x = section_read low high at r e in
          let n = length r.items * K.size in
          let here : at + 4 ≤ length s = omega (arith, x.count.whole) in
          let first : bytes_of 4 (length r.items) ≡ take 4 (drop at s) = ap (bytes_of 4) (sym x.count.is) ∙ word_forth s bounded 4 at here in
          let others : encoded bytes r.items ≡ take n (drop (at + 4) s) = records_forth K bytes s forth (length r.items) (at + 4) 0 r x.run in
          let after : drop r.next s ≡ drop n (drop (at + 4) s) = ap (λ m. drop m s) x.next ∙ sym (drop-drop n (at + 4) s) in
          let rest : encoded bytes r.items ++ drop r.next s ≡ drop 4 (drop at s) =
          ap₂ (λ a b. a ++ b) others after ∙ take-append-drop n (drop (at + 4) s) ∙ sym (drop-drop 4 at s) in
          ap₂ (λ a b. a ++ b) first rest ∙ take-append-drop 4 (drop at s)

-- ---- a run of whole records after its count
module _ (p t : List ℕ) (n low high : ℕ) (small : n < 256 ^ 4) (from : low ≤ n) (to : n ≤ high) where
  -- a kind with no limits and no order
  module _ {A : Type 0} (K : Kind A) (free : (s : List ℕ) (at : ℕ) → K.fields_ok s at ≡ true) (flat : (a : A) → K.after a ≡ 0)
      (long : length t ≡ n * K.size)
    where
      pub section_room : (r : Run A) × (section_at K (p ++ (bytes_of 4 n ++ t)) low high (length p) ≡ good r) × (length r.items ≡ n)
          × (r.next ≡ length (p ++ (bytes_of 4 n ++ t)))
      unfolding section_at
      section_room =
          let s = p ++ (bytes_of 4 n ++ t) in
          let all : length s ≡ length p + 4 + n * K.size = simp (length-append, length_bytes_of) (omega arith) in
          let run = records_room K s (free s) flat n (length p + 4) (omega arith) in
          let end = records_next K s n (length p + 4) 0 run.0 run.1 in
          (run.0, then_good _ _ (count_back p t n low high small from to) ∙ run.1, end.1, end.0 ∙ sym all)

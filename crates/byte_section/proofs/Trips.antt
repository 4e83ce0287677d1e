-- Records written read back the same, and records read are rewritten to the same bytes: for every kind whose single record does so.
-- Assumes nothing.
use Prim.Native.Nat.{ℕ, zero, suc, ◌+◌, ◌-◌, ◌*◌, ◌^◌, ◌≤◌, ◌<◌}
use mathlib.Core.Path.{◌≡◌, refl, sym, ap, ap₂, ◌∙◌}
use mathlib.Core.List.{List, [], ◌∷◌, ◌++◌, append_assoc}
use mathlib.Core.Bool.{true}
use native.Mathlib.Omega.{arith}
use native.Mathlib.Nat.{add-zero, suc-mul, zero-mul}
use lib.ListN.{length, take, drop, length-append}
use lib.Seq.{take-add, drop-drop}
use Rattle.num_whole.specs.Answer.{good}
use Rattle.num_whole.proofs.Cases.{yes, no, not_less, is_up_to, is_between}
use Rattle.byte_words.specs.Words.{word, bytes_of}
use Rattle.byte_words.proofs.Words.{word_after, word_bytes_of, length_bytes_of}
use Rattle.byte_section.specs.Section.{Kind, Run, count_at, judged_at, records, section_at, encoded}
use Rattle.byte_section.proofs.Walk.{good_same, then_good, then_read, judged_read}

-- ---- how long records of k bytes each are
pub length_encoded : {A : Type 0} (bytes : A → List ℕ) (k : ℕ) → ((a : A) → length (bytes a) ≡ k) → (l : List A) → length (encoded bytes l) ≡ length l * k
unfolding encoded
length_encoded bytes k long [] = sym (zero-mul k)
length_encoded bytes k long (a ∷ l) = length-append (bytes a) (encoded bytes l) ∙ omega (arith, long a, length_encoded bytes k long l, suc-mul (length l) k)

-- ---- writing, then reading
-- a count that was written is read back
pub count_back : (p t : List ℕ) (n low high : ℕ) → n < 256 ^ 4 → low ≤ n → n ≤ high → count_at (p ++ (bytes_of 4 n ++ t)) (length p) low high ≡ good n
unfolding count_at
count_back p t n low high small from to =
    let s = p ++ (bytes_of 4 n ++ t) in
    let z : length p + 0 ≡ length p = add-zero (length p) in
    let count : word 4 s (length p) ≡ n = (rw z at (word_after 4 p (bytes_of 4 n ++ t) 0)) ∙ word_bytes_of 4 n t small in
    let room : 4 ≤ length s - length p = simp (length-append, length_bytes_of) (omega arith) in
    rw count (sym (no _ _ _ (not_less _ _ room) (yes _ _ _ (is_between _ _ _ from to) refl)))

-- Held: what a record has to be so that its bytes hold it
module _ {A : Type 0} (K : Kind A) (bytes : A → List ℕ) (Held : A → Type 0) where
  -- records that may stand in a section: each held, each with a key from the floor before it up
  abbrev pub Chain : ℕ → List A → Type 0
  Chain floor [] = Unit {0}
  Chain floor (a ∷ l) = Held a × ((floor ≤ K.key a) × Chain (K.after a) l)

  module _
      (long : (a : A) → length (bytes a) ≡ K.size)
      (back : (p : List ℕ) (a : A) (r : List ℕ) → Held a
      → (K.decode (p ++ (bytes a ++ r)) (length p) ≡ a) × (K.fields_ok (p ++ (bytes a ++ r)) (length p) ≡ true))
    where
      one_back : (p : List ℕ) (a : A) (r : List ℕ) (floor : ℕ) → Held a → floor ≤ K.key a → judged_at K (p ++ (bytes a ++ r)) (length p) floor ≡ good a
      unfolding judged_at
      one_back p a r floor h up =
          let b = back p a r h in
          let room : K.size ≤ length (p ++ (bytes a ++ r)) - length p = simp (length-append, long) (omega arith) in
          rw b.0 (sym (no _ _ _ (not_less _ _ room) (yes _ _ _ b.1 (yes _ _ _ (is_up_to _ _ up) refl))))

      pub records_back : (l : List A) (p r : List ℕ) (floor : ℕ) → Chain floor l
          → records K (p ++ (encoded bytes l ++ r)) (length l) (length p) floor ≡ good (record { items = l; next = length p + length l * K.size })
      unfolding records encoded
      records_back [] p r floor c = ap (λ n. good (record { items = []; next = n })) (omega (arith, zero-mul K.size))
      records_back (a ∷ l) p r floor c =
          let first = one_back p a (encoded bytes l ++ r) floor c.0 c.1.0 in
          let m : length (p ++ bytes a) ≡ length p + K.size = length-append p (bytes a) ∙ ap (λ n. length p + n) (long a) in
          let end : length p + K.size + length l * K.size ≡ length p + suc (length l) * K.size = omega (arith, suc-mul (length l) K.size) in
          let rest = records_back l (p ++ bytes a) r (K.after a) c.1.1 in
          ap (λ x. records K (p ++ x) (suc (length l)) (length p) floor) (append_assoc (bytes a) (encoded bytes l) r)
          ∙ then_good _ _ first
          ∙ then_good _ _ (simp (m, append_assoc p (bytes a) (encoded bytes l ++ r)) at rest)
          ∙ ap (λ n. good (record { items = a ∷ l; next = n })) end

      pub section_back : (l : List A) (p r : List ℕ) (low high : ℕ) → Chain 0 l → low ≤ length l → length l ≤ high → length l < 256 ^ 4
          → section_at K (p ++ (bytes_of 4 (length l) ++ (encoded bytes l ++ r))) low high (length p)
          ≡ good (record { items = l; next = length p + 4 + length l * K.size })
      unfolding section_at
      section_back l p r low high c from to small =
          let b = bytes_of 4 (length l) in
          let m : length (p ++ b) ≡ length p + 4 = length-append p b ∙ ap (λ n. length p + n) (length_bytes_of 4 (length l)) in
          let rest = records_back l (p ++ b) r 0 c in
          then_good _ _ (count_back p (encoded bytes l ++ r) (length l) low high small from to)
          ∙ (simp (m, append_assoc p b (encoded bytes l ++ r)) at rest)

-- ---- reading, then writing
module _ {A : Type 0} (K : Kind A) (bytes : A → List ℕ) (s : List ℕ)
    (forth : (at : ℕ) → K.size ≤ length s - at → K.fields_ok s at ≡ true → bytes (K.decode s at) ≡ take K.size (drop at s))
  where
    pub records_forth : (n at floor : ℕ) (r : Run A) → records K s n at floor ≡ good r → encoded bytes r.items ≡ take (n * K.size) (drop at s)
    unfolding records encoded
    records_forth zero at floor r e = sym (ap (λ x. encoded bytes x.items) (good_same e)) ∙ rw (zero-mul K.size)
    records_forth (suc n) at floor r e =
        let one = then_read _ _ _ e in
        let rest = then_read _ _ _ one.2 in
        let here = judged_read K s at floor one.0 one.1 in
        let first : bytes one.0 ≡ take K.size (drop at s) = ap bytes (sym here.is) ∙ forth at here.whole here.ok in
        let others = records_forth n (at + K.size) (K.after one.0) rest.0 rest.1 in
        let size : K.size + n * K.size ≡ suc n * K.size = omega (arith, suc-mul n K.size) in
        sym (ap (λ x. encoded bytes x.items) (good_same rest.2))
        ∙ ap₂ (λ x y. x ++ y) first (others ∙ ap (take (n * K.size)) (sym (drop-drop K.size at s)))
        ∙ sym (take-add K.size (n * K.size) (drop at s)) ∙ ap (λ k. take k (drop at s)) size

-- What is read of bytes that stand there is read of these alone; and where bytes end before what is read does (1), how many there are.
-- Assumes nothing.
use Prim.Native.Nat.{ℕ, zero, suc, ◌+◌, ◌-◌, ◌*◌, ◌≤◌, ◌<◌}
use mathlib.Core.Path.{◌≡◌, refl, sym, ◌∙◌}
use mathlib.Core.List.{List, ◌++◌}
use mathlib.Core.Bool.{false}
use native.Mathlib.Omega.{arith}
use native.Mathlib.Nat.{suc-mul, zero-mul}
use lib.ListN.{length, length-append}
use Rattle.num_whole.specs.Tests.{less, up_to, pick, between}
use Rattle.num_whole.specs.Answer.{Judged, good, bad}
use Rattle.num_whole.proofs.Cases.{by_cases, not_less, less_true}
use Rattle.byte_words.specs.Words.{word}
use Rattle.byte_words.proofs.Words.{word_within}
use Rattle.byte_section.specs.Section.{Kind, Run, and_then, count_at, judged_at, records, section_at}
use Rattle.byte_section.proofs.Walk.{not_bad, then_good, then_read, counted, records_next}
use Rattle.byte_section.proofs.Chains.{then_same}
use Rattle.byte_section.proofs.Prefix.{Local}

-- two that are read alike, and do the same with what was read
then_by : {A B : Type 0} (j k : Judged A) (f g : A → Judged B) → j ≡ k → ((a : A) → f a ≡ g a) → and_then j f ≡ and_then k g
then_by j k f g e h = rw e (then_same k f g (λ a d. h a))

-- ---- the bytes stand there
module _ (s t : List ℕ) where
  room : (at k : ℕ) → 0 < k → at + k ≤ length s → (less (length (s ++ t) - at) k ≡ false) × (less (length s - at) k ≡ false)
  room at k some h = (not_less _ _ (rw length-append (omega arith)), not_less _ _ (omega arith))

  pub count_front : (at low high : ℕ) → at + 4 ≤ length s → count_at (s ++ t) at low high ≡ count_at s at low high
  unfolding count_at pick
  count_front at low high h = let r = room at 4 (omega arith) h in simp (r.0, r.1, word_within 4 s t at h)

  module _ {A : Type 0} (K : Kind A) (local : Local K) where
    judged_front : (at floor : ℕ) → at + K.size ≤ length s → judged_at K (s ++ t) at floor ≡ judged_at K s at floor
    unfolding judged_at pick
    judged_front at floor h =
        let r = room at K.size local.some h in
        simp (r.0, r.1, local.decoded s t at h, local.allowed s t at h)

    records_front : (n at floor : ℕ) → at + n * K.size ≤ length s → records K (s ++ t) n at floor ≡ records K s n at floor
    unfolding records
    records_front zero at floor h = refl
    records_front (suc n) at floor h =
        then_by _ _ _ _ (judged_front at floor (omega (arith, suc-mul n K.size))) λ a.
        then_by _ _ _ _ (records_front n (at + K.size) (K.after a) (omega (arith, suc-mul n K.size))) λ r. refl

    pub section_front : (low high at : ℕ) (r : Run A) → section_at K (s ++ t) low high at ≡ good r → r.next ≤ length s → section_at K s low high at ≡ good r
    unfolding section_at
    section_front low high at r e h =
        let c = then_read _ _ _ e in
        let n = records_next K (s ++ t) c.0 (at + 4) 0 r c.2 in
        then_good _ _ (sym (count_front at low high (omega (arith, n.0))) ∙ c.1)
        ∙ sym (records_front c.0 (at + 4) 0 (omega (arith, n.0))) ∙ c.2

-- ---- 1: the bytes end before what is read does, and the place is their number
bad_other : {A : Type 0} (n m p q : ℕ) → ◌≡◌ {A = Judged A} (bad n p) (bad m q) → n ≡ m
bad_other n m p q e = cc

bad_place : {A : Type 0} (n m p q : ℕ) → ◌≡◌ {A = Judged A} (bad n p) (bad m q) → p ≡ q
bad_place n m p q e = cc

-- one after another: the first is short, or the second is
pub then_short : {A B : Type 0} {Z : Type 0} (j : Judged A) (f : A → Judged B) (place : ℕ) → (j ≡ bad 1 place → Z)
    → ((a : A) → j ≡ good a → f a ≡ bad 1 place → Z) → and_then j f ≡ bad 1 place → Z
unfolding and_then
then_short (good a) f place x y e = y a refl e
then_short {B = B} (bad n p) f place x y e =
    let one : n ≡ 1 = bad_other {A = B} n 1 p place e in
    let two : p ≡ place = cc in
    x (rw (one, two))

-- fewer bytes than n, and the place is their number
pub record Short (s : List ℕ) (place n : ℕ) : Type 0 where
  pub few : length s < n
  pub here : place ≡ length s

module _ (s : List ℕ) (place : ℕ) where
  pub count_short : (at low high : ℕ) → count_at s at low high ≡ bad 1 place → Short s place (at + 4)
  unfolding count_at pick
  count_short at low high e =
      by_cases (less (length s - at) 4)
      (λ f. record { few = omega (arith, less_true _ _ f); here = sym (bad_place {A = ℕ} 1 1 (length s) place (rw f at e)) })
      (λ f. by_cases (between low (word 4 s at) high)
      (λ g. absurd (not_bad (rw (f, g) at e)))
      (λ g. absurd (let z = bad_other {A = ℕ} 2 1 at place (rw (f, g) at e) in omega arith)))

  module _ {A : Type 0} (K : Kind A) where
    judged_short : (at floor : ℕ) → judged_at K s at floor ≡ bad 1 place → Short s place (at + K.size)
    unfolding judged_at pick
    judged_short at floor e =
        by_cases (less (length s - at) K.size)
        (λ f. record { few = omega (arith, less_true _ _ f); here = sym (bad_place {A = A} 1 1 (length s) place (rw f at e)) })
        (λ f. by_cases (K.fields_ok s at)
        (λ g. by_cases (up_to floor (K.key (K.decode s at)))
        (λ h. absurd (not_bad (rw (f, g, h) at e)))
        (λ h. absurd (let z = bad_other {A = A} 5 1 at place (rw (f, g, h) at e) in omega arith)))
        (λ g. absurd (let z = bad_other {A = A} 4 1 at place (rw (f, g) at e) in omega arith)))

    all_short : (n at floor : ℕ) → records K s n at floor ≡ bad 1 place → Short s place (at + n * K.size)
    unfolding records
    all_short zero at floor e = absurd (not_bad e)
    all_short (suc n) at floor e =
        then_short _ _ place
        (λ f. let x = judged_short at floor f in record { few = omega (arith, x.few, suc-mul n K.size); here = x.here })
        (λ a f. then_short _ _ place
        (λ g. let x = all_short n (at + K.size) (K.after a) g in record { few = omega (arith, x.few, suc-mul n K.size); here = x.here })
        (λ r g h. absurd (not_bad h)))
        e

    pub section_short : (low high at : ℕ) → section_at K s low high at ≡ bad 1 place → (n : ℕ) × ((n ≤ high) × Short s place (at + 4 + n * K.size))
    unfolding section_at
    section_short low high at e =
        then_short _ _ place
        (λ f. let x = count_short at low high f in (0, (omega arith, record { few = omega (arith, x.few, zero-mul K.size); here = x.here })))
        (λ n f g. (n, ((counted s at low high n f).to, all_short n (at + 4) 0 g)))
        e

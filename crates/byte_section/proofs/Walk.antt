-- A section read record by record, with the code's count upwards: what is left at each turn; and how one part follows another.
-- Assumes nothing.
use Prim.Native.Nat.{ℕ, zero, suc, ◌+◌, ◌-◌, ◌*◌, ◌≤◌, ◌<◌, zero-le}
use mathlib.Core.Path.{◌≡◌, refl, sym, ap, ◌∙◌, subst}
use mathlib.Core.List.{List, [], ◌∷◌}
use mathlib.Core.Bool.{Bool, true, false}
use native.Mathlib.Omega.{arith}
use native.Mathlib.Nat.{suc-mul}
use lib.ListN.{length}
use Rattle.num_whole.specs.Tests.{less, pick}
use Rattle.num_whole.specs.Answer.{Judged, good, bad}
use Rattle.num_whole.proofs.Cases.{yes, no, by_cases, not_less, is_up_to, less_false, up_to_true, between_true}
use Rattle.byte_words.specs.Words.{word}
use Rattle.byte_section.specs.Section.{Kind, Run, and_then, count_at, judged_at, records}

-- good is not bad
abbrev is_good : {A : Type 0} → Judged A → Type 0
is_good (good a) = Unit {0}
is_good (bad number place) = ⊥

pub not_bad : {A : Type 0} {a : A} {number place : ℕ} → good a ≡ bad number place → ⊥
not_bad e = subst is_good e tt

pub good_same : {A : Type 0} {a b : A} → good a ≡ good b → a ≡ b
good_same e = cc

-- by what a reading comes to
pub by_judged : {A B : Type 0} (j : Judged B) → ((x : B) → j ≡ good x → A) → ((number place : ℕ) → j ≡ bad number place → A) → A
by_judged (good x) f g = f x refl
by_judged (bad number place) f g = g number place refl

-- ---- one part after another
module _ {A B : Type 0} (j : Judged A) (f : A → Judged B) where
  pub then_good : {a : A} → j ≡ good a → and_then j f ≡ f a
  unfolding and_then
  then_good e = rw e

  pub then_bad : {number place : ℕ} → j ≡ bad number place → and_then j f ≡ bad number place
  unfolding and_then
  then_bad e = rw e

-- what was read in the end was read in each part
pub then_read : {A B : Type 0} (j : Judged A) (f : A → Judged B) (b : B) → and_then j f ≡ good b → (a : A) × (j ≡ good a) × (f a ≡ good b)
unfolding and_then
then_read (good a) f b e = (a, refl, e)
then_read (bad number place) f b e = absurd (not_bad (sym e))

-- ---- a choice that was read
pub pick_read : {A : Type 0} (t : Bool) (number place : ℕ) (x : Judged A) (a : A) → pick t (bad number place) x ≡ good a → (t ≡ false) × (x ≡ good a)
unfolding pick
pick_read true number place x a e = absurd (not_bad (sym e))
pick_read false number place x a e = (refl, e)

pub pick_kept : {A : Type 0} (t : Bool) (number place : ℕ) (x : Judged A) (a : A) → pick t x (bad number place) ≡ good a → (t ≡ true) × (x ≡ good a)
unfolding pick
pick_kept true number place x a e = (refl, e)
pick_kept false number place x a e = absurd (not_bad (sym e))

-- ---- a count
-- one that was read is whole, is what stands there, and is allowed
pub record Counted (s : List ℕ) (at low high n : ℕ) : Type 0 where
  pub whole : 4 ≤ length s - at
  pub is : word 4 s at ≡ n
  pub from : low ≤ n
  pub to : n ≤ high

pub counted : (s : List ℕ) (at low high n : ℕ) → count_at s at low high ≡ good n → Counted s at low high n
unfolding count_at
counted s at low high n e =
    let a = pick_read _ _ _ _ _ e in
    let b = pick_kept _ _ _ _ _ a.1 in
    let same : word 4 s at ≡ n = good_same b.1 in
    let range = between_true _ _ _ b.0 in
    record { whole = less_false _ _ a.0; is = same; from = omega arith; to = omega arith }

module _ {A : Type 0} (K : Kind A) (s : List ℕ) where
  -- ---- one record that was read
  pub record Read (at floor : ℕ) (a : A) : Type 0 where
    pub whole : K.size ≤ length s - at
    pub is : K.decode s at ≡ a
    pub ok : K.fields_ok s at ≡ true
    pub up : floor ≤ K.key a

  pub judged_read : (at floor : ℕ) (a : A) → judged_at K s at floor ≡ good a → Read at floor a
  unfolding judged_at
  judged_read at floor a e =
      let p = pick_read _ _ _ _ _ e in
      let q = pick_kept _ _ _ _ _ p.1 in
      let r = pick_kept _ _ _ _ _ q.1 in
      let same : K.decode s at ≡ a = good_same r.1 in
      record { whole = less_false _ _ p.0; is = same; ok = q.0; up = rw same at (up_to_true _ _ r.0) }

  -- ---- the loop: n records, i of them done
  module _ (n i at floor : ℕ) where
    pub records_end : n ≤ i → records K s (n - i) at floor ≡ good (record { items = []; next = at })
    unfolding records
    records_end e = let z : n - i ≡ zero = omega arith in rw z

    module _ (more : i < n) where
      one_less : n - i ≡ suc (n - (i + 1))
      one_less = omega arith

      pub records_good : (a : A) → judged_at K s at floor ≡ good a
          → records K s (n - i) at floor
          ≡ and_then (records K s (n - (i + 1)) (at + K.size) (K.after a)) (λ r. good (record { items = a ∷ r.items; next = r.next }))
      unfolding records and_then
      records_good a e = rw (one_less, e)

      pub records_bad : (number place : ℕ) → judged_at K s at floor ≡ bad number place
          → records K s (n - i) at floor ≡ bad number place
      unfolding records and_then
      records_bad number place e = rw (one_less, e)

  -- ---- where the records end, and how many there are
  pub records_next : (n at floor : ℕ) (r : Run A) → records K s n at floor ≡ good r → (r.next ≡ at + n * K.size) × (length r.items ≡ n)
  unfolding records
  records_next zero at floor r e = let same = good_same e in (omega (arith, ap (λ x. x.next) same), sym (ap (λ x. length x.items) same))
  records_next (suc n) at floor r e =
      let one = then_read _ _ _ e in
      let rest = then_read _ _ _ one.2 in
      let ih = records_next n (at + K.size) (K.after one.0) rest.0 rest.1 in
      let same = good_same rest.2 in
      (omega (arith, ap (λ x. x.next) same, suc-mul n K.size), sym (ap (λ x. length x.items) same) ∙ ap suc ih.1)

  -- and they end within the bytes
  pub records_within : (n at floor : ℕ) (r : Run A) → at ≤ length s → records K s n at floor ≡ good r → at + n * K.size ≤ length s
  unfolding records
  records_within zero at floor r h e = omega arith
  records_within (suc n) at floor r h e =
      let one = then_read _ _ _ e in
      let rest = then_read _ _ _ one.2 in
      let here = (judged_read at floor one.0 one.1).whole in
      omega (arith, records_within n (at + K.size) (K.after one.0) rest.0 (omega arith) rest.1, suc-mul n K.size)

  -- ---- a kind with no limits and no order is judged by its length alone
  module _ (free : (at : ℕ) → K.fields_ok s at ≡ true) (flat : (a : A) → K.after a ≡ 0) where
    here : (at : ℕ) → K.size ≤ length s - at → judged_at K s at 0 ≡ good (K.decode s at)
    unfolding judged_at
    here at h = sym (no _ _ _ (not_less _ _ h) (yes _ _ _ (free at) (yes _ _ _ (is_up_to _ _ zero-le) refl)))

    pub records_short : (n at : ℕ) → at ≤ length s → length s < at + n * K.size → records K s n at 0 ≡ bad 1 (length s)
    unfolding records judged_at
    records_short zero at h l = absurd (omega arith)
    records_short (suc n) at h l =
        by_cases (less (length s - at) K.size)
        (λ t. then_bad _ _ (sym (yes _ _ _ t refl)))
        (λ t. let room : K.size ≤ length s - at = less_false _ _ t in
        then_good _ _ (here at room)
        ∙ then_bad _ _ (rw (flat (K.decode s at)) (records_short n (at + K.size) (omega arith) (omega (arith, suc-mul n K.size)))))

    pub records_room : (n at : ℕ) → at + n * K.size ≤ length s → (r : Run A) × (records K s n at 0 ≡ good r)
    unfolding records
    records_room zero at h = (record { items = []; next = at }, refl)
    records_room (suc n) at h =
        let rest = records_room n (at + K.size) (omega (arith, suc-mul n K.size)) in
        let room : K.size ≤ length s - at = omega (arith, suc-mul n K.size) in (
          record { items = K.decode s at ∷ rest.0.items; next = rest.0.next },
          then_good _ _ (here at room) ∙ then_good _ _ (rw (flat (K.decode s at)) rest.1),
        )

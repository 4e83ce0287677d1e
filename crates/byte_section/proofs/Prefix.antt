-- What is read of a beginning stays: a count, a record, records and a section that are good in s are the same good in s ++ t, and a
-- refusal of s other than 1 is the same refusal, at the same place, of s ++ t. Refusal 1 alone depends on what follows.
-- Assumes nothing.
use Prim.Native.Nat.{ℕ, zero, suc, ◌+◌, ◌-◌, ◌≤◌, ◌<◌}
use mathlib.Core.Path.{◌≡◌, refl, sym, ap, ◌∙◌}
use mathlib.Core.List.{List, ◌++◌}
use mathlib.Core.Bool.{true, false}
use native.Mathlib.Omega.{arith}
use lib.ListN.{length, take, length-append}
use Rattle.num_whole.specs.Tests.{less, pick}
use Rattle.num_whole.specs.Answer.{Judged, good, bad}
use Rattle.num_whole.proofs.Cases.{yes, no, by_cases, is_less, not_less, less_true, less_false}
use Rattle.byte_words.proofs.Words.{word_within}
use Rattle.byte_section.specs.Section.{Kind, Run, and_then, count_at, judged_at, records, section_at, closed}
use Rattle.byte_section.proofs.Walk.{not_bad, good_same, then_good, then_bad}
use Rattle.byte_section.proofs.Read.{records_first}

bad_number : {A : Type 0} {n m p q : ℕ} → ◌≡◌ {A = Judged A} (bad n p) (bad m q) → n ≡ m
bad_number e = cc

-- ---- an answer x, and the answer y when more follows
-- a refusal other than 1 is kept
abbrev pub Kept : {A : Type 0} → Judged A → Judged A → Type 0
Kept x y = (number place : ℕ) → x ≡ bad number place → (number ≡ 1 → ⊥) → y ≡ bad number place

-- and so is what was read
pub record Stays {A : Type 0} (x y : Judged A) : Type 0 where
  pub same : (a : A) → x ≡ good a → y ≡ good a
  pub kept : Kept x y

module _ {A : Type 0} {x y : Judged A} where
  pub stays_equal : y ≡ x → Stays x y
  stays_equal e = record { same = λ a h. e ∙ h; kept = λ number place h other. e ∙ h }

  pub stays_cut : {place : ℕ} → x ≡ bad 1 place → Stays x y
  stays_cut e =
      record {
        same = λ a h. absurd (not_bad (sym h ∙ e));
        kept = λ number place h other. absurd (other (bad_number (sym h ∙ e)));
      }

-- ---- one part after another: if each part has the property, the chain has it
module _ {A B : Type 0} where
  -- of the refusals alone: the last part of a chain may read more
  pub then_kept : (j k : Judged A) (f g : A → Judged B) → Stays j k → ((a : A) → Kept (f a) (g a)) → Kept (and_then j f) (and_then k g)
  unfolding and_then
  then_kept (good a) k f g p q number place h other = then_good k g (p.same a refl) ∙ q a number place h other
  then_kept (bad n m) k f g p q number place h other = then_bad k g (p.kept n m refl (λ e. other (sym (bad_number h) ∙ e))) ∙ h

  then_same : (j k : Judged A) (f g : A → Judged B) → Stays j k → ((a : A) → Stays (f a) (g a)) → (b : B) → and_then j f ≡ good b → and_then k g ≡ good b
  unfolding and_then
  then_same (good a) k f g p q b h = then_good k g (p.same a refl) ∙ (q a).same b h
  then_same (bad n m) k f g p q b h = absurd (not_bad (sym h))

  pub then_stays : (j k : Judged A) (f g : A → Judged B) → Stays j k → ((a : A) → Stays (f a) (g a)) → Stays (and_then j f) (and_then k g)
  then_stays j k f g p q = record { same = then_same j k f g p q; kept = then_kept j k f g p (λ a. (q a).kept) }

-- ---- what a kind reads, it reads of its own bytes alone
pub record Local {A : Type 0} (K : Kind A) : Type 0 where
  pub some : 0 < K.size
  pub decoded : (s t : List ℕ) (at : ℕ) → at + K.size ≤ length s → K.decode (s ++ t) at ≡ K.decode s at
  pub allowed : (s t : List ℕ) (at : ℕ) → at + K.size ≤ length s → K.fields_ok (s ++ t) at ≡ K.fields_ok s at

module _ (s t : List ℕ) where
  -- bytes that are there are there when more follow
  longer : (at k : ℕ) → k ≤ length s - at → less (length (s ++ t) - at) k ≡ false
  longer at k h = not_less _ _ (rw length-append (omega arith))

  pub count_stays : (at low high : ℕ) → Stays (count_at s at low high) (count_at (s ++ t) at low high)
  unfolding count_at pick
  count_stays at low high =
      by_cases (less (length s - at) 4)
      (λ e. stays_cut (sym (yes _ _ _ e refl)))
      (λ e. let h : 4 ≤ length s - at = less_false _ _ e in
      stays_equal (simp (e, longer at 4 h, word_within 4 s t at (omega arith))))

  -- after the last section: 3 is kept
  pub closed_kept : {A : Type 0} (at : ℕ) (a : A) → Kept (closed s at a) (closed (s ++ t) at a)
  unfolding closed
  closed_kept at a number place h other =
      by_cases (less at (length s))
      (λ e. let l : at < length s = less_true _ _ e in
      let m : less at (length (s ++ t)) ≡ true = is_less _ _ (rw length-append (omega arith)) in
      sym (yes _ _ _ m refl) ∙ yes _ _ _ e refl ∙ h)
      (λ e. absurd (not_bad (no _ _ _ e refl ∙ h)))

  module _ {A : Type 0} (K : Kind A) (local : Local K) where
    pub judged_stays : (at floor : ℕ) → Stays (judged_at K s at floor) (judged_at K (s ++ t) at floor)
    unfolding judged_at pick
    judged_stays at floor =
        by_cases (less (length s - at) K.size)
        (λ e. stays_cut (sym (yes _ _ _ e refl)))
        (λ e. let h : K.size ≤ length s - at = less_false _ _ e in
        let room : at + K.size ≤ length s = omega (arith, local.some) in
        stays_equal (simp (e, longer at K.size h, local.decoded s t at room, local.allowed s t at room)))

    -- n records: with any smaller n these are the ones before a cut
    pub records_stay : (n at floor : ℕ) → Stays (records K s n at floor) (records K (s ++ t) n at floor)
    unfolding records
    records_stay zero at floor = stays_equal refl
    records_stay (suc n) at floor =
        then_stays _ _ _ _ (judged_stays at floor) λ a.
        then_stays _ _ _ _ (records_stay n (at + K.size) (K.after a)) λ r. stays_equal refl

    pub section_stays : (low high at : ℕ) → Stays (section_at K s low high at) (section_at K (s ++ t) low high at)
    unfolding section_at
    section_stays low high at = then_stays _ _ _ _ (count_stays at low high) λ n. records_stay n (at + 4) 0

    -- of records that are cut off, the j before the cut are the first j of all
    pub cut_same : (j k at floor : ℕ) (r w : Run A) → records K s j at floor ≡ good r → records K (s ++ t) (j + k) at floor ≡ good w
        → r.items ≡ take j w.items
    cut_same j k at floor r w e f =
        ap (λ x. x.items) (good_same (sym ((records_stay j at floor).same r e) ∙ records_first K (s ++ t) j k at floor w f))

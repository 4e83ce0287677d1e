-- "what is read of a beginning stays": the sections that are read of the beginning of an arc file are those of the whole, and a refusal
-- of the beginning other than 1 is the refusal of the whole.
-- Assumes nothing.
use Prim.Native.Nat.{ℕ, ◌+◌}
use mathlib.Core.Path.{◌≡◌, sym, ◌∙◌}
use mathlib.Core.List.{List, ◌++◌}
use lib.ListN.{length, take}
use Rattle.num_whole.specs.Tests.{same}
use Rattle.num_whole.specs.Answer.{good, bad}
use Rattle.num_whole.proofs.Cases.{by_cases, same_true, same_false}
use Rattle.byte_section.specs.Section.{Kind, Run, section_at, records}
use Rattle.byte_section.proofs.Prefix.{Local, then_kept, closed_kept, records_stay, section_stays, cut_same}
use Rattle.byte_section.proofs.Walk.{not_bad}
use Rattle.arc_kinds.specs.Kinds.{settings_kind, label_kind, station_kind, record_kind}
use Rattle.arc_kinds.proofs.Local.{settings_local, label_local, station_local, record_local}
use Rattle.arc_read.specs.Arc.{Arc, read_arc}

-- ---- the whole file
-- "what is read of a beginning stays": a refusal other than 1 is the refusal of every longer list
pub refusal_stays : (s : List ℕ) (number place : ℕ) → read_arc s ≡ bad number place → (number ≡ 1 → ⊥) → (t : List ℕ) → read_arc (s ++ t) ≡ bad number place
unfolding read_arc
refusal_stays s number place e other t =
    then_kept _ _ _ _ (section_stays s t settings_kind settings_local 1 1 0)
    (λ a. then_kept _ _ _ _ (section_stays s t label_kind label_local 1 50 a.next)
    (λ b. then_kept _ _ _ _ (section_stays s t station_kind station_local 0 16 b.next)
    (λ c. then_kept _ _ _ _ (section_stays s t (record_kind (length b.items)) (record_local (length b.items)) 0 65535 c.next)
    (λ d. closed_kept s t d.next _))))
    number place e other

-- so the beginning of a file that is read is read, or refused with 1
pub cut_refused : (s t : List ℕ) (a : Arc) (number place : ℕ) → read_arc (s ++ t) ≡ good a → read_arc s ≡ bad number place → number ≡ 1
cut_refused s t a number place e f =
    by_cases (same number 1)
    (λ b. same_true number 1 b)
    (λ b. absurd (not_bad (sym e ∙ refusal_stays s number place f (same_false number 1 b) t)))

-- ---- its sections
-- a section that is read is the same of every longer list; of one that is cut, the j records before the cut are the same, and are the
-- first j of the whole
pub record SectionStays {A : Type 0} (K : Kind A) : Type 0 where
  pub whole : (s t : List ℕ) (low high at : ℕ) (r : Run A) → section_at K s low high at ≡ good r → section_at K (s ++ t) low high at ≡ good r
  pub before : (s t : List ℕ) (j at floor : ℕ) (r : Run A) → records K s j at floor ≡ good r → records K (s ++ t) j at floor ≡ good r
  pub firsts : (s t : List ℕ) (j k at floor : ℕ) (r w : Run A) → records K s j at floor ≡ good r → records K (s ++ t) (j + k) at floor ≡ good w
      → r.items ≡ take j w.items

one_stays : {A : Type 0} (K : Kind A) → Local K → SectionStays K
one_stays K local =
    record {
      whole = λ s t low high at r. (section_stays s t K local low high at).same r;
      before = λ s t j at floor r. (records_stay s t K local j at floor).same r;
      firsts = λ s t. cut_same s t K local;
    }

-- "what is read of a beginning stays": settings, labels, stations and records
pub sections_stay : SectionStays settings_kind × SectionStays label_kind × SectionStays station_kind × ((p : ℕ) → SectionStays (record_kind p))
sections_stay =
    (one_stays settings_kind settings_local, one_stays label_kind label_local, one_stays station_kind station_local, λ p. one_stays (record_kind p) (record_local p))

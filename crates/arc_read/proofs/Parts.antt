-- The parts of the reading put together are the reading; and what each answer of the code says.
-- Assumes nothing.
use Prim.Native.Nat.{ℕ, zero, suc, ◌+◌, ◌≤◌, ◌<◌}
use mathlib.Core.Path.{◌≡◌, refl, sym, ap, ◌∙◌}
use mathlib.Core.List.{List, [], ◌∷◌}
use native.Mathlib.Omega.{arith}
use lib.ListN.{length}
use Rattle.num_whole.specs.Answer.{Judged, good, bad}
use Rattle.num_whole.proofs.Cases.{yes, no, is_less, not_less}
use Rattle.byte_section.specs.Section.{Kind, Run, and_then, count_at, judged_at, records, section_at, closed}
use Rattle.byte_section.proofs.Walk.{then_good, then_bad, then_read, counted}
use Rattle.byte_section.proofs.Chains.{then_then, then_made, then_same}
use Rattle.arc_limits.specs.declared.Settings.{Settings}
use Rattle.arc_heading.specs.declared.Heading.{Heading}
use Rattle.arc_kinds.specs.Kinds.{settings_kind, label_kind, station_kind}
use Rattle.arc_kinds.specs.Told.{settings_part}
use Rattle.arc_read.specs.Arc.{heading_of, read_arc}
use Rattle.arc_sections.specs.Sections.{labels_in, labels_from, labels_part, stations_in, stations_from, stations_part, records_part}
use Rattle.arc_front.specs.Parts.{heading_part}
use Rattle.arc_read.specs.Parts.{arc_from}
use Rattle.byte_section.specs.Told.{span_of}
use Rattle.byte_section.specs.declared.Span.{Span}

-- ---- the settings are one record, and end at 16
one_record : (s : List ℕ) {B : Type 0} (f : Run Settings → Judged B)
    → and_then (records settings_kind s (suc zero) 4 0) f ≡ and_then (judged_at settings_kind s 4 0) (λ a. f (record { items = a ∷ []; next = 16 }))
unfolding records
one_record s f = ap (λ j. and_then j f) (then_same _ _ (λ a. good (record { items = a ∷ []; next = 16 })) (λ a e. then_good _ _ refl)) ∙ then_made _ _ _

pub settings_first : (s : List ℕ) {B : Type 0} (f : Run Settings → Judged B)
    → and_then (section_at settings_kind s 1 1 0) f ≡ and_then (settings_part s) (λ a. f (record { items = a ∷ []; next = 16 }))
unfolding section_at settings_part
settings_first s f =
    then_then _ _ _
    ∙ then_same _ _ _ (λ n e. let c = counted s 0 1 1 n e in let one : n ≡ suc zero = omega arith in rw one (one_record s f))
    ∙ sym (then_then _ _ _)

-- ---- a section, put as f puts it
pub slots_first : {A C B : Type 0} (K : Kind A) (s : List ℕ) (low most at : ℕ) (f : Run A → C) (g : C → Judged B)
    → and_then (section_at K s low most at) (λ r. g (f r))
    ≡ and_then (and_then (count_at s at low most) (λ n. and_then (records K s n (at + 4) 0) (λ r. good (f r)))) g
unfolding section_at
slots_first K s low most at f g =
    then_then _ _ _
    ∙ then_same _ _ _ (λ n e. sym (then_made _ _ _))
    ∙ sym (then_then _ _ _)

-- ---- a part after three
pub after_three : {A B C D E : Type 0} (j : Judged A) (k : A → Judged B) (m : A → B → Judged C) (f : A → B → C → D) (g : D → Judged E)
    → and_then j (λ a. and_then (k a) (λ b. and_then (m a b) (λ c. g (f a b c))))
    ≡ and_then (and_then j (λ a. and_then (k a) (λ b. and_then (m a b) (λ c. good (f a b c))))) g
after_three j k m f g =
    sym (then_then _ _ _ ∙ then_same _ _ _ (λ a e. then_then _ _ _ ∙ then_same _ _ _ (λ b e. then_made _ _ _)))

-- ---- the reading
pub read_parts : (s : List ℕ) → read_arc s ≡ and_then (heading_part s) (λ p. arc_from s p.next p.heading)
unfolding read_arc heading_part heading_of arc_from labels_part labels_from stations_part stations_from records_part span_of
read_parts s =
    settings_first s _
    ∙ then_same _ _ _ (λ a e. slots_first label_kind s 1 50 16 labels_in _
    ∙ then_same _ _ _ (λ b e. slots_first station_kind s 0 16 b.next stations_in _
    ∙ then_same _ _ _ (λ c e. sym (then_made _ _ _))))
    ∙ after_three _ _ _ _ _

-- ---- what follows a heading
module _ (s : List ℕ) (at : ℕ) (h : Heading) (d : Span) (e : records_part s at h.parameters ≡ good d) where
  pub rest_surplus : d.next < length s → bad 3 d.next ≡ arc_from s at h
  unfolding arc_from closed
  rest_surplus more = yes _ _ _ (is_less _ _ more) refl ∙ sym (then_good _ _ e)

  pub rest_read : length s ≤ d.next → good (record { heading = h; count = d.count; start = at + 4 }) ≡ arc_from s at h
  unfolding arc_from closed
  rest_read end = no _ _ _ (not_less _ _ end) refl ∙ sym (then_good _ _ e)

-- the count of its records stands in the bytes
pub rest_start : (s : List ℕ) (at p : ℕ) (d : Span) → records_part s at p ≡ good d → at + 4 ≤ length s
unfolding records_part span_of section_at
rest_start s at p d e =
    let r = then_read _ _ _ e in
    let n = then_read _ _ _ r.1 in
    omega (arith, (counted s at 0 65535 n.0 n.1).whole)

pub rest_refused : (s : List ℕ) (at : ℕ) (h : Heading) {number place : ℕ} → records_part s at h.parameters ≡ bad number place
    → bad number place ≡ arc_from s at h
unfolding arc_from
rest_refused s at h e = sym (then_bad _ _ e)

-- What opens a file: it stays when more follows, it is read of its own bytes alone, and with the number of bytes it is all that reading the
-- file says.
-- Assumes nothing.
use Prim.Native.Nat.{ℕ, ◌+◌, ◌-◌, ◌≤◌}
use mathlib.Core.Path.{◌≡◌, refl, sym, ap, ap₂, ◌∙◌}
use mathlib.Core.List.{List, ◌++◌}
use native.Mathlib.Omega.{arith}
use lib.ListN.{length, get_or, take, drop, take-append-drop}
use lib.Seq.{length-take-le}
use Rattle.num_limits.specs.Capacities.{parameters_most, stations_most, records_most}
use Rattle.num_whole.specs.Tests.{less, pick}
use Rattle.num_whole.specs.Answer.{good, bad}
use Rattle.num_whole.proofs.Cases.{yes, no, by_cases, less_true, less_false}
use Rattle.byte_section.specs.Section.{Kind, and_then, records, section_at, closed}
use Rattle.byte_section.proofs.Walk.{good_same, then_good, then_bad, then_read, counted, records_next, records_room, records_short}
use Rattle.byte_section.proofs.Chains.{then_then, then_made, then_same}
use Rattle.byte_section.proofs.Read.{section_read}
use Rattle.byte_section.proofs.Prefix.{Stays, stays_equal, then_stays, count_stays, section_stays}
use Rattle.byte_section.proofs.Fronts.{count_front, section_front}
use Rattle.arc_kinds.specs.Kinds.{settings_kind, label_kind, station_kind, record_kind}
use Rattle.arc_kinds.proofs.Local.{settings_local, label_local, station_local}
use Rattle.arc_limits.specs.Limits.{no_settings}
use Rattle.arc_heading.specs.declared.Heading.{Heading}
use Rattle.arc_read.specs.Arc.{heading_of, Arc, read_arc}
use Rattle.part_laws.specs.Beginning.{opened, ends_at, closed_at}

-- ---- what opens a file
-- it stays when more follows
pub opened_stays : (s t : List ℕ) → Stays (opened s) (opened (s ++ t))
unfolding opened
opened_stays s t =
    then_stays _ _ _ _ (section_stays s t settings_kind settings_local 1 1 0) λ a.
    then_stays _ _ _ _ (section_stays s t label_kind label_local 1 parameters_most a.next) λ b.
    then_stays _ _ _ _ (section_stays s t station_kind station_local 0 stations_most b.next) λ c.
    then_stays _ _ _ _ (count_stays s t c.next 0 records_most) λ n. stays_equal refl

-- its bytes stand there
pub opened_within : (s : List ℕ) (a : Arc) → opened s ≡ good a → a.start ≤ length s
unfolding opened
opened_within s a e =
    let p = then_read _ _ _ e in
    let q = then_read _ _ _ p.2 in
    let r = then_read _ _ _ q.2 in
    let t = then_read _ _ _ r.2 in
    omega (arith, (counted s r.0.next 0 records_most t.0 t.1).whole, ap (λ x. x.start) (good_same t.2))

-- and are all that is read
pub opened_of : (s t : List ℕ) (a : Arc) → opened (s ++ t) ≡ good a → a.start ≤ length s → opened s ≡ good a
unfolding opened
opened_of s t a e h =
    let p = then_read _ _ _ e in
    let q = then_read _ _ _ p.2 in
    let r = then_read _ _ _ q.2 in
    let n = then_read _ _ _ r.2 in
    let two = (section_read label_kind (s ++ t) 1 parameters_most p.0.next q.0 q.1).next in
    let three = (section_read station_kind (s ++ t) 0 stations_most q.0.next r.0 r.1).next in
    let end : r.0.next + 4 ≤ length s = omega (arith, ap (λ x. x.start) (good_same n.2)) in
    then_good _ _ (section_front s t settings_kind settings_local 1 1 0 p.0 p.1 (omega arith))
    ∙ then_good _ _ (section_front s t label_kind label_local 1 parameters_most p.0.next q.0 q.1 (omega arith))
    ∙ then_good _ _ (section_front s t station_kind station_local 0 stations_most q.0.next r.0 r.1 (omega arith))
    ∙ then_good _ _ (sym (count_front s t r.0.next 0 records_most end) ∙ n.1)
    ∙ n.2

-- so whatever follows them
pub opened_again : (s t : List ℕ) (a : Arc) → opened s ≡ good a → opened (take a.start s ++ t) ≡ good a
opened_again s t a e =
    let h = opened_within s a e in
    (opened_stays (take a.start s) t).same a
    (opened_of (take a.start s) (drop a.start s) a (rw take-append-drop e) (rw (length-take-le a.start s h) (omega arith)))

-- ---- with the number of bytes it is all that reading the file says
module _ (s : List ℕ) (h : Heading) (n start : ℕ) (within : start ≤ length s) where
  abbrev K : Kind (List ℕ)
  K = record_kind h.parameters

  abbrev arc : ℕ → Arc
  arc m = record { heading = h; count = m; start = start }

  rest_read : and_then (records K s n start 0) (λ d. closed s d.next (arc (length d.items))) ≡ closed_at (arc n) (length s)
  unfolding closed_at closed
  rest_read =
      by_cases (less (length s) (ends_at (arc n)))
      (λ e. then_bad _ _ (records_short K s (λ at. refl) (λ b. refl) n start within (less_true _ _ e)) ∙ yes _ _ _ e refl)
      (λ e. let r = records_room K s (λ at. refl) (λ b. refl) n start (less_false _ _ e) in
      let x = records_next K s n start 0 r.0 r.1 in
      then_good _ _ r.1
      ∙ ap₂ (λ m k. pick (less m (length s)) (bad 3 m) (good (arc k))) x.0 x.1
      ∙ no _ _ _ e refl)

pub read_opened : (s : List ℕ) → read_arc s ≡ and_then (opened s) (λ a. closed_at a (length s))
unfolding read_arc opened section_at heading_of
read_opened s =
    sym
    (then_then _ _ _ ∙ then_same _ _ _ (λ a e₁.
    then_then _ _ _ ∙ then_same _ _ _ (λ b e₂.
    then_then _ _ _ ∙ then_same _ _ _ (λ c e₃.
    then_made _ _ _ ∙ sym (then_then _ _ _ ∙ then_same _ _ _ (λ n e₄.
    rest_read s (heading_of (get_or a.items 0 no_settings) b.items c.items) n (c.next + 4) (omega (arith, (counted s c.next 0 records_most n e₄).whole))))))))

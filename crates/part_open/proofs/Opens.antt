-- What opens a file, in the parts that the code has: the heading, and the count after it.
-- Assumes nothing.
use Prim.Native.Nat.{ℕ, ◌+◌, ◌≤◌}
use mathlib.Core.Path.{◌≡◌, sym, ◌∙◌}
use mathlib.Core.List.{List}
use native.Mathlib.Omega.{arith}
use lib.ListN.{length}
use Rattle.num_whole.specs.Answer.{Judged, good, bad}
use Rattle.byte_section.specs.Section.{and_then, count_at}
use Rattle.byte_section.proofs.Walk.{then_good, then_bad, counted}
use Rattle.byte_section.proofs.Chains.{then_same}
use Rattle.arc_kinds.specs.Kinds.{label_kind, station_kind}
use Rattle.arc_sections.specs.Sections.{labels_in, labels_from, labels_part, stations_in, stations_from, stations_part}
use Rattle.arc_read.specs.Arc.{Arc, heading_of}
use Rattle.arc_front.specs.Parts.{PlacedHeading, heading_part}
use Rattle.arc_read.proofs.Parts.{settings_first, slots_first, after_three}
use Rattle.part_laws.specs.Beginning.{opened}

abbrev counting : List ℕ → PlacedHeading → Judged Arc
counting s p = and_then (count_at s p.next 0 65535) (λ n. good (record { heading = p.heading; count = n; start = p.next + 4 }))

opened_parts : (s : List ℕ) → opened s ≡ and_then (heading_part s) (counting s)
unfolding opened heading_part heading_of labels_part labels_from stations_part stations_from
opened_parts s =
    settings_first s _
    ∙ then_same _ _ _ (λ a e. slots_first label_kind s 1 50 16 labels_in _
    ∙ then_same _ _ _ (λ b e. slots_first station_kind s 0 16 b.next stations_in _))
    ∙ after_three _ _ _ _ _

module _ (s : List ℕ) (p : PlacedHeading) (e : heading_part s ≡ good p) where
  pub opens : (n : ℕ) → count_at s p.next 0 65535 ≡ good n → good (record { heading = p.heading; count = n; start = p.next + 4 }) ≡ opened s
  opens n f = sym (opened_parts s ∙ then_good _ _ e ∙ then_good _ _ f)

  pub opens_not : (number place : ℕ) → count_at s p.next 0 65535 ≡ bad number place → bad number place ≡ opened s
  opens_not number place f = sym (opened_parts s ∙ then_good _ _ e ∙ then_bad _ _ f)

pub heading_not : (s : List ℕ) (number place : ℕ) → heading_part s ≡ bad number place → bad number place ≡ opened s
heading_not s number place e = sym (opened_parts s ∙ then_bad _ _ e)

pub count_room : (s : List ℕ) (at n : ℕ) → count_at s at 0 65535 ≡ good n → at + 4 ≤ length s
count_room s at n e = omega (arith, (counted s at 0 65535 n e).whole)

pub count_most_lem : (s : List ℕ) (at n : ℕ) → count_at s at 0 65535 ≡ good n → n ≤ 65535
count_most_lem s at n e = (counted s at 0 65535 n e).to

-- The records section is judged by its length alone: nothing walks over the records.
-- Assumes nothing.
use Prim.Native.Nat.{ℕ, ◌+◌, ◌*◌, ◌≤◌, ◌<◌}
use mathlib.Core.Path.{◌≡◌, refl, ◌∙◌}
use mathlib.Core.List.{List}
use native.Mathlib.Omega.{arith}
use native.Mathlib.Nat.{mul-le-mul}
use lib.ListN.{length}
use Rattle.num_whole.specs.Answer.{good, bad}
use Rattle.byte_section.specs.Section.{count_at, section_at}
use Rattle.byte_section.proofs.Walk.{then_good, then_bad, counted, records_next, records_short, records_room}
use Rattle.arc_kinds.specs.Kinds.{record_kind, record_size}
use Rattle.byte_section.specs.Told.{span_of}
use Rattle.arc_sections.specs.Sections.{records_part}

module _ (s : List ℕ) (at p n : ℕ) (e : count_at s at 0 65535 ≡ good n) where
  pub few_bytes : p ≤ 50 → n * record_size p ≤ 8650620
  few_bytes h = let size : record_size p ≤ 132 = omega arith in mul-le-mul (counted s at 0 65535 n e).to size

  pub records_here : at + 4 + n * record_size p ≤ length s → records_part s at p ≡ good (record { count = n; next = at + 4 + n * record_size p })
  unfolding records_part span_of section_at
  records_here room =
      let r = records_room (record_kind p) s (λ at. refl) (λ a. refl) n (at + 4) room in
      let end = records_next (record_kind p) s n (at + 4) 0 r.0 r.1 in
      then_good _ _ (then_good _ _ e ∙ r.1) ∙ rw (end.0, end.1)

  pub records_cut : at + 4 ≤ length s → length s < at + 4 + n * record_size p → records_part s at p ≡ bad 1 (length s)
  unfolding records_part span_of section_at
  records_cut start past =
      then_bad _ _ (then_good _ _ e ∙ records_short (record_kind p) s (λ at. refl) (λ a. refl) n (at + 4) start past)

pub records_refused : (s : List ℕ) (at p : ℕ) {number place : ℕ} → count_at s at 0 65535 ≡ bad number place → records_part s at p ≡ bad number place
unfolding records_part span_of section_at
records_refused s at p e = then_bad _ _ (then_bad _ _ e)

-- A section of records with no limits and no order: its count and its length say where it ends.
-- Assumes nothing.
use Prim.Native.Nat.{ℕ, ◌+◌, ◌-◌, ◌*◌, ◌≤◌}
use mathlib.Core.Path.{◌≡◌, refl, sym, ap, ◌∙◌}
use mathlib.Core.List.{List}
use mathlib.Core.Bool.{true}
use native.Mathlib.Omega.{arith}
use lib.ListN.{length}
use Rattle.num_whole.specs.Tests.{less, pick}
use Rattle.num_whole.specs.Answer.{Judged, good, bad}
use Rattle.num_whole.proofs.Cases.{yes, no, by_cases, less_true, less_false}
use Rattle.byte_section.specs.Section.{Kind, and_then, records, section_at}
use Rattle.byte_section.proofs.Walk.{then_good, then_bad, counted, records_next, records_short, records_room}
use Rattle.byte_section.proofs.Chains.{then_then, then_same}
use Rattle.norm_read.specs.Normal.{exactly}
use Rattle.norm_sections.specs.Sums.{plain_part}

-- ---- a section of such a kind, of which only the place after it is used
module _ {A B : Type 0} (K : Kind A) (s : List ℕ) (free : (at : ℕ) → K.fields_ok s at ≡ true) (flat : (a : A) → K.after a ≡ 0) (g : ℕ → Judged B) where
  plain_records : (n at : ℕ) → at + 4 ≤ length s
      → and_then (records K s n (at + 4) 0) (λ r. g r.next)
      ≡ and_then (pick (less (length s - (at + 4)) (n * K.size)) (bad 1 (length s)) (good (at + 4 + n * K.size))) g
  plain_records n at here =
      by_cases (less (length s - (at + 4)) (n * K.size))
      (λ t. then_bad _ _ (records_short K s free flat n (at + 4) here (omega (arith, less_true _ _ t)))
      ∙ sym (then_bad _ _ (sym (yes _ _ _ t refl))))
      (λ t. let r = records_room K s free flat n (at + 4) (omega (arith, less_false _ _ t)) in
      then_good _ _ r.1 ∙ ap g (records_next K s n (at + 4) 0 r.0 r.1).0 ∙ sym (then_good _ _ (sym (no _ _ _ t refl))))

  pub plain_section : (n at : ℕ) → and_then (exactly K s n at) (λ r. g r.next) ≡ and_then (plain_part s at n K.size) g
  unfolding section_at plain_part
  plain_section n at =
      then_then _ _ _
      ∙ then_same _ _ _ (λ k e. let c = counted s at n n k e in
      let same : k ≡ n = omega (arith, c.from, c.to) in
      rw same (plain_records n at (omega (arith, c.whole))))
      ∙ sym (then_then _ _ _)

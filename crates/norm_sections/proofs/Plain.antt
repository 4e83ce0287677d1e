-- Sections of records with no limits and no order, judged by their count and their length; and the sections of sums one after another.
-- Assumes nothing.
use Prim.Native.Nat.{ℕ, ◌+◌, ◌-◌, ◌*◌, ◌≤◌, ◌<◌}
use mathlib.Core.Path.{◌≡◌, refl, sym, ◌∙◌}
use mathlib.Core.List.{List}
use native.Mathlib.Omega.{arith}
use lib.ListN.{length}
use Rattle.num_whole.specs.Answer.{good, bad}
use Rattle.num_whole.proofs.Cases.{yes, no, is_less, not_less, less_false}
use Rattle.byte_section.specs.Section.{count_at, closed}
use Rattle.byte_section.proofs.Walk.{good_same, then_good, then_bad, then_read, pick_read, counted}
use Rattle.num_packed.specs.Triangle.{tri}
use Rattle.norm_sections.specs.Sums.{plain_part, totals_part, sums_part, Room}
use Rattle.norm_sections.specs.declared.Places.{Places}

-- ---- the tests that the code makes
module _ (s : List ℕ) (at n size : ℕ) where
  pub plain_refused : {number place : ℕ} → count_at s at n n ≡ bad number place → bad number place ≡ plain_part s at n size
  unfolding plain_part
  plain_refused e = sym (then_bad _ _ e)

  module _ (k : ℕ) (e : count_at s at n n ≡ good k) where
    pub plain_short : length s - (at + 4) < n * size → bad 1 (length s) ≡ plain_part s at n size
    unfolding plain_part
    plain_short h = yes _ _ _ (is_less _ _ h) refl ∙ sym (then_good _ _ e)

    pub plain_next : n * size ≤ length s - (at + 4) → good (at + 4 + n * size) ≡ plain_part s at n size
    unfolding plain_part
    plain_next h = no _ _ _ (not_less _ _ h) refl ∙ sym (then_good _ _ e)

  -- where such a section ends
  pub plain_read : (next : ℕ) → plain_part s at n size ≡ good next → (at + 4 + n * size ≡ next) × (next ≤ length s)
  unfolding plain_part
  plain_read next e =
      let c = then_read _ _ _ e in
      let k = counted s at n n c.0 c.1 in
      let p = pick_read _ _ _ _ _ c.2 in
      let same : at + 4 + n * size ≡ next = good_same p.1 in
      (same, omega (arith, less_false _ _ p.0, k.whole))

-- ---- the sums stand within the bytes
pub sums_room : (s : List ℕ) (p at : ℕ) (x : Places) → sums_part s p at ≡ good x → Room (length s) p x
unfolding sums_part totals_part closed
sums_room s p at x e =
    let a = then_read _ _ _ e in
    let b = then_read _ _ _ a.2 in
    let c = then_read _ _ _ b.2 in
    let d = pick_read _ _ _ _ _ c.2 in
    let m = plain_read s at (tri p) 8 a.0 a.1 in
    let r = plain_read s a.0 p 8 b.0 b.1 in
    let t = plain_read s b.0 1 16 c.0 c.1 in
    let same : record { matrix = at + 4; rights = a.0 + 4; totals = b.0 + 4 } ≡ x = good_same d.1 in
    rw (← same) (record {
      matrix = omega (arith, m.0, m.1);
      rights = omega (arith, r.0, r.1);
      totals = omega (arith, t.0, t.1);
    })

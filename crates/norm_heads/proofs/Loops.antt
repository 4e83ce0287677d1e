-- A section's records judged one by one and not kept, with the code's count upwards: what is left at each turn. And what the records of a
-- section are that was read: what stands at their places.
-- Assumes nothing.
use Prim.Native.Nat.{ℕ, zero, suc, ◌+◌, ◌*◌, ◌-◌, ◌≤◌, ◌<◌}
use mathlib.Core.Path.{◌≡◌, sym, ap, ap₂, ◌∙◌}
use mathlib.Core.List.{List, ◌∷◌}
use native.Mathlib.Omega.{arith}
use native.Mathlib.Nat.{sub-zero}
use Rattle.num_whole.specs.Answer.{Judged, good, bad}
use Rattle.byte_section.specs.Section.{Kind, Run, and_then, records}
use Rattle.byte_section.proofs.Walk.{good_same, then_good, then_bad, then_read, judged_read, records_end, records_good, records_bad, records_next}
use Rattle.byte_section.proofs.Chains.{then_made, then_same}
use Rattle.byte_words.specs.Stands.{stands}
use Rattle.byte_section.specs.Told.{span_of}
use Rattle.byte_section.specs.declared.Span.{Span}
use Rattle.norm_kinds.specs.Told.{floor_at}

-- ---- a refusal of a record comes from its judgement
pub then_told : {A B : Type 0} (j : Judged A) (f : A → B) (number place : ℕ) → and_then j (λ a. good (f a)) ≡ bad number place → j ≡ bad number place
unfolding and_then
then_told (good a) f number place e = let z : ◌≡◌ {A = ℕ} 0 1 = cc in absurd (omega arith)
then_told (bad n p) f number place e = cc

-- ---- the loop: n records, of which some are left
unfoldable pub reaching : {A : Type 0} → ℕ → Judged (Run A) → Judged Span
reaching n j = and_then j (λ r. good (record { count = n; next = r.next }))

module _ {A : Type 0} (K : Kind A) (s : List ℕ) where
  pub reach_start : (n start : ℕ) → span_of (records K s n start 0) ≡ reaching n (records K s (n - 0) start 0)
  unfolding span_of reaching
  reach_start n start =
      rw (sub-zero n)
      (then_same _ _ _ (λ r e. ap (λ k. good (record { count = k; next = r.next })) (records_next K s n start 0 r e).1))

  module _ (n i at floor : ℕ) where
    pub reach_end : n ≤ i → reaching n (records K s (n - i) at floor) ≡ good (record { count = n; next = at })
    unfolding reaching
    reach_end e = then_good _ _ (records_end K s n i at floor e)

    module _ (more : i < n) where
      pub reach_good : (next : ℕ) → floor_at K s at floor ≡ good next
          → reaching n (records K s (n - i) at floor) ≡ reaching n (records K s (n - (i + 1)) (at + K.size) next)
      unfolding reaching floor_at
      reach_good next e =
          let a = then_read _ _ _ e in
          let same : K.after a.0 ≡ next = good_same a.2 in
          ap (reaching n) (records_good K s n i at floor more a.0 a.1)
          ∙ then_made _ _ _ ∙ ap (λ f. reaching n (records K s (n - (i + 1)) (at + K.size) f)) same

      pub reach_bad : (number place : ℕ) → floor_at K s at floor ≡ bad number place
          → reaching n (records K s (n - i) at floor) ≡ bad number place
      unfolding reaching floor_at
      reach_bad number place e = then_bad _ _ (records_bad K s n i at floor more number place (then_told _ _ number place e))

  -- all are read, those from a start on
  pub reach_all : (n i start floor : ℕ) → n ≤ i → i ≤ n → reaching n (records K s (n - i) (start + K.size * i) floor) ≡ good (record { count = n; next = start + K.size * n })
  reach_all n i start floor past within =
      let e : i ≡ n = omega arith in
      rw e (reach_end n n (start + K.size * n) floor (omega arith))

  -- ---- what was read is what stands there
  pub records_items : (n at floor : ℕ) (r : Run A) → records K s n at floor ≡ good r → r.items ≡ stands (K.decode s) K.size n at
  unfolding records stands
  records_items zero at floor r e = sym (ap (λ x. x.items) (good_same e))
  records_items (suc n) at floor r e =
      let one = then_read _ _ _ e in
      let rest = then_read _ _ _ one.2 in
      let first = (judged_read K s at floor one.0 one.1).is in
      sym (ap (λ x. x.items) (good_same rest.2))
      ∙ ap₂ (λ x l. x ∷ l) (sym first) (records_items n (at + K.size) (K.after one.0) rest.0 rest.1)

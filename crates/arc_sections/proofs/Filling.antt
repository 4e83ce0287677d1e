-- A section's records put one by one into slots, with the code's count upwards: what is left at each turn, for every kind of record.
-- Assumes nothing.
use Prim.Native.Nat.{ℕ, ◌+◌, ◌-◌, ◌≤◌, ◌<◌}
use mathlib.Core.Path.{◌≡◌, refl, sym, ap, ◌∙◌}
use mathlib.Core.List.{List, ◌++◌, append-nil}
use native.Mathlib.Omega.{arith}
use native.Mathlib.Nat.{sub-zero, zero-add}
use native.Mathlib.Numerals.{add-one}
use lib.ListN.{length, set, take, drop, replicate, length-replicate, length-take}
use lib.Seq.{sets, sets-eq, drop-length}
use Rattle.num_whole.specs.Answer.{Judged, good, bad}
use Rattle.num_whole.specs.Lists.{padded}
use Rattle.num_whole.proofs.Padded.{put_padded}
use Rattle.byte_section.specs.Section.{Kind, Run, and_then, judged_at, records}
use Rattle.byte_section.proofs.Walk.{records_end, records_good, records_bad, records_next}
use Rattle.byte_section.proofs.Chains.{then_made}
use Rattle.arc_sections.specs.Sections.{run_left}

-- what comes of slots of which those from i on are still to be put
unfoldable pub filling : {A : Type 0} → List A → ℕ → Judged (Run A) → Judged (Run A)
filling l i j = and_then j (λ r. good (record { items = sets l i r.items; next = r.next }))

sets_all : {A : Type 0} (l vs : List A) → length vs ≡ length l → sets l 0 vs ≡ vs
sets_all l vs e =
    sets-eq vs l 0 (omega arith)
    ∙ ap (λ k. vs ++ drop k l) (zero-add (length vs) ∙ e)
    ∙ ap (λ r. vs ++ r) (drop-length l)
    ∙ append-nil vs

run_same : {A : Type 0} (j : Judged (Run A)) (f : Run A → Run A) → ((r : Run A) → j ≡ good r → f r ≡ r) → j ≡ and_then j (λ r. good (f r))
unfolding and_then
run_same (good r) f h = ap good (sym (h r refl))
run_same (bad number place) f h = refl

module _ {A : Type 0} (K : Kind A) (s : List ℕ) where
  pub fill_start : (l : List A) (start : ℕ) → records K s (length l) start 0 ≡ filling l 0 (records K s (length l - 0) start 0)
  unfolding filling
  fill_start l start =
      rw (sub-zero (length l))
      (run_same _ (λ r. record { items = sets l 0 r.items; next = r.next })
      (λ r e. ap (λ v. record { items = v; next = r.next }) (sets_all l r.items (records_next K s (length l) start 0 r e).1)))

  module _ (n i at floor : ℕ) (l : List A) where
    pub fill_end : n ≤ i → good (record { items = l; next = at }) ≡ filling l i (records K s (n - i) at floor)
    unfolding filling and_then
    fill_end e = rw (records_end K s n i at floor e)

    module _ (more : i < n) where
      pub fill_good : (a : A) → judged_at K s at floor ≡ good a
          → filling l i (records K s (n - i) at floor)
          ≡ filling (set l i a) (i + 1) (records K s (n - (i + 1)) (at + K.size) (K.after a))
      unfolding filling
      fill_good a e = rw (records_good K s n i at floor more a e, add-one i) (then_made _ _ _)

      pub fill_bad : (number place : ℕ) → judged_at K s at floor ≡ bad number place
          → filling l i (records K s (n - i) at floor) ≡ bad number place
      unfolding filling and_then
      fill_bad number place e = rw (records_bad K s n i at floor more number place e)

  -- ---- the first n slots of an array of one filling, filled
  module _ (n room at : ℕ) (d : A) (l new : List A) (is : l ≡ replicate room d) (few : n ≤ room) where
    pub first_few : (n ≤ length l) × (length (take n l) ≡ n)
    first_few =
        let long : length l ≡ room = ap length is ∙ length-replicate room d in
        (omega arith, omega (arith, length-take n l))

    pub slots_bad : (number place : ℕ) → run_left (bad number place) new ≡ records K s (length (take n l)) at 0
        → records K s n at 0 ≡ bad number place
    unfolding run_left and_then
    slots_bad number place e = sym (e ∙ ap (λ k. records K s k at 0) first_few.1)

    module _ (next : ℕ) (e : run_left (good next) new ≡ records K s (length (take n l)) at 0) where
      pub slots_read : records K s n at 0 ≡ good (record { items = new; next = next })
      unfolding run_left and_then
      slots_read = sym (e ∙ ap (λ k. records K s k at 0) first_few.1)

      pub slots_count : length new ≡ n
      slots_count = (records_next K s n at 0 _ slots_read).1

      pub slots_padded : new ++ drop n l ≡ padded room d new
      slots_padded =
          let fits : 0 + length new ≤ length (replicate room d) = omega (arith, slots_count, length-replicate room d) in
          rw is
          (ap (λ k. new ++ drop k (replicate room d)) (sym (zero-add (length new) ∙ slots_count))
          ∙ sym (sets-eq new (replicate room d) 0 fits)
          ∙ put_padded room d new (omega (arith, slots_count)))

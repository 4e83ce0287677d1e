-- The laws of files handed over in parts: cuts don't matter, one go, bad form, 28.
-- Assumes nothing.
use Prim.Native.Nat.{ℕ, ◌+◌, ◌-◌}
use mathlib.Core.Path.{◌≡◌, refl, sym, ap, ap₂, ◌∙◌}
use mathlib.Core.List.{List, [], ◌∷◌, ◌++◌, append_assoc, append-nil}
use mathlib.Core.Bool.{true, false}
use native.Mathlib.Omega.{arith}
use lib.ListN.{length, length-append}
use Rattle.num_whole.specs.Tests.{same, pick}
use Rattle.num_whole.specs.Answer.{Judged, good, bad}
use Rattle.num_whole.proofs.Cases.{yes, no, by_cases, same_false}
use Rattle.byte_section.specs.Section.{and_then}
use Rattle.byte_section.proofs.Walk.{not_bad, by_judged}
use Rattle.arc_heading.specs.declared.Heading.{Heading}
use Rattle.take_state.specs.State.{State}
use Rattle.take_laws.specs.Machine.{run, answers}
use Rattle.take_laws.specs.Taking.{frame_of, record_answer, record_step}
use Rattle.take_laws.proofs.Trace.{run_append}
use Rattle.take_laws.proofs.Appended.{answers_append}
use Rattle.part_laws.specs.Beginning.{done, left, read_at, opened_heading}
use Rattle.part_laws.specs.Feeding.{Position, so_far, moved, Fed, handed, feed, fed_on, concat, feeds}
use Rattle.part_laws.proofs.Cuts.{after, before, refusal_closes}

-- ---- what is said of the form so far
module _ {A : Type 0} where
  -- a refusal so far is one of the reading, and not 1
  pub so_far_bad : (v : Judged A) (number place : ℕ) → so_far v ≡ bad number place → (v ≡ bad number place) × (number ≡ 1 → ⊥)
  unfolding so_far
  so_far_bad (good a) number place e = absurd (not_bad e)
  so_far_bad (bad k p) number place e =
      by_cases (same k 1)
      (λ f. absurd (not_bad (yes _ _ _ f refl ∙ e)))
      (λ f. let is : ◌≡◌ {A = Judged (Unit {0})} (bad k p) (bad number place) = no _ _ _ f refl ∙ e in
      let one : k ≡ number = cc in
      let two : p ≡ place = cc in
      (rw (one, two), λ z. same_false k 1 f (one ∙ z)))

-- ---- the bytes of a file, and more of them
abbrev made : Judged (Unit {0}) → ℕ → List ℕ → State → List ℕ → Fed
made v n l z w = record { position = moved v n l; state = z; answers = w; verdict = v }

module _ (t : ℕ) (b : List ℕ) (s : State) (m : List ℕ) where
  abbrev ran : Heading → State → List (List ℕ) → State
  ran h z l = run (record_step (frame_of h)) z l

  abbrev told : Heading → State → List (List ℕ) → List ℕ
  told h z l = answers (record_step (frame_of h)) (record_answer (frame_of h)) z l

  -- the records of the first, with the heading of both
  abbrev state₁ : State
  state₁ = ran (opened_heading b) s (done t b)

  abbrev told₁ : List ℕ
  told₁ = told (opened_heading b) s (done t b)

  ran_longer : ran (opened_heading (b ++ m)) s (done t b) ≡ state₁
  unfolding run
  ran_longer = sym (before t b m (λ h l. ran h s l) (λ h k. refl))

  told_longer : told (opened_heading (b ++ m)) s (done t b) ≡ told₁
  unfolding answers
  told_longer = sym (before t b m (λ h l. told h s l) (λ h k. refl))

  abbrev t₁ : ℕ
  t₁ = t + length (done t b)

  abbrev u : List ℕ
  u = left t b ++ m

  -- not refused: the second goes on where the first ended
  on : handed t (b ++ m) s ≡ fed_on (made (good tt) t₁ (left t b) state₁ told₁) (handed t₁ u state₁)
  unfolding and_then
  on =
      let x = after t b m in
      let h = opened_heading (b ++ m) in
      let d = done t₁ u in
      let v = so_far (read_at t₁ u) in
      let number : t + length (done t (b ++ m)) ≡ t₁ + length d =
      ap (λ l. t + length l) x.records ∙ ap (λ n. t + n) (length-append (done t b) d) ∙ omega arith in
      let state : ran h s (done t (b ++ m)) ≡ ran (opened_heading u) state₁ d =
      ap (ran h s) x.records ∙ run_append (record_step (frame_of h)) s (done t b) d ∙ ap₂ (λ k z. ran k z d) x.heading ran_longer in
      let heard : told h s (done t (b ++ m)) ≡ told₁ ++ told (opened_heading u) state₁ d =
      ap (told h s) x.records
      ∙ answers_append (record_step (frame_of h)) (record_answer (frame_of h)) s (done t b) d
      ∙ ap₂ (λ p q. p ++ q) told_longer (ap₂ (λ k z. told k z d) x.heading ran_longer) in
      ap₂ (λ w l. made w (t + length (done t (b ++ m))) l (ran h s (done t (b ++ m))) (told h s (done t (b ++ m)))) (ap so_far x.read) x.rest
      ∙ ap (λ n. made v n (left t₁ u) (ran h s (done t (b ++ m))) (told h s (done t (b ++ m)))) number
      ∙ ap₂ (λ z w. made v (t₁ + length d) (left t₁ u) z w) state heard

  -- refused: nothing of the second is heard
  off : (number place : ℕ) → so_far (read_at t b) ≡ bad number place → handed t (b ++ m) s ≡ made (bad number place) t₁ (left t b) state₁ told₁
  off number place e =
      let r = so_far_bad (read_at t b) number place e in
      let x = refusal_closes t b m number place r.0 r.1 in
      let h = opened_heading (b ++ m) in
      let v : so_far (read_at t (b ++ m)) ≡ bad number place = ap so_far (x.read ∙ sym r.0) ∙ e in
      ap₂ (λ w l. made w (t + length l) (left t (b ++ m)) (ran h s l) (told h s l)) v x.records
      ∙ ap₂ (λ z w. made (bad number place) t₁ (left t b) z w) ran_longer told_longer

  then_more : handed t (b ++ m) s ≡ fed_on (handed t b s) (feed (handed t b s).position (handed t b s).state m)
  unfolding feed pick and_then
  then_more =
      let two : Judged (Unit {0}) → Fed = λ v. fed_on (made v t₁ (left t b) state₁ told₁) (feed (moved v t₁ (left t b)) state₁ m) in
      by_judged (so_far (read_at t b))
      (λ a e. on ∙ ap two (sym e))
      (λ number place e. off number place e ∙ ap (made (bad number place) t₁ (left t b) state₁) (sym (append-nil told₁)) ∙ ap two (sym e))

-- ---- a part, by whether the file is over: 28, and nothing changes
module _ (p : Position) (s : State) (l : List ℕ) where
  pub after_over : p.over ≡ true → feed p s l ≡ record { position = p; state = s; answers = []; verdict = bad 28 0 }
  unfolding feed
  after_over e = sym (yes _ _ _ e refl)

  pub not_over : p.over ≡ false → feed p s l ≡ handed p.taken (p.kept ++ l) s
  unfolding feed
  not_over e = sym (no _ _ _ e refl)

-- ---- cuts don't matter
pub cuts : (p : Position) (s : State) (l m : List ℕ) → feed p s (l ++ m) ≡ fed_on (feed p s l) (feed (feed p s l).position (feed p s l).state m)
unfolding and_then
cuts p s l m =
    by_cases p.over
    (λ e. after_over p s (l ++ m) e
    ∙ ap₂ (λ x y. fed_on x y) (sym (after_over p s l e)) (sym (ap (λ x. feed x.position x.state m) (after_over p s l e) ∙ after_over p s m e)))
    (λ e. not_over p s (l ++ m) e
    ∙ ap (λ x. handed p.taken x s) (sym (append_assoc p.kept l m)) ∙ then_more p.taken (p.kept ++ l) s m
    ∙ ap (λ x. fed_on x (feed x.position x.state m)) (sym (not_over p s l e)))

-- so the parts are what their bytes are as one part
pub parts : (p : Position) (s : State) (l : List ℕ) (ms : List (List ℕ)) → feeds p s l ms ≡ feed p s (l ++ concat ms)
unfolding feeds concat
parts p s l [] = ap (feed p s) (sym (append-nil l))
parts p s l (m ∷ ms) =
    ap (fed_on (feed p s l)) (parts (feed p s l).position (feed p s l).state m ms) ∙ sym (cuts p s l (m ++ concat ms))

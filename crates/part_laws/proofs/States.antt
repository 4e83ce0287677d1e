-- The state at a position: a part leads from one that is not refused with 6 to another.
-- Assumes nothing.
use Prim.Native.Nat.{ℕ, zero, suc, ◌+◌, ◌-◌, ◌≤◌, ◌<◌}
use mathlib.Core.Path.{◌≡◌, refl, sym, ap, ap₂, ◌∙◌, subst, subst₂}
use mathlib.Core.List.{List, [], ◌∷◌, ◌++◌, append-nil}
use mathlib.Core.Bool.{true, false}
use native.Mathlib.Omega.{arith}
use lib.IntN.{ℤ, pos, negsuc, nat_abs}
use native.Mathlib.Nat.{le_refl, le_trans}
use lib.ListN.{length, get_or}
use Rattle.num_limits.specs.Capacities.{parameters_most}
use Rattle.num_whole.specs.Tests.{less, same, pick, both}
use Rattle.num_whole.specs.Answer.{Judged, good, bad}
use Rattle.num_whole.proofs.Cases.{by_cases, no, not_less, holds, is_up_to, up_to_true, less_true, less_false, both_first, both_second}
use Rattle.byte_section.specs.Section.{and_then, count_at, section_at}
use Rattle.byte_section.proofs.Walk.{not_bad, by_judged, then_good, then_read, counted, good_same, records_next}
use Rattle.byte_section.proofs.Prefix.{then_stays, section_stays, count_stays}
use Rattle.arc_kinds.specs.Kinds.{settings_kind, label_kind}
use Rattle.arc_kinds.proofs.Local.{settings_local}
use Rattle.arc_heading.specs.declared.Heading.{Heading}
use Rattle.arc_heading.proofs.Sound.{sound}
use Rattle.arc_read.specs.Arc.{Arc, heading_of}
use Rattle.num_packed.specs.Triangle.{tri}
use Rattle.take_counts.specs.Counts.{sum_of, counts_sound}
use Rattle.take_tally.specs.Tally.{accepted, tally_sound}
use Rattle.take_tally.specs.declared.Tally.{Tally}
use Rattle.num_whole.proofs.Tables.{below_at}
use Rattle.take_state.specs.State.{State, sound_state}
use Rattle.take_laws.specs.Machine.{run}
use Rattle.take_laws.specs.Taking.{frame_of, record_step}
use Rattle.take_laws.proofs.Parts as Goods
use Rattle.take_laws.proofs.Accepted.{accepted_in_lem}
use Rattle.take_laws.proofs.Kept.{step_keeps, book_accepted, empty_sound, length_cleared}
use Rattle.take_laws.proofs.Guarded.{Held, whole, whole_none, roomy_by, held_run, held_step, held_shaped, held_heading, fine}
use Rattle.part_laws.specs.Beginning.{opened, done, left, read_at, opened_heading}
use Rattle.part_laws.specs.Feeding.{Position, begun, so_far, moved, feed}
use Rattle.part_laws.specs.OneGo.{emptied}
use Rattle.part_laws.specs.Entries.{count_by, parameters_in, placed_by, placed, sound_by, sound_at}
use Rattle.part_laws.proofs.Opened.{opened_stays}
use Rattle.part_laws.proofs.Cuts.{done_bad, left_bad, heading_good, opened_left}
use Rattle.part_laws.proofs.Feeding.{not_over}
use Rattle.part_laws.proofs.OneGo.{opened_sound, tri_up}
use Rattle.part_laws.proofs.Six.{part_placed}

-- ---- the parameters that a beginning has read
abbrev read : List ℕ → Judged ℕ
read s = and_then (section_at settings_kind s 1 1 0) (λ a. count_at s a.next 1 parameters_most)

pub parameters_most_lem : (s : List ℕ) → parameters_in s ≤ parameters_most
unfolding parameters_in
parameters_most_lem s =
    by_judged (read s)
    (λ n e. let x = then_read _ _ _ e in omega (arith, ap count_by e, (counted s x.0.next 1 parameters_most n x.2).to))
    (λ number place e. omega (arith, ap count_by e))

-- more bytes: the same, or 50 before
pub parameters_fewer : (s t : List ℕ) → parameters_in (s ++ t) ≤ parameters_in s
unfolding parameters_in
parameters_fewer s t =
    by_judged (read s)
    (λ n e. let stays = then_stays _ _ _ _ (section_stays s t settings_kind settings_local 1 1 0) (λ a. count_stays s t a.next 1 parameters_most) in
    omega (arith, ap count_by (stays.same n e), ap count_by e))
    (λ number place e. let top = parameters_most_lem (s ++ t) in omega (arith, ap count_by e))

-- of a file that is opened, those of its heading
pub parameters_opened : (s : List ℕ) (a : Arc) → opened s ≡ good a → parameters_in s ≡ a.heading.parameters
unfolding parameters_in opened heading_of section_at
parameters_opened s a e =
    let p = then_read _ _ _ e in
    let q = then_read _ _ _ p.2 in
    let r = then_read _ _ _ q.2 in
    let t = then_read _ _ _ r.2 in
    let n = then_read _ _ _ q.1 in
    ap count_by (then_good _ _ p.1 ∙ n.1) ∙ sym (records_next label_kind s n.0 (p.0.next + 4) 0 q.0 n.2).1 ∙ ap (λ x. x.heading.parameters) (good_same t.2)

-- ---- states
sum_none : (l : List ℕ) → ((i : ℕ) → i < length l → get_or l i 0 ≡ 0) → sum_of l ≡ 0
unfolding sum_of
sum_none [] h = refl
sum_none (x ∷ l) h =
    let first : x ≡ 0 = h 0 (omega arith) in
    rw (first, sum_none l (λ i k. h (suc i) (omega arith)))

-- a tally with no stations has no record
pub none_in_tally : (t : Tally) → length t.counts ≡ 16 → tally_sound 0 t ≡ true → accepted t ≡ 0
unfolding tally_sound counts_sound
none_in_tally t long e =
    sum_none t.counts (λ i h. let l = up_to_true _ _ (below_at _ 16 (both_first _ _ e) i (omega arith)) in omega (arith, sym (no {A = ℕ} _ 256 0 (not_less i 0 (omega arith)) refl), l))

-- no record is accepted in it
pub none_accepted : (p : ℕ) (s : State) → length s.tally.counts ≡ 16 → sound_state 0 p s ≡ true → accepted s.tally ≡ 0
none_accepted p s long e = sum_none s.tally.counts (λ i h. (Goods.good 0 p s e).past_counts i (omega arith) (omega arith))

-- one that is sound with no stations is so with any, and with fewer parameters
pub widened : (stations p q : ℕ) (s : State) → length s.tally.counts ≡ 16 → q ≤ p → sound_state 0 p s ≡ true → sound_state stations q s ≡ true
widened stations p q s long h e =
    let g = Goods.good 0 p s e in
    Goods.sound stations q s
    (record {
      counts = g.counts;
      past_counts = λ i l k. g.past_counts i l (omega arith);
      past_times = λ i l k. g.past_times i l (omega arith);
      square = g.square;
      matrix = λ i j l k. g.matrix i j l (omega arith);
      rights = λ i l. g.rights i (omega arith);
      marks = λ i l k. g.marks i l (omega arith);
      past_marks = λ i l k. by_cases (less i p)
          (λ t. (g.marks i l (less_true _ _ t)).unseen (nothing _ (le_trans (g.matrix i i (le_refl i) (less_true _ _ t)).small (omega (arith, none_accepted p s long e)))))
          (λ t. g.past_marks i l (less_false _ _ t));
    })
  where
    nothing : (z : ℤ) → nat_abs z ≤ 0 → z ≡ pos 0
    nothing (pos zero) b = refl
    nothing (pos (suc n)) b = absurd (omega arith)
    nothing (negsuc n) b = absurd (omega arith)

-- a record is accepted once
module _ (h : Heading) where
  one_more : (b : List ℕ) (s : State) → Held h s → accepted (record_step (frame_of h) b s).tally ≤ suc (accepted s.tally)
  one_more b s v =
      let f = frame_of h in
      step_keeps f b s (λ u. accepted u.tally ≤ suc (accepted s.tally))
      (λ e. let row = (accepted_in_lem f b s e).fits.row in
      omega (arith, book_accepted f b s (held_shaped h s v) (omega (arith, (fine h (held_heading h s v)).seats))))
      (omega arith)

  pub few_more : (bs : List (List ℕ)) (s : State) → Held h s → accepted (run (record_step (frame_of h)) s bs).tally ≤ accepted s.tally + length bs
  unfolding run
  few_more [] s v = omega arith
  few_more (b ∷ bs) s v = omega (arith, few_more bs (record_step (frame_of h) b s) (held_step h s v b), one_more b s v)

-- ---- a position with a state that nothing refuses
pub record Fit (p : Position) (s : State) : Type 0 where
  pub place : placed p ≡ true
  pub state : sound_at p s ≡ true
  pub matrix : tri (parameters_in p.kept) ≤ length s.matrix
  pub rights : parameters_in p.kept ≤ length s.rights
  pub counts : length s.tally.counts ≡ 16
  pub rows : length s.tally.rows ≡ 16
  pub marks : length s.tally.marks ≡ 50

module _ (p : Position) (s : State) (fit : Fit p s) (l : List ℕ) where
  abbrev t : ℕ
  t = p.taken

  abbrev b : List ℕ
  b = p.kept ++ l

  fewer : parameters_in b ≤ parameters_in p.kept
  fewer = parameters_fewer p.kept l

  -- before the file is opened: the state is as it was
  module _ (number place : ℕ) (o : opened b ≡ bad number place) where
    was_unopened : sound_state 0 (parameters_in p.kept) s ≡ true
    unfolding sound_at
    was_unopened =
        by_judged (opened p.kept)
        (λ a e. absurd (not_bad (sym ((opened_stays p.kept l).same a e) ∙ o)))
        (λ k q e. ap (sound_by (parameters_in p.kept) t s) (sym e) ∙ fit.state)

    still_sound : (n : ℕ) → sound_by (parameters_in b) n s (opened b) ≡ true
    still_sound n = ap (sound_by (parameters_in b) n s) o ∙ widened 0 (parameters_in p.kept) (parameters_in b) s fit.counts fewer was_unopened

  -- once it is: the records are taken into a state that its heading allows
  module _ (a : Arc) (o : opened b ≡ good a) where
    abbrev h : Heading
    h = a.heading

    same_parameters : parameters_in b ≡ h.parameters
    same_parameters = parameters_opened b a o

    pub record Ready : Type 0 where
      pub sound : sound_state h.stations h.parameters s ≡ true
      pub few : accepted s.tally ≤ t

    ready : Ready
    unfolding sound_at
    ready =
        by_judged (opened p.kept)
        (λ c e. let same-arc : c ≡ a = good_same (sym ((opened_stays p.kept l).same c e) ∙ o) in
        let v : sound_by (parameters_in p.kept) t s (good a) ≡ true = ap (λ x. sound_by (parameters_in p.kept) t s (good x)) (sym same-arc) ∙ ap (sound_by (parameters_in p.kept) t s) (sym e) ∙ fit.state in
        record { sound = both_first _ _ v; few = up_to_true _ _ (both_second _ _ v) })
        (λ k q e. let v : sound_state 0 (parameters_in p.kept) s ≡ true = ap (sound_by (parameters_in p.kept) t s) (sym e) ∙ fit.state in
        record {
          sound = widened h.stations (parameters_in p.kept) h.parameters s fit.counts (omega (arith, fewer, same_parameters)) v;
          few = omega (arith, none_accepted (parameters_in p.kept) s fit.counts v);
        })

    pub held : Held h s
    held =
        let ok = opened_sound b a o in
        let low : h.parameters ≤ parameters_in p.kept = omega (arith, fewer, same_parameters) in
        record {
          number = whole_none h s (record {
            room = roomy_by h s.matrix s.rights (sound h ok).few (omega (arith, tri_up _ _ low, fit.matrix)) (omega (arith, fit.rights));
            heading = ok;
            state = ready.sound;
          });
          counts = fit.counts;
          rows = fit.rows;
          marks = fit.marks;
        }

  -- ---- after the part
  abbrev next : Position
  next = record { kept = left t b; taken = t + length (done t b); over = false }

  abbrev after : State
  after = run (record_step (frame_of (opened_heading b))) s (done t b)

  fit_before : (number place : ℕ) → opened b ≡ bad number place → placed next ≡ true → Fit next after
  unfolding sound_at run
  fit_before number place o v =
      let kept = left_bad t b o in
      let same-state : s ≡ after = sym (ap (run (record_step (frame_of (opened_heading b))) s) (done_bad t b o)) in
      subst (Fit next) same-state
      (record {
        place = v;
        state = ap (λ x. sound_by (parameters_in x) (t + length (done t b)) s (opened x)) kept ∙ still_sound number place o (t + length (done t b));
        matrix = subst (λ x. tri (parameters_in x) ≤ length s.matrix) (sym kept) (omega (arith, tri_up _ _ fewer, fit.matrix));
        rights = subst (λ x. parameters_in x ≤ length s.rights) (sym kept) (omega (arith, fewer, fit.rights));
        counts = fit.counts;
        rows = fit.rows;
        marks = fit.marks;
      })

  fit_amid : (a : Arc) → opened b ≡ good a → placed next ≡ true → Fit next after
  unfolding sound_at
  fit_amid a o v =
      let h = a.heading in
      let again : opened (left t b) ≡ good a = ap opened (sym (append-nil (left t b))) ∙ opened_left t b [] a o in
      let ran : State = run (record_step (frame_of h)) s (done t b) in
      let same-state : ran ≡ after = ap (λ k. run (record_step (frame_of k)) s (done t b)) (sym (heading_good t b a o)) in
      let w = held_run h (done t b) s (held a o) in
      let shape = held_shaped h ran w in
      let parameters : parameters_in (left t b) ≡ h.parameters = parameters_opened (left t b) a again in
      let few : accepted ran.tally ≤ t + length (done t b) = omega (arith, few_more h (done t b) s (held a o), (ready a o).few) in
      subst (Fit next) same-state
      (record {
        place = v;
        state = ap (sound_by (parameters_in (left t b)) (t + length (done t b)) ran) again
            ∙ sym (holds _ _ (whole h ran w.number).state (sym (is_up_to _ _ few)));
        matrix = subst (λ n. tri n ≤ length ran.matrix) (sym parameters) shape.matrix;
        rights = subst (λ n. n ≤ length ran.rights) (sym parameters) shape.rights;
        counts = w.counts;
        rows = w.rows;
        marks = w.marks;
      })

  pub part_fit : p.over ≡ false → (feed p s l).verdict ≡ good tt → Fit (feed p s l).position (feed p s l).state
  part_fit f v =
      let x = not_over p s l f in
      let v₁ : so_far (read_at t b) ≡ good tt = ap (λ x. x.verdict) (sym x) ∙ v in
      let is : (feed p s l).position ≡ next = ap (λ y. y.position) x ∙ ap (λ w. moved w (t + length (done t b)) (left t b)) v₁ in
      let ok : placed next ≡ true = ap placed (sym is) ∙ part_placed p fit.place l s f v in
      subst₂ Fit (sym is) (sym (ap (λ y. y.state) x))
      (by_judged (opened b) (λ a o. fit_amid a o ok) (λ number place o. fit_before number place o ok))

-- ---- and begin gives one
pub nothing_opened : opened [] ≡ bad 1 0
unfolding opened and_then section_at count_at less pick
nothing_opened = refl

nothing_read : parameters_in [] ≡ parameters_most
unfolding parameters_in and_then section_at count_at less pick
nothing_read = refl

pub begun_fit : (m r : List ℤ) → tri parameters_most ≤ length m → parameters_most ≤ length r → Fit begun (emptied m r)
unfolding placed sound_at emptied both same
begun_fit m r wide high =
    record {
      place = ap (placed_by 0 0) nothing_opened;
      state = ap₂ (λ n j. sound_by n 0 (emptied m r) j) nothing_read nothing_opened ∙ empty_sound parameters_most m r 0;
      matrix = subst (λ n. tri n ≤ length (emptied m r).matrix) (sym nothing_read) (rw (length_cleared (tri parameters_most) m wide) wide);
      rights = subst (λ n. n ≤ length (emptied m r).rights) (sym nothing_read) (rw (length_cleared parameters_most r high) high);
      counts = refl;
      rows = refl;
      marks = refl;
    }

-- A part that nothing but the file's form refuses: what it completes, takes and leaves.
-- Assumes nothing.
use Rattle.std.specs.Prelude.{Result, Ok, Err, IfOk}
use Prim.Native.Nat.{ℕ, ◌+◌, ◌-◌, ◌*◌, ◌/◌, ◌≤◌, min}
use mathlib.Core.Path.{◌≡◌, refl, sym, ap, ap₂, ◌∙◌, subst}
use mathlib.Core.List.{List, ◌++◌}
use mathlib.Core.Bool.{true, false}
use native.Mathlib.Omega.{arith}
use native.Mathlib.Nat.{add-zero}
use lib.IntN.{ℤ}
use lib.ListN.{length, take, replicate, length-append, length-take}
use lib.Seq.{take_at, take-take, take_all}
use Rattle.num_whole.specs.Tests.{less, same}
use Rattle.num_whole.specs.Lists.{padded}
use Rattle.num_whole.specs.Answer.{Judged, good, bad, given}
use Rattle.num_whole.proofs.Cases.{yes, no, by_cases, is_same, same_true, both_second, less_true, less_false}
use Rattle.num_whole.proofs.Padded.{length_padded}
use Rattle.num_limits.specs.Capacities.{parameters_most, records_most, stations_most}
use Rattle.num_packed.specs.Triangle.{tri}
use Rattle.refusal.proofs.Firsts.{first_none_left, first_pass, unless_true, number_given}
use Rattle.byte_words.specs.Words.{lay}
use Rattle.byte_section.proofs.Walk.{not_bad, by_judged, good_same}
use Rattle.arc_heading.specs.Judge.{judged}
use Rattle.arc_heading.specs.declared.Heading.{Heading}
use Rattle.arc_heading.proofs.Sound.{sound}
use Rattle.refusal.specs.Told.{told_placed}
use Rattle.refusal.specs.declared.Fault.{Fault}
use Rattle.arc_read.specs.Arc.{Arc}
use Rattle.arc_read.specs.declared.ArcRead.{ArcRead}
use Rattle.take_state.specs.State.{State, room_number, state_number}
use Rattle.take_laws.specs.Machine.{run, answers}
use Rattle.take_laws.specs.Taking.{frame_of, record_answer, record_step}
use Rattle.take_laws.proofs.Guarded.{roomy_by}
use Rattle.part_laws.specs.Beginning.{opened, size_of, done, left, read_at, opened_heading}
use Rattle.part_laws.specs.Feeding.{Position, so_far, moved, feed, handed}
use Rattle.part_laws.specs.Entries.{position_most, position_of, held_of, placed, led, fair, parameters_in, part_number, part_position, part_state, part_answers, part_told, told_form}
use Rattle.part_laws.specs.declared.Position as ByValue
use Rattle.part_laws.proofs.Opened.{opened_stays, opened_of}
use Rattle.part_laws.proofs.Cuts.{done_bad, left_bad, read_bad}
use Rattle.part_laws.proofs.Feeding.{not_over}
use Rattle.part_laws.proofs.OneGo.{opened_sound}
use Rattle.part_laws.proofs.Six.{placed_amid, taken_few}
use Rattle.part_laws.proofs.Front.{opened_start, opened_short, opened_front, done_number, done_within}
use Rattle.part_laws.proofs.States.{Fit, held, parameters_opened}
use Rattle.part_laws.proofs.Over.{feed_moved}
use Rattle.part_place.specs.Looks.{completed_by, FrontOf, RoomAt}
use Rattle.part_place.specs.declared.Front.{Front}
use Rattle.part_take.specs.Ready.{beginning, Ready}
use Rattle.part.specs.Going.{grown}
use Rattle.part.proofs.Stops.{Fine, fine, Outcome}

-- ---- how many records are whole
completed_is : (t n : ℕ) (b : List ℕ) → n ≡ length b → completed_by t n (opened b) ≡ length (done t b)
completed_is t n b e =
    by_judged (opened b)
    (λ a o. ap (completed_by t n) o ∙ ap (λ k. min (a.count - t) ((k - a.start) / size_of a)) e ∙ sym (done_number t b a o))
    (λ number place o. ap (completed_by t n) o ∙ ap length (sym (done_bad t b o)))

-- ---- the front
module _ (p : ByValue.Position) (l : List ℕ) (f : Front) (v : FrontOf p l f) where
  abbrev k : List ℕ
  k = (position_of p).kept

  fits : length k ≤ 1088
  fits = omega (arith, v.held, v.long)

  front_long : length (take 1088 (k ++ l)) ≡ f.length
  front_long = length-take 1088 (k ++ l) ∙ omega (arith, v.many, v.long, length-append k l)

  pub front_is : take f.length f.room ≡ take 1088 (k ++ l)
  front_is = ap (take f.length) v.room ∙ take_at (take 1088 (k ++ l)) (replicate (1088 - length (take 1088 (k ++ l))) 0) f.length front_long

  pub front_room : length f.room ≡ 1088
  front_room = ap length v.room ∙ length_padded 1088 0 (take 1088 (k ++ l)) (omega (arith, length-take 1088 (k ++ l)))

  pub front_fits : f.length ≤ 1088
  front_fits = omega (arith, v.many)

  -- it opens the file as all bytes do
  pub front_opens : opened (take f.length f.room) ≡ opened (k ++ l)
  front_opens = ap opened front_is ∙ opened_front (k ++ l)

  -- and begins with what was kept
  pub front_begins : beginning f l ≡ k ++ l
  front_begins =
      let m = f.held in
      let head : take m f.room ≡ k =
      sym (take-take m f.length f.room (omega (arith, v.many, v.long, fits)))
      ∙ ap (take m) front_is
      ∙ take-take m 1088 (k ++ l) (omega (arith, v.long, fits))
      ∙ take_at k l m (sym v.long) in
      ap (λ x. x ++ l) head

  all_long : f.held + length l ≡ length (k ++ l)
  all_long = ap (λ n. n + length l) v.long ∙ sym (length-append k l)

  -- how many records it completes
  pub completes : (o : Result ArcRead Fault) (n : ℕ) → told_placed o ≡ opened (take f.length f.room)
      → n ≡ completed_by p.taken (f.held + length l) (told_placed o) → n ≡ length (done p.taken (k ++ l))
  completes o n e is =
      is ∙ ap (completed_by p.taken (f.held + length l)) (e ∙ front_opens) ∙ completed_is p.taken _ (k ++ l) all_long

-- ---- what was opened is small
pub few_read : (n : ℕ) (o : Result ArcRead Fault) → IfOk o (λ a. (a.heading.parameters ≤ parameters_most) × (a.start ≤ n) × (a.count ≤ records_most))
    → IfOk o (λ a. a.heading.parameters ≤ parameters_most)
few_read n (Ok a) h = h.0
few_read n (Err x) h = tt

pub fits_read : (n : ℕ) (o : Result ArcRead Fault) → IfOk o (λ a. (a.heading.parameters ≤ parameters_most) × (a.start ≤ n) × (a.count ≤ records_most))
    → IfOk o (λ a. (a.heading.parameters ≤ parameters_most) × (a.count ≤ records_most))
fits_read n (Ok a) h = (h.0, h.2)
fits_read n (Err x) h = tt

-- ---- sums that have room for what was opened
room_none : (h : Heading) (m r : List ℤ) → judged h ≡ given tt → tri h.parameters ≤ length m → h.parameters ≤ length r → room_number h m r ≡ 0
unfolding room_number
room_none h m r ok wide high =
    first_pass _ _ (unless_true 20 _ (roomy_by h m r (sound h ok).few wide high)) ∙ first_pass _ _ (number_given _ tt ok) ∙ first_none_left

pub opened_roomy : (s : List ℕ) (m r : List ℤ) (j : Judged Arc) → j ≡ opened s → tri (parameters_in s) ≤ length m → parameters_in s ≤ length r → RoomAt j m r
opened_roomy s m r (good a) e wide high =
    let same_count = parameters_opened s a (sym e) in
    room_none a.heading m r (opened_sound s a (sym e)) (subst (λ n. tri n ≤ length m) same_count wide) (omega (arith, same_count))
opened_roomy s m r (bad number place) e wide high = tt

module _ (p : ByValue.Position) (s : State) (l out : List ℕ) where
  abbrev q : Position
  q = position_of p

  abbrev b : List ℕ
  b = q.kept ++ l

  abbrev t : ℕ
  t = p.taken

  -- ---- what nothing refuses
  module _ (none : part_number p s l (length out) ≡ 0) (counts : length s.tally.counts ≡ stations_most) (rows : length s.tally.rows ≡ stations_most) (marks : length s.tally.marks ≡ parameters_most) where
    abbrev v : Fine p s l out
    v = fine p s l out none

    there : placed q ≡ true
    unfolding fair led
    there = no _ _ _ v.going refl ∙ both_second _ _ v.place

    fit : Fit q s
    fit = record { place = there; state = v.state; matrix = v.matrix; rights = v.rights; counts = counts; rows = rows; marks = marks }

    fed : feed q s l ≡ handed t b s
    fed = not_over q s l v.going

    -- what it answers and leaves, in the definition's words
    pub went : (n : ℕ) (h : Heading) → n ≡ length (done t b) → opened_heading b ≡ h
        → Outcome p s l out (told_form (so_far (read_at t b)) n (t + n)) (held_of (moved (so_far (read_at t b)) (t + n) (left t b)))
        (run (record_step (frame_of h)) s (done t b)) (lay out 0 (answers (record_step (frame_of h)) (record_answer (frame_of h)) s (done t b)))
    unfolding part_told part_position part_state part_answers
    went n h e g =
        let f = is_same _ _ none in
        let m = feed_moved q s v.going l in
        let back = sym fed in
        record {
          says = yes _ _ _ f
              (λ i. told_form (ap (λ x. x.verdict) back i) ((e ∙ sym m.number) i) ((ap (λ k. t + k) e ∙ sym m.taken) i));
          leads = yes _ _ _ f (ap (λ k. held_of (moved (so_far (read_at t b)) (t + k) (left t b))) e ∙ ap (λ x. held_of x.position) back);
          state = yes _ _ _ f (ap (λ k. run (record_step (frame_of k)) s (done t b)) (sym g) ∙ ap (λ x. x.state) back);
          answers = yes _ _ _ f (ap (λ k. lay out 0 (answers (record_step (frame_of k)) (record_answer (frame_of k)) s (done t b))) (sym g) ∙ ap (λ x. lay out 0 x.answers) back);
        }

    -- ---- once the file is opened
    module _ (a : Arc) (o : opened b ≡ good a) where
      pub sound_there : state_number a.heading s ≡ 0
      sound_there = (held q s fit l a o).number

      pub few_taken : t ≤ a.count
      few_taken = taken_few q there l a o

      -- what was kept ends in the first record
      near : length q.kept ≤ a.start + size_of a
      near =
          by_judged (opened q.kept)
          (λ c e. let same-arc : c ≡ a = good_same (sym ((opened_stays q.kept l).same c e) ∙ o) in
          let w = placed_amid q a there (e ∙ ap good same-arc) in
          by_cases (less t a.count)
          (λ x. omega (arith, w.short, yes {A = ℕ} _ (size_of a) 1 x refl))
          (λ x. omega (arith, w.short, no {A = ℕ} _ (size_of a) 1 x refl)))
          (λ number place e. by_cases (less (length q.kept) a.start)
          (λ x. omega (arith, less_true _ _ x))
          (λ x. absurd (not_bad (sym (opened_of q.kept l a o (less_false _ _ x)) ∙ e))))

      pub ready : (n : ℕ) (f : Front) → FrontOf p l f → n ≡ length (done t b) → Ready a f t n l
      ready n f w e =
          let is = front_begins p l f w in
          record {
            opens = ap opened is ∙ o;
            number = e ∙ ap (λ x. length (done t x)) (sym is);
            near = omega (arith, near, w.long);
            within = omega (arith, w.held);
            room = w.room ∙ ap (λ x. padded position_most 0 (take position_most x)) (sym is);
          }

      pub start_low : a.start ≤ 956
      start_low = opened_start b a o

      pub inside : (n : ℕ) (f : Front) → FrontOf p l f → n ≡ length (done t b) → a.start + n * size_of a ≤ f.held + length l
      inside n f w e = omega (arith, done_within t b a o, all_long p l f w, ap (λ k. k * size_of a) e)

    -- ---- before that
    module _ (number place : ℕ) (o : opened b ≡ bad number place) where
      pub nothing_done : (n : ℕ) → n ≡ length (done t b) → n ≡ 0
      nothing_done n e = e ∙ ap length (done_bad t b o)

      same_kept : (f : Front) → FrontOf p l f → number ≡ 1 → grown (good tt) f t ≡ held_of (moved (good tt) t b)
      same_kept f x one =
          let short = (opened_short b place (subst (λ n. opened b ≡ bad n place) one o)).few in
          let all : take 1088 b ≡ b = take_all 1088 b (omega arith) in
          ap₂ (λ y n. record { kept = y; length = n; taken = t; over = false }) (x.room ∙ ap (padded position_most 0) all) (sym (front_long p l f x) ∙ ap length all)

      grew : (f : Front) → FrontOf p l f → grown (so_far {A = Arc} (bad number place)) f t ≡ held_of (moved (so_far {A = Arc} (bad number place)) t b)
      unfolding so_far
      grew f x =
          by_cases (same number 1)
          (λ e. let is : good tt ≡ so_far {A = Arc} (bad number place) = yes _ _ _ e refl in
          ap (λ w. grown w f t) (sym is) ∙ same_kept f x (same_true _ _ e) ∙ ap (λ w. held_of (moved w t b)) is)
          (λ e. let is : bad number place ≡ so_far {A = Arc} (bad number place) = no _ _ _ e refl in
          ap (λ w. grown w f t) (sym is) ∙ ap (λ w. held_of (moved w t b)) is)

      pub before : (n : ℕ) (f : Front) → FrontOf p l f → n ≡ length (done t b)
          → Outcome p s l out (told_form (so_far {A = Arc} (bad number place)) 0 t) (grown (so_far {A = Arc} (bad number place)) f t) s out
      unfolding run answers lay
      before n f x e =
          let w = went 0 (opened_heading b) (sym (ap length (done_bad t b o))) refl in
          let says : bad number place ≡ read_at t b = sym (read_bad t b o) in
          let d = done_bad t b o in
          let none_more : t + 0 ≡ t = add-zero t in
          let h = frame_of (opened_heading b) in
          record {
            says = ap₂ (λ j m. told_form (so_far j) 0 m) says (sym none_more) ∙ w.says;
            leads = grew f x ∙ ap₂ (λ j m. held_of (moved (so_far j) m b)) says (sym none_more)
                ∙ ap (λ y. held_of (moved (so_far (read_at t b)) (t + 0) y)) (sym (left_bad t b o)) ∙ w.leads;
            state = ap (run (record_step h) s) (sym d) ∙ w.state;
            answers = ap (λ y. lay out 0 (answers (record_step h) (record_answer h) s y)) (sym d) ∙ w.answers;
          }

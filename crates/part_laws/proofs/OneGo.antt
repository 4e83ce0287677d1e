-- One go, and bad form.
-- Assumes nothing.
use Prim.Native.Nat.{ℕ, ◌+◌, ◌-◌, ◌*◌, ◌/◌, ◌≤◌}
use mathlib.Core.Path.{◌≡◌, refl, sym, ap, ap₂, ◌∙◌, subst₂}
use mathlib.Core.List.{List, [], ◌++◌, append-nil}
use mathlib.Core.Bool.{false}
use native.Mathlib.Omega.{arith}
use native.Mathlib.Nat.{zero-mul, sub-zero, mul-div_cancel}
use lib.IntN.{ℤ, pos}
use lib.ListN.{length, take, drop, replicate, length-append, length-replicate}
use lib.Seq.{length-take-le}
use Rattle.num_limits.specs.Capacities.{parameters_most}
use Rattle.num_whole.specs.Tests.{less, pick}
use Rattle.num_whole.specs.Answer.{Judged, good, given}
use Rattle.num_whole.proofs.Cases.{yes, no, by_cases, is_same, not_less, less_true, less_false}
use Rattle.refusal.proofs.Firsts.{first_none_left, first_pass, unless_true, number_given}
use Rattle.byte_words.specs.Words.{lay}
use Rattle.byte_section.specs.Section.{and_then}
use Rattle.byte_section.proofs.Walk.{by_judged, then_good, then_read, pick_read}
use Rattle.byte_section.proofs.Chains.{then_same}
use Rattle.arc_heading.specs.Judge.{judged}
use Rattle.arc_heading.specs.declared.Heading.{Heading}
use Rattle.arc_heading.proofs.Sound.{sound}
use Rattle.arc_kinds.specs.Kinds.{record_size}
use Rattle.arc_read.specs.Arc.{Arc, read_arc}
use Rattle.arc_read.proofs.Accepted.{heading_sound, run_long}
use Rattle.num_packed.specs.Triangle.{tri}
use Rattle.num_packed.proofs.Places.{tri_within}
use Rattle.take_tally.specs.Tally.{empty_tally}
use Rattle.take_room.specs.Room.{cleared}
use Rattle.take_state.specs.State.{State, state_of, started, room_number, capped, seen_in}
use Rattle.take_room.proofs.Cleared.{cleared_again}
use Rattle.take_laws.specs.Machine.{run, answers}
use Rattle.take_laws.specs.Taking.{frame_of, record_answer, record_step, records_in, whole_records, cut, run_state, run_answers}
use Rattle.take_laws.specs.Arc.{end_of, told_in}
use Rattle.take_laws.specs.Mix.{pairs, taken, told_to}
use Rattle.take_laws.specs.SumsOver.{partial_of, SumsOver}
use Rattle.take_laws.specs.Order.{whose, Mixes}
use Rattle.num_whole.specs.Lists.{Each}
use mathlib.Core.Logic.{◌↔◌}
use Rattle.take_laws.proofs.Order.{order}
use Rattle.take_laws.proofs.Silence.{silence}
use Rattle.take_laws.proofs.Guarded.{guarded_run, guarded_answers, started_is, started_held, roomy_by}
use Rattle.take_laws.proofs.SumsOver.{sums_over}
use Rattle.take_laws.proofs.Kept.{length_cleared}
use Rattle.part_laws.specs.Beginning.{opened, size_of, ends_at, closed_at, whole, done, left, read_at}
use Rattle.part_laws.specs.Feeding.{begun, so_far, moved, feed, finish}
use Rattle.part_laws.specs.OneGo.{emptied, fed, said, TakenOneByOne, OneGo, MixedAlike}
use Rattle.part_laws.proofs.Runs.{whole_cut}
use Rattle.part_laws.proofs.Opened.{opened_within, opened_again, read_opened}
use Rattle.part_laws.proofs.Cuts.{after, done_good, heading_good}
use Rattle.part_laws.proofs.Feeding.{so_far_bad, not_over}

-- ---- the form
-- of a file of which nothing is taken out, the reading is the reading
pub read_whole : (l : List ℕ) → read_at 0 l ≡ read_arc l
unfolding read_at
read_whole l =
    then_same _ _ (λ a. closed_at a (length l)) (λ a e. ap (closed_at a) (omega (arith, zero-mul (size_of a))))
    ∙ sym (read_opened l)

-- and stays so when its records are taken out
read_left : (t : ℕ) (b : List ℕ) → read_at (t + length (done t b)) (left t b) ≡ read_at t b
read_left t b = ap (read_at (t + length (done t b))) (sym (append-nil (left t b))) ∙ sym (after t b []).read ∙ ap (read_at t) (append-nil b)

module _ (m r : List ℤ) (l : List ℕ) where
  -- what parts and finish say together is what reading the whole says: heading and counts, or number and place
  pub form : said m r l ≡ read_arc l
  unfolding feed finish pick and_then
  form =
      by_judged (so_far (read_at 0 l))
      (λ a e. ap told e ∙ read_left 0 l ∙ read_whole l)
      (λ number place e. ap told e ∙ sym (so_far_bad (read_at 0 l) number place e).0 ∙ read_whole l)
    where
      told : Judged (Unit {0}) → Judged Arc
      told v = and_then v (λ u. finish (moved v (0 + length (done 0 l)) (left 0 l)))

-- ---- the heading that opens a file is sound: with records after it, it is one that is read
pub opened_sound : (l : List ℕ) (a : Arc) → opened l ≡ good a → judged a.heading ≡ given tt
unfolding closed_at
opened_sound l a e =
    let n = a.count * size_of a in
    let f = take a.start l ++ replicate n 0 in
    let long : length f ≡ ends_at a = rw (length-append, length-take-le a.start l (opened_within l a e), length-replicate) in
    heading_sound f a
    (read_opened f ∙ then_good _ _ (opened_again l (replicate n 0) a e)
    ∙ sym (no _ _ _ (not_less _ _ (omega arith)) (no _ _ _ (not_less _ _ (omega arith)) refl)))

-- ---- the empty state of 50 parameters is that of each heading
pub tri_up : (n m : ℕ) → n ≤ m → tri n ≤ tri m
tri_up n m h =
    by_cases (less n m)
    (λ e. omega (arith, tri_within n m (less_true _ _ e)))
    (λ e. let top : n ≡ m = omega (arith, less_false _ _ e) in rw top (omega arith))

module _ (m r : List ℤ) (wide : tri parameters_most ≤ length m) (high : parameters_most ≤ length r) (h : Heading) (ok : judged h ≡ given tt) where
  abbrev matrix : List ℤ
  matrix = cleared (tri parameters_most) m

  abbrev rights : List ℤ
  rights = cleared parameters_most r

  pub has_room : room_number h matrix rights ≡ 0
  unfolding room_number
  has_room =
      let v = sound h ok in
      let roomy-here = roomy_by h matrix rights v.few (rw (length_cleared (tri parameters_most) m wide) (omega (arith, tri_up h.parameters parameters_most v.few)))
      (rw (length_cleared parameters_most r high) (omega (arith, v.few))) in
      first_pass _ _ (unless_true 20 _ roomy-here) ∙ first_pass _ _ (number_given _ tt ok) ∙ first_none_left

  pub emptied_is : emptied m r ≡ started h matrix rights
  unfolding emptied
  emptied_is =
      let v = sound h ok in
      sym (started_is h matrix rights has_room
      ∙ ap₂ (λ x y. state_of x y empty_tally) (cleared_again (tri h.parameters) (tri parameters_most) m (tri_up h.parameters parameters_most v.few))
      (cleared_again h.parameters parameters_most r v.few))

-- ---- records taken from the empty state
module _ (m r : List ℤ) (wide : tri parameters_most ≤ length m) (high : parameters_most ≤ length r) (l : List ℕ) (a : Arc) (e : opened l ≡ good a) where
  abbrev h : Heading
  h = a.heading

  ok : judged h ≡ given tt
  ok = opened_sound l a e

  abbrev start : State
  start = started h (cleared (tri parameters_most) m) (cleared parameters_most r)

  -- the state and the answers, as a run from the empty state
  fed_state : (fed m r l).state ≡ run (record_step (frame_of h)) start (done 0 l)
  fed_state =
      ap (λ x. x.state) (not_over begun (emptied m r) l refl)
      ∙ ap₂ (λ k s. run (record_step (frame_of k)) s (done 0 l)) (heading_good 0 l a e) (emptied_is m r wide high h ok)

  fed_answers : (fed m r l).answers ≡ answers (record_step (frame_of h)) (record_answer (frame_of h)) start (done 0 l)
  fed_answers =
      ap (λ x. x.answers) (not_over begun (emptied m r) l refl)
      ∙ ap₂ (λ k s. answers (record_step (frame_of k)) (record_answer (frame_of k)) s (done 0 l)) (heading_good 0 l a e) (emptied_is m r wide high h ok)

  pub taken_so : TakenOneByOne m r h (done 0 l) (fed m r l).answers (fed m r l).state
  taken_so =
      let room = has_room m r wide high h ok in
      let held = started_held h (cleared (tri parameters_most) m) (cleared parameters_most r) room in
      let end : (fed m r l).state ≡ end_of h (cleared (tri parameters_most) m) (cleared parameters_most r) (done 0 l) = fed_state ∙ sym (guarded_run h (done 0 l) start held) in
      let told : pairs (done 0 l) (fed m r l).answers ≡ told_in h (cleared (tri parameters_most) m) (cleared parameters_most r) (done 0 l) =
      ap (pairs (done 0 l)) (fed_answers ∙ sym (guarded_answers h (done 0 l) start held)) in
      record {
        end = end;
        told = told;
        sums = subst₂ (λ s t. SumsOver (frame_of h) s (taken t)) (sym end) (sym told) (sums_over h (cleared (tri parameters_most) m) (cleared parameters_most r) room (done 0 l));
        unseen = λ i k.
            subst₂ (λ s t. (seen_in s.matrix i ≡ false) ↔ Each (λ b. partial_of (frame_of h) b i ≡ pos 0) (taken t)) (sym end) (sym told)
            ((silence h (cleared (tri parameters_most) m) (cleared parameters_most r) room).exactly (done 0 l) i k);
      }

-- ---- two files that open with one heading, their records mixed
module _ (m r : List ℤ) (wide : tri parameters_most ≤ length m) (high : parameters_most ≤ length r) (l l₁ : List ℕ) (a a₁ : Arc) (e : opened l ≡ good a) (e₁ : opened l₁ ≡ good a₁)
    (alike : a₁.heading ≡ a.heading)
  where
    pub mixed : Mixes (frame_of a.heading) (done 0 l) (done 0 l₁)
        → MixedAlike a.heading (done 0 l) (done 0 l₁) (fed m r l).answers (fed m r l₁).answers (fed m r l).state (fed m r l₁).state
    mixed x =
        let h = a.heading in
        let matrix = cleared (tri parameters_most) m in
        let rights = cleared parameters_most r in
        let laws = order h matrix rights (has_room m r wide high h (opened_sound l a e)) in
        let one = taken_so m r wide high l a e in
        let two = taken_so m r wide high l₁ a₁ e₁ in
        record {
          same_answers = λ k b. ap (told_to (whose (frame_of h)) k) one.told
              ∙ laws.same_answers (done 0 l) (done 0 l₁) x k b
              ∙ sym (ap (told_to (whose (frame_of h)) k) (two.told ∙ ap (λ g. told_in g matrix rights (done 0 l₁)) alike));
          same_end = one.end ∙ laws.same_end (done 0 l) (done 0 l₁) x ∙ sym (two.end ∙ ap (λ g. end_of g matrix rights (done 0 l₁)) alike);
        }

-- ---- a file of good form
pub read_open : (l : List ℕ) (a : Arc) → read_arc l ≡ good a → opened l ≡ good a
unfolding closed_at
read_open l a e =
    let x = then_read _ _ _ (sym (read_opened l) ∙ e) in
    let y = pick_read _ _ _ _ _ x.2 in
    let z = pick_read _ _ _ _ _ y.1 in
    x.1 ∙ z.1

-- its records are those of its run
all_records : (l : List ℕ) (a : Arc) → read_arc l ≡ good a → done 0 l ≡ records_in a.heading (drop a.start l)
unfolding records_in whole_records
all_records l a e =
    let o = read_open l a e in
    let long = run_long l a e in
    let run = drop a.start l in
    let v = sound a.heading (opened_sound l a o) in
    let least : a.heading.parameters ≡ capped a.heading = omega (arith, v.few) in
    let many : a.count ≡ length run / size_of a = sym (ap (λ n. n / size_of a) long ∙ mul-div_cancel a.count (omega arith)) in
    done_good 0 l a o
    ∙ ap (λ n. whole (size_of a) n run) (sub-zero a.count)
    ∙ whole_cut (size_of a) a.count run (omega (arith, long))
    ∙ ap (λ n. cut (size_of a) n run) many
    ∙ ap (λ p. cut (record_size p) (length run / record_size p) run) least

module _ (m r : List ℤ) (wide : tri parameters_most ≤ length m) (high : parameters_most ≤ length r) (l : List ℕ) (a : Arc) (e : read_arc l ≡ good a) where
  pub one_go : OneGo m r l a
  unfolding run_state run_answers
  one_go =
      let o = read_open l a e in
      let x = all_records l a e in
      let s = started a.heading (cleared (tri parameters_most) m) (cleared parameters_most r) in
      record {
        records = x;
        state = λ room n. fed_state m r wide high l a o ∙ yes _ _ _ (is_same _ _ n) (ap (run (record_step (frame_of a.heading)) s) x);
        answers = λ out n. ap (lay out 0) (fed_answers m r wide high l a o)
            ∙ yes _ _ _ (is_same _ _ n) (ap (λ y. lay out 0 (answers (record_step (frame_of a.heading)) (record_answer (frame_of a.heading)) s y)) x);
      }

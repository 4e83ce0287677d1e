-- How the listing of a file goes on with each part, and that its text is the listing of the bytes handed over.
-- Assumes nothing.
use Rattle.std.specs.Prelude.{Result, Ok, Err, IsOk}
use Prim.Native.Nat.{ℕ, ◌+◌, ◌-◌, ◌*◌, ◌/◌, ◌≤◌}
use mathlib.Core.Path.{◌≡◌, refl, sym, ap, ap₂, ◌∙◌, subst}
use mathlib.Core.List.{List, [], ◌++◌, append-nil}
use mathlib.Core.Bool.{true, false}
use native.Mathlib.Omega.{arith}
use native.Mathlib.Nat.{mul-le-mul_left, mul-div_cancel}
use lib.IntN.{ℤ, pos}
use lib.ListN.{length, replicate, take, drop, get_or, length-append, length-drop, drop_of_length-le}
use lib.Seq.{take_at}
use Rattle.num_whole.specs.Answer.{Judged, good, bad}
use Rattle.num_whole.proofs.Cases.{yes, holds, is_same, is_up_to}
use Rattle.num_limits.specs.Capacities.{parameters_most, arc_sums_most, records_most}
use Rattle.refusal.specs.First.{answered, verdict_of}
use Rattle.refusal.specs.Number.{number_of as refusal_number}
use Rattle.refusal.specs.Told.{told}
use Rattle.refusal.specs.declared.Refusal.{Refusal}
use Rattle.arc_heading.specs.declared.Heading.{Heading}
use Rattle.part_laws.specs.declared.PartRefusal.{PartRefusal}
use Rattle.part_laws.specs.declared.PartRefusal.TheVariants.{Stopped, Broken}
use Rattle.part.specs.Given.{told_heading}
use Rattle.part.specs.declared.Begun.{Begun}
use Rattle.refusal.proofs.Firsts.{answered_given, first_pass, first_one, when_false, unless_true}
use Rattle.byte_words.specs.Words.{lay}
use Rattle.byte_words.proofs.Words.{lay_front}
use Rattle.byte_section.specs.Section.{and_then}
use Rattle.byte_section.proofs.Walk.{by_judged}
use Rattle.arc_heading.proofs.Sound.{sound}
use Rattle.arc_read.specs.Arc.{Arc, read_arc}
use Rattle.arc_read.proofs.Accepted.{run_long}
use Rattle.num_packed.specs.Triangle.{tri}
use Rattle.take_tally.specs.Tally.{empty_tally}
use Rattle.take_room.specs.Room.{cleared}
use Rattle.take_state.specs.State.{State, state_of}
use Rattle.take_laws.specs.Machine.{run, answers}
use Rattle.take_laws.specs.Taking.{frame_of, record_answer, record_step, records_in}
use Rattle.part_laws.specs.Beginning.{opened, size_of, done, left, opened_heading}
use Rattle.part_laws.specs.Feeding.{Position, begun, Fed, moved, handed, feed, finish, fed_on}
use Rattle.part_laws.specs.OneGo.{emptied}
use Rattle.num_packed.specs.Room.{sums_roomy}
use Rattle.part_laws.specs.Entries.{position_of, held_of, tidy, fair, Told, took, stopped, broken, part_told, part_position, part_state, part_answers, told_form, told_end, begin_number, begin_state, finish_number, finish_told, told_part, heading_told, heading_given}
use Rattle.part_laws.specs.Sequence.{form_of}
use Rattle.part_laws.proofs.ByValue.{position_back, held_tidy}
use Rattle.part_laws.proofs.Cuts.{done_good, done_bad, heading_good, opened_left}
use Rattle.part_laws.proofs.Front.{done_number, done_within}
use Rattle.part_laws.proofs.Feeding.{cuts, not_over}
use Rattle.part_laws.proofs.OneGo.{form, opened_sound, tri_up, read_open, one_go}
use Rattle.part_laws.proofs.Six.{feed_nothing, whole_few}
use Rattle.part_laws.proofs.States.{Fit, part_fit, begun_fit}
use Rattle.part_laws.proofs.Over.{placed_short, feed_moved, count_most_lem}
use Rattle.part_laws.proofs.Sequence.{fair_going, part_position_lem, part_state_lem, part_answers_lem, part_told_lem}
use Rattle.list_lines.specs.Lines.{tallies_of, arc_lines, refused_line}
use Rattle.list_tallies.specs.Tables.{counted, CountsFit}
use Rattle.list_tallies.proofs.Counts.{counted_all, tallies_most}
use Rattle.list_run.specs.Runs.{no_sums, no_sides, empty_state, told_of, state_after, run_lines, listed, listing}
use Rattle.list_run.specs.Rooms.{part_most, told_most}
use Rattle.list_run.specs.Course.{heard, Follows, AfterBy, counted_by, Countable}
use Rattle.list_run.specs.declared.Course.{Course}

-- ---- the empty state is the one that begin makes, in room for fifty parameters
cleared_all : (n : ℕ) (l : List ℤ) → length l ≡ n → cleared n l ≡ replicate n (pos 0)
unfolding cleared
cleared_all n l e = let h : length l ≤ n = omega arith in rw (drop_of_length-le l h) (append-nil _)

fifty : tri parameters_most ≡ arc_sums_most
unfolding tri
fifty = refl

sums_long : length no_sums ≡ arc_sums_most
unfolding no_sums
sums_long = refl

sides_long : length no_sides ≡ parameters_most
unfolding no_sides
sides_long = refl

pub emptied_so : (m r : List ℤ) → length m ≡ arc_sums_most → length r ≡ parameters_most → emptied m r ≡ empty_state
unfolding emptied no_sums no_sides
emptied_so m r a b = ap₂ (λ x y. state_of x y empty_tally) (cleared_all (tri parameters_most) m (a ∙ sym fifty) ∙ ap (λ n. replicate n (pos 0)) fifty) (cleared_all parameters_most r b)

begins_none : (m r : List ℤ) → length m ≡ arc_sums_most → length r ≡ parameters_most → begin_number m r ≡ 0
unfolding begin_number sums_roomy
begins_none m r a b =
    first_one _ ∙ unless_true 20 _ (sym (holds _ _ (is_up_to _ _ (omega (arith, fifty))) (sym (is_up_to _ _ (omega arith)))))

pub begin_state_lem : (m r : List ℤ) → length m ≡ arc_sums_most → length r ≡ parameters_most → begin_state m r ≡ empty_state
unfolding begin_state
begin_state_lem m r a b = sym (yes _ _ _ (is_same _ _ (begins_none m r a b)) refl) ∙ emptied_so m r a b

-- so begin refuses nothing there
pub begins_ok : (m r : List ℤ) (x : Result Begun Refusal) → length m ≡ arc_sums_most → length r ≡ parameters_most
    → verdict_of (told x) ≡ answered (begin_number m r) tt → IsOk x
unfolding verdict_of
begins_ok m r (Ok b) h k e = refl
begins_ok m r (Err w) h k e = absurd (cc (e ∙ sym (answered_given _ tt (begins_none m r h k))))

none_so : emptied no_sums no_sides ≡ empty_state
none_so = emptied_so no_sums no_sides sums_long sides_long

empty_fit : Fit begun empty_state
empty_fit = subst (Fit begun) none_so (begun_fit no_sums no_sides (omega (arith, fifty, sums_long)) (omega (arith, sides_long)))

-- ---- before the first part
pub heard_nothing : heard [] ≡ record { position = begun; state = empty_state; answers = []; verdict = good tt }
heard_nothing = feed_nothing begun empty_fit.place empty_state refl

-- ---- after the bytes s, of which nothing was refused
module _ (s : List ℕ) (going : (heard s).verdict ≡ good tt) where
  abbrev q : Position
  q = (heard s).position

  fit : Fit q (heard s).state
  fit = part_fit begun empty_state empty_fit s refl going

  on : q.over ≡ false
  on = (feed_moved begun empty_state refl s).goes tt going

  small : length q.kept ≤ 1087
  small = placed_short q fit.place

  clean : tidy (held_of q) ≡ true
  clean = held_tidy q (omega (arith, small))

  fit_held : Fit (position_of (held_of q)) (heard s).state
  fit_held = subst (λ z. Fit z (heard s).state) (sym (position_back q)) fit

  -- so many records were taken
  many : length (heard s).answers ≤ records_most
  many =
      let n = (feed_moved begun empty_state refl s).number in
      by_judged (opened s)
      (λ a o. omega (arith, n, ap length (done_good 0 s a o), whole_few (size_of a) (a.count - 0) (drop a.start s), count_most_lem s a o))
      (λ number place o. omega (arith, n, ap length (done_bad 0 s {number = number} {place = place} o)))

  -- a part of 64 KiB completes no more than 2,048 records
  module _ (l : List ℕ) (short : length l ≤ part_most) where
    enough : length (done q.taken ((position_of (held_of q)).kept ++ l)) ≤ 2048
    enough =
        let b = (position_of (held_of q)).kept ++ l in
        let long : length b ≤ 66623 = omega (arith, length-append (position_of (held_of q)).kept l, ap (λ z. length z.kept) (position_back q), small) in
        by_judged (opened b)
        (λ a o. let some = (sound a.heading (opened_sound b a o)).some in
        let wide : length (done q.taken b) * 34 ≤ length (done q.taken b) * size_of a = mul-le-mul_left (length (done q.taken b)) (omega arith) in
        omega (arith, done_within q.taken b a o))
        (λ number place o. omega (arith, ap length (done_bad q.taken b {number = number} {place = place} o)))

    -- what a part of a position that was given out makes, with room for 2,048 answers
    abbrev f : Fed
    f = feed q (heard s).state l

    back : feed (position_of (held_of q)) (heard s).state l ≡ f
    back = ap (λ z. feed z (heard s).state l) (position_back q)

    module _ (out : List ℕ) (room : length out ≡ 2048) where
      enough_out : length (done q.taken ((position_of (held_of q)).kept ++ l)) ≤ length out
      enough_out = omega (arith, enough)

      told_so : part_told (held_of q) (heard s).state l (length out) ≡ told_form f.verdict (length f.answers) f.position.taken
      told_so = part_told_lem (held_of q) (heard s).state fit_held clean on l out enough_out ∙ ap (λ z. told_form z.verdict (length z.answers) z.position.taken) back

      position_so : part_position (held_of q) (heard s).state l (length out) ≡ held_of f.position
      position_so = part_position_lem (held_of q) (heard s).state fit_held clean on l out enough_out ∙ ap (λ z. held_of z.position) back

      state_so : part_state (held_of q) (heard s).state l (length out) ≡ f.state
      state_so = part_state_lem (held_of q) (heard s).state fit_held clean on l out enough_out ∙ ap (λ z. z.state) back

      few : length f.answers ≤ length out
      few = omega (arith, (feed_moved q (heard s).state on l).number, ap (λ z. length (done q.taken (z.kept ++ l))) (position_back q), enough_out)

      answers_so : part_answers (held_of q) (heard s).state l out ≡ f.answers ++ drop (length f.answers) out
      answers_so =
          part_answers_lem (held_of q) (heard s).state fit_held clean on l out enough_out ∙ ap (λ z. lay out 0 z.answers) back ∙ lay_front out f.answers few

      next : heard (s ++ l) ≡ fed_on (heard s) f
      next = cuts begun empty_state s l

      verdict_so : (heard (s ++ l)).verdict ≡ f.verdict
      unfolding and_then
      verdict_so = ap (λ z. z.verdict) next ∙ ap (λ v. and_then v (λ u. f.verdict)) going

-- ---- the three answers apart
abbrev is_took : Told → Type 0
is_took (took n) = Unit {0}
is_took (stopped number) = ⊥
is_took (broken number place all) = ⊥

abbrev is_stopped : Told → Type 0
is_stopped (took n) = ⊥
is_stopped (stopped number) = Unit {0}
is_stopped (broken number place all) = ⊥

abbrev is_broken_one : Told → Type 0
is_broken_one (took n) = ⊥
is_broken_one (stopped number) = ⊥
is_broken_one (broken number place all) = Unit {0}

abbrev number_of : Told → ℕ
number_of (took n) = n
number_of (stopped number) = 0
number_of (broken number place all) = 0

-- what the answer says of the part
took_so : (v : Judged (Unit {0})) (n k m : ℕ) → took n ≡ told_form v k m → (n ≡ k) × (v ≡ good tt)
took_so (good u) n k m e = (ap number_of e, refl)
took_so (bad a b) n k m e = absurd (subst is_took e tt)

broken_so : (v : Judged (Unit {0})) (a b c k m : ℕ) → broken a b c ≡ told_form v k m → v ≡ bad a b
broken_so (good u) a b c k m e = absurd (subst is_broken_one e tt)
broken_so (bad x y) a b c k m e = ap form_of (sym e)

not_stopped : (v : Judged (Unit {0})) (a k m : ℕ) → stopped a ≡ told_form v k m → ⊥
not_stopped (good u) a k m e = subst is_stopped e tt
not_stopped (bad x y) a k m e = subst is_stopped e tt

-- ---- a part, by what the entry promises of it
module _ (s : List ℕ) (c : Course) (m r : List ℤ) (table : List ℕ) (h : Follows s c m r table) (l : List ℕ) (short : length l ≤ part_most) (out : List ℕ) (room : length out ≡ told_most) where
  abbrev old : State
  old = state_of m r c.tally

  abbrev fed : Fed
  fed = feed (heard s).position (heard s).state l

  asked : part_told c.position old l (length out) ≡ told_form fed.verdict (length fed.answers) fed.position.taken
  asked = ap₂ (λ p z. part_told p z l (length out)) h.position h.state ∙ told_so s h.going l short out room

  module _ (n : ℕ) (e : took n ≡ part_told c.position old l (length out)) where
    took_this : (n ≡ length fed.answers) × (fed.verdict ≡ good tt)
    took_this = took_so fed.verdict n (length fed.answers) fed.position.taken (e ∙ asked)

    pub took_few : n ≤ length out
    took_few = omega (arith, took_this.0, few s h.going l short out room)

    pub took_roomy : CountsFit table n
    took_roomy k =
        omega (arith, ap (λ t. get_or t k 0) h.tallies, tallies_most (heard s).answers k, many s h.going, took_few)

    pub goes_on : (c₁ : Course) (m₁ r₁ : List ℤ) (table₁ told : List ℕ) → c₁.position ≡ part_position c.position old l (length out)
        → state_of m₁ r₁ c₁.tally ≡ part_state c.position old l (length out) → told ≡ part_answers c.position old l out
        → table₁ ≡ counted table (take n told) → Follows (s ++ l) c₁ m₁ r₁ table₁
    goes_on c₁ m₁ r₁ table₁ told a b d t =
        let x = next s h.going l short out room in
        record {
          going = verdict_so s h.going l short out room ∙ took_this.1;
          position = a ∙ ap₂ (λ p z. part_position p z l (length out)) h.position h.state ∙ position_so s h.going l short out room ∙ ap (λ z. held_of z.position) (sym x);
          state = b ∙ ap₂ (λ p z. part_state p z l (length out)) h.position h.state ∙ state_so s h.going l short out room ∙ ap (λ z. z.state) (sym x);
          tallies = t
              ∙ ap₂ (λ y z. counted y z) h.tallies
              (ap₂ (λ k z. take k z) took_this.0 (d ∙ ap₂ (λ p z. part_answers p z l out) h.position h.state ∙ answers_so s h.going l short out room)
              ∙ take_at fed.answers (drop (length fed.answers) out) (length fed.answers) refl)
              ∙ counted_all (heard s).answers fed.answers ∙ ap (λ z. tallies_of z.answers) (sym x);
        }

  pub is_broken : (number place all : ℕ) → broken number place all ≡ part_told c.position old l (length out) → (heard (s ++ l)).verdict ≡ bad number place
  is_broken number place all e =
      verdict_so s h.going l short out room ∙ broken_so fed.verdict number place all (length fed.answers) fed.position.taken (e ∙ asked)

  pub never_stopped : (number : ℕ) → stopped number ≡ part_told c.position old l (length out) → ⊥
  never_stopped number e = not_stopped fed.verdict number (length fed.answers) fed.position.taken (e ∙ asked)

  -- all of it, by the answer
  pub countable : (t : Told) → t ≡ part_told c.position old l (length out) → (told : List ℕ) → length told ≡ length out → Countable t table told
  countable (took n) e told long = (omega (arith, took_few n e), took_roomy n e)
  countable (stopped number) e told long = tt
  countable (broken number place all) e told long = tt

  pub leads : (t : Told) → t ≡ part_told c.position old l (length out) → (c₁ : Course) (m₁ r₁ : List ℤ) (told : List ℕ)
      → c₁.position ≡ part_position c.position old l (length out) → state_of m₁ r₁ c₁.tally ≡ part_state c.position old l (length out)
      → told ≡ part_answers c.position old l out → AfterBy (form_of t) (s ++ l) c₁ m₁ r₁ (counted_by t table told)
  leads (took n) e c₁ m₁ r₁ told a b d = goes_on n e c₁ m₁ r₁ (counted table (take n told)) told a b d refl
  leads (stopped number) e c₁ m₁ r₁ told a b d = absurd (never_stopped number e)
  leads (broken number place all) e c₁ m₁ r₁ told a b d = is_broken number place all e

-- ---- the file is over
module _ (s : List ℕ) (going : (heard s).verdict ≡ good tt) where
  finish_so : finish (heard s).position ≡ read_arc s
  unfolding and_then
  finish_so =
      sym (ap (λ v. and_then v (λ u. finish (heard s).position)) going)
      ∙ ap (λ e. and_then (feed begun e s).verdict (λ u. finish (feed begun e s).position)) (sym none_so) ∙ form no_sums no_sides s

  held_fair : fair (held_of (heard s).position) ≡ true
  held_fair = fair_going (held_of (heard s).position) (heard s).state (fit_held s going) (clean s going) (on s going) []

  finish_told_lem : finish_told (held_of (heard s).position) ≡ told_end (read_arc s) (heard s).position.taken
  unfolding finish_told finish_number
  finish_told_lem =
      let none : finish_number (held_of (heard s).position) ≡ 0 = first_pass _ _ (when_false 28 _ (on s going)) ∙ first_one _ ∙ unless_true 6 _ held_fair in
      sym (yes _ _ _ (is_same _ _ none) refl)
      ∙ ap (λ j. told_end j (heard s).position.taken) (ap finish (position_back (heard s).position) ∙ finish_so)

  module _ (a : Arc) (e : read_arc s ≡ good a) where
    abbrev bytes : List ℕ
    bytes = drop a.start s

    all : done 0 s ≡ records_in a.heading bytes
    all = (one_go no_sums no_sides (omega (arith, fifty, sums_long)) (omega (arith, sides_long)) s a e).records

    once : heard s ≡ handed 0 s empty_state
    once = not_over begun empty_state s refl

    named : opened_heading s ≡ a.heading
    named = heading_good 0 s a (read_open s a e)

    state_end : (heard s).state ≡ state_after a.heading bytes
    unfolding state_after
    state_end = ap (λ z. z.state) once ∙ ap₂ (λ g x. run (record_step (frame_of g)) empty_state x) named all

    told_end_lem : (heard s).answers ≡ told_of a.heading bytes
    unfolding told_of
    told_end_lem = ap (λ z. z.answers) once ∙ ap₂ (λ g x. answers (record_step (frame_of g)) (record_answer (frame_of g)) empty_state x) named all

    taken_end : (heard s).position.taken ≡ a.count
    taken_end =
        let o = read_open s a e in
        omega (arith, (feed_moved begun empty_state refl s).taken, done_number 0 s a o, run_long s a e, length-drop a.start s, ap (λ n. n / size_of a) (sym (length-drop a.start s) ∙ run_long s a e) ∙ mul-div_cancel a.count (omega arith))

    kept_end : (heard s).position.kept ≡ left 0 s
    kept_end =
        ap (λ z. z.position.kept) once
        ∙ ap (λ v. (moved v (0 + length (done 0 s)) (left 0 s)).kept) (sym (ap (λ z. z.verdict) once) ∙ going)

    heading_end : heading_given (held_of (heard s).position) ≡ a.heading
    unfolding heading_given
    heading_end =
        sym (yes _ _ _ held_fair refl)
        ∙ ap (λ z. opened_heading z.kept) (position_back (heard s).position) ∙ ap opened_heading kept_end
        ∙ heading_good 0 (left 0 s) a (ap opened (sym (append-nil (left 0 s))) ∙ opened_left 0 s [] a (read_open s a e))

    heading_told_end : heading_told (held_of (heard s).position) ≡ took 0
    unfolding heading_told
    heading_told_end =
        sym (yes _ _ _ held_fair refl)
        ∙ ap (λ j. told_end j (heard s).position.taken)
        (ap (λ z. opened z.kept) (position_back (heard s).position) ∙ ap opened kept_end
        ∙ ap opened (sym (append-nil (left 0 s))) ∙ opened_left 0 s [] a (read_open s a e))

-- ---- the text
-- a heading that is told as no record is given
pub heading_ok : (x : Result Heading PartRefusal) → told_heading x ≡ took 0 → IsOk x
heading_ok (Ok h) e = refl
heading_ok (Err (Stopped r)) e = absurd (cc e)
heading_ok (Err (Broken f n)) e = absurd (cc e)

-- with a refusal no answer is counted
pub none_counted : (r : PartRefusal) (table told : List ℕ) → table ≡ counted_by (told_part (Err r)) table told
none_counted (Stopped w) table told = refl
none_counted (Broken f n) table told = refl

-- the line of what is said of the form
abbrev refused_by : Judged (Unit {0}) → List ℕ
refused_by (good u) = []
refused_by (bad number place) = refused_line number place

-- what a refusal in form says of the reading
abbrev judged_as : Told → Judged Arc
judged_as (took n) = bad 0 0
judged_as (stopped number) = bad 0 0
judged_as (broken number place all) = bad number place

-- the sums of a heading's parameters are within those of fifty
pub sums_fit_lem : (p : ℕ) → p ≤ parameters_most → tri p ≤ arc_sums_most
sums_fit_lem p h = omega (arith, tri_up p parameters_most h, fifty)

module _ (s : List ℕ) (c : Course) (m r : List ℤ) (table : List ℕ) (h : Follows s c m r table) where
  pub ended_told : finish_told c.position ≡ told_end (read_arc s) c.position.taken
  ended_told = ap finish_told h.position ∙ finish_told_lem s h.going ∙ ap (λ p. told_end (read_arc s) p.taken) (sym h.position)

  module _ (a : Arc) (e : read_arc s ≡ good a) where
    heading_so : heading_given c.position ≡ a.heading
    heading_so = ap heading_given h.position ∙ heading_end s h.going a e

    pub heading_took : heading_told c.position ≡ took 0
    heading_took = ap heading_told h.position ∙ heading_told_end s h.going a e

    pub heading_few : (heading_given c.position).parameters ≤ parameters_most
    heading_few = subst (λ g. g.parameters ≤ parameters_most) (sym heading_so) (sound a.heading (opened_sound s a (read_open s a e))).few

    pub text_good : arc_lines (heading_given c.position) c.position.taken table m r c.tally ≡ listing s
    unfolding listing run_lines
    text_good =
        let state = h.state ∙ state_end s h.going a e in
        let tallies = h.tallies ∙ ap tallies_of (told_end_lem s h.going a e) in
        let taken = ap (λ p. p.taken) h.position ∙ taken_end s h.going a e in
        (λ i. arc_lines (heading_so i) (taken i) (tallies i) (state i).matrix (state i).rights (state i).tally)
        ∙ ap (listed s) (sym e)

  pub text_bad : (number place : ℕ) → read_arc s ≡ bad number place → refused_line number place ≡ listing s
  unfolding listing
  text_bad number place e = ap (listed s) (sym e)

  -- by the answer to finish
  pub end_good : (n : ℕ) → took n ≡ finish_told c.position → (a : Arc) × (read_arc s ≡ good a)
  end_good n e =
      by_judged (read_arc s)
      (λ a g. (a, g))
      (λ number place b. absurd (subst is_took (e ∙ ended_told ∙ ap (λ j. told_end j c.position.taken) b) tt))

  end_bad : (number place all : ℕ) → broken number place all ≡ finish_told c.position → refused_line number place ≡ listing s
  end_bad number place all e =
      by_judged (read_arc s)
      (λ a g. absurd (subst is_broken_one (e ∙ ended_told ∙ ap (λ j. told_end j c.position.taken) g) tt))
      (λ k at b. let same-form = e ∙ ended_told ∙ ap (λ j. told_end j c.position.taken) b in
      text_bad number place (b ∙ sym (ap judged_as same-form)))

  end_never : (number : ℕ) → stopped number ≡ finish_told c.position → ⊥
  end_never number e =
      by_judged (read_arc s)
      (λ a g. subst is_stopped (e ∙ ended_told ∙ ap (λ j. told_end j c.position.taken) g) tt)
      (λ k at b. subst is_stopped (e ∙ ended_told ∙ ap (λ j. told_end j c.position.taken) b) tt)

  pub end_refused : (r : PartRefusal) (number place : ℕ) → told_part (Err r) ≡ finish_told c.position
      → bad number place ≡ form_of (told_part (Err r)) → refused_line number place ≡ listing s
  end_refused (Stopped w) number place e f = absurd (end_never (refusal_number w) e)
  end_refused (Broken x n) number place e f = ap refused_by f ∙ end_bad (refusal_number x.why) x.place n e

-- ---- refused in its form: what follows does not matter
pub refused_so : (s t : List ℕ) (number place : ℕ) → (heard s).verdict ≡ bad number place → refused_line number place ≡ listing (s ++ t)
unfolding listing and_then
refused_so s t number place e =
    let w = ap (λ z. z.verdict) (cuts begun empty_state s t) ∙ ap (λ v. and_then v (λ u. (feed (heard s).position (heard s).state t).verdict)) e in
    let f = ap (λ x. and_then (feed begun x (s ++ t)).verdict (λ u. finish (feed begun x (s ++ t)).position)) (sym none_so) ∙ form no_sums no_sides (s ++ t) in
    ap (listed (s ++ t)) (sym (sym f ∙ ap (λ v. and_then v (λ u. finish (heard (s ++ t)).position)) w))

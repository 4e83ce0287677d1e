-- Calls one after the other leave in their rooms the state that the definitions step to: a tally is read from its room as it was laid there.
-- Assumes nothing.
use Prim.Native.Nat.{ℕ, ◌≤◌}
use mathlib.Core.Path.{◌≡◌, refl, sym, ap, ap₂, ◌∙◌, subst, subst₂}
use mathlib.Core.Bool.{true, false}
use mathlib.Core.List.{List, [], ◌∷◌, ◌++◌, map}
use mathlib.Core.Logic.{◌↔◌}
use native.Mathlib.Omega.{arith}
use lib.IntN.{pos}
use lib.ListN.{length}
use Rattle.num_whole.specs.Tests.{same, up_to, both}
use Rattle.num_whole.specs.Lists.{Each}
use Rattle.num_whole.proofs.Cases.{yes, no, is_same, same_true, same_false, by_cases, both_second, up_to_true}
use Rattle.num_whole.proofs.Adding.{length_plus}
use Rattle.byte_words.specs.Words.{lay}
use Rattle.byte_words.proofs.Words.{length_lay}
use Rattle.refusal.proofs.Firsts.{unless_none, first_none}
use Rattle.arc_heading.specs.declared.Heading.{Heading}
use Rattle.take_tally.specs.Tally.{empty_tally}
use Rattle.take_state.specs.State.{State, state_of, started, seen_in, room_number}
use Rattle.take_laws.specs.Machine.{run, answers}
use Rattle.take_laws.specs.Mix.{pairs, records_told, taken, told_to}
use Rattle.take_laws.specs.Arc.{end_of, told_in}
use Rattle.take_laws.specs.Order.{whose}
use Rattle.take_laws.specs.SumsOver.{partial_of, SumsOver}
use Rattle.take_laws.specs.Taking.{frame_of, book, record_step, take_answer, take_step, records_in, run_number, run_state}
use Rattle.take_laws.proofs.Kept.{length_cleared, step_keeps}
use Rattle.take_laws.proofs.Trace.{reached, run_append}
use Rattle.take_laws.proofs.Guarded.{Held, take_step_lem, guarded_run, held_run, started_is, started_held}
use Rattle.take_laws.proofs.Runs.{run_state_lem, run_told_lem}
use Rattle.take_laws.proofs.Order.{order}
use Rattle.take_laws.proofs.SumsOver.{sums_over}
use Rattle.take_laws.proofs.Silence.{silence}
use Rattle.take_state.proofs.Rooms.{roomed}
use Rattle.take.proofs.Answers.{state_left}
use Rattle.call_heading.specs.Lent.{heading_in, has_heading, has_both}
use Rattle.call_heading.proofs.Back.{TallyFits, tally_stays}
use Rattle.call_tally.specs.Tally.{tally_in, tally_bytes, tally_long, has_tally}
use Rattle.wheloruka.specs.Taking.{Lent, lent, state_in, lent_number, call_number, call_left, start_number, start_left, take_left, run_call_number, run_left}
use Rattle.wheloruka.specs.Sequence.{SameRooms, OneCall, Handed, single, several, handed_left, handed_in, handed_told, of_each, calls_end, calls_in, calls_told, Sequence}
use Rattle.wheloruka.proofs.Calls.{number_is, left_kept, take_kept, answers_whole}
use Rattle.wheloruka.proofs.Widths.{bytes_fit, empty_fits, fits_take, fits_on, fits_run, fits_over}

-- ---- any call: k is the number that follows, s the state that a call which is done leaves
whole_by : (b : List ℕ) (x : Lent) → lent_number b x ≡ 0 → has_both b x.tally ≡ true
unfolding lent_number
whole_by b x e = unless_none 20 _ (omega arith) e

same_rooms : (x : Lent) → SameRooms x x
same_rooms x = record { tally = refl; matrix = refl; rights = refl }

as_before : {x y z : Lent} → SameRooms z y → SameRooms y x → SameRooms z x
as_before p q = record { tally = p.tally ∙ q.tally; matrix = p.matrix ∙ q.matrix; rights = p.rights ∙ q.rights }

module _ (b : List ℕ) (x : Lent) (k : ℕ) (s : State) where
  abbrev New : Lent
  New = lent (lay x.tally 0 (tally_bytes s.tally)) s.matrix s.rights

  call_done : call_number b x k ≡ 0 → call_left b x k s ≡ New
  unfolding call_left
  call_done e = sym (yes _ _ _ (is_same _ _ e) refl)

  call_whole : call_number b x k ≡ 0 → has_both b x.tally ≡ true
  unfolding call_number
  call_whole e = whole_by b x (first_none _ _ e).0

  call_state : call_number b x k ≡ 0 → TallyFits s.tally → state_in (call_left b x k s) ≡ s
  unfolding has_tally
  call_state e fit =
      let room : tally_long ≤ length x.tally = up_to_true _ _ (both_second _ _ (call_whole e)) in
      ap state_in (call_done e) ∙ ap (λ t. state_of s.matrix s.rights t) (tally_stays s.tally x.tally fit room)

  call_rooms : (call_number b x k ≡ 0 → (length s.matrix ≡ length x.matrix) × (length s.rights ≡ length x.rights))
      → SameRooms (call_left b x k s) x
  call_rooms long =
      by_cases (same (call_number b x k) 0)
      (λ t. let e = same_true _ _ t in
      subst (λ y. SameRooms y x) (sym (call_done e))
      (record { tally = length_lay x.tally 0 (tally_bytes s.tally); matrix = (long e).0; rights = (long e).1 }))
      (λ t. subst (λ y. SameRooms y x) (left_kept b x k s (same_false _ _ t)) (same_rooms x))

  -- where the rooms are there, and a refusal leaves the state as it was
  call_steps : has_both b x.tally ≡ true → (k ≡ 0 → TallyFits s.tally) → ((k ≡ 0 → ⊥) → s ≡ state_in x) → state_in (call_left b x k s) ≡ s
  call_steps whole fit as_it_was =
      let is = number_is b x k whole in
      by_cases (same k 0)
      (λ t. let e = same_true _ _ t in call_state (is ∙ e) (fit e))
      (λ t. let some = same_false _ _ t in ap state_in (sym (left_kept b x k s (λ z. some (sym is ∙ z)))) ∙ sym (as_it_was some))

-- ---- a step keeps the lengths
abbrev AsLong : State → State → Type 0
AsLong s u = (length u.matrix ≡ length s.matrix) × (length u.rights ≡ length s.rights)

module _ (h : Heading) (s : State) where
  record_long : (r : List ℕ) (u : State) → AsLong s u → AsLong s (record_step (frame_of h) r u)
  unfolding book
  record_long r u p = step_keeps (frame_of h) r u (AsLong s) (λ e. (length_plus _ _ ∙ p.0, length_plus _ _ ∙ p.1)) p

  take_long : (r : List ℕ) → take_answer h r s ≡ 0 → AsLong s (take_step h r s)
  unfolding take_answer
  take_long r e = subst (AsLong s) (sym (take_step_lem h r s (first_none _ _ e).0)) (record_long r s (refl, refl))

  run_long : (l : List ℕ) (room : ℕ) → run_number h l room s ≡ 0 → AsLong s (run_state h l room s)
  unfolding run_state
  run_long l room e = subst (AsLong s) (yes _ _ _ (is_same _ _ e) refl) (reached (record_step (frame_of h)) (AsLong s) record_long (records_in h l) s (refl, refl))

-- ---- one call
module _ (b : List ℕ) (x : Lent) where
  module _ (e : start_number b x ≡ 0) where
    start_room : room_number (heading_in b) x.matrix x.rights ≡ 0
    start_room = sym (number_is b x _ (call_whole b x _ (state_in x) e)) ∙ e

    start_empty : (started (heading_in b) x.matrix x.rights).tally ≡ empty_tally
    start_empty = ap (λ s. s.tally) (started_is (heading_in b) x.matrix x.rights start_room)

    start_fits : TallyFits (started (heading_in b) x.matrix x.rights).tally
    start_fits = subst TallyFits (sym start_empty) empty_fits

    start_state : state_in (start_left b x) ≡ started (heading_in b) x.matrix x.rights
    start_state = call_state b x _ _ e start_fits

    start_long : AsLong (state_in x) (started (heading_in b) x.matrix x.rights)
    start_long =
        let r = roomed (heading_in b) x.matrix x.rights start_room in
        subst (AsLong (state_in x)) (sym (started_is (heading_in b) x.matrix x.rights start_room))
        (length_cleared _ x.matrix r.matrix, length_cleared _ x.rights r.rights)

  module _ (whole : has_both b x.tally ≡ true) (fit : TallyFits (tally_in x.tally)) where
    take_state : (r : List ℕ) → state_in (take_left b r x) ≡ take_step (heading_in b) r (state_in x)
    take_state r = call_steps b x _ _ whole (fits_take (heading_in b) (state_in x) fit r) (take_kept (heading_in b) r (state_in x))

    run_steps : (l : List ℕ) (room : ℕ) → state_in (run_left b l room x) ≡ run_state (heading_in b) l room (state_in x)
    run_steps l room = call_steps b x _ _ whole (fits_run (heading_in b) (state_in x) fit l room) (state_left (heading_in b) l room (state_in x))

  take_rooms : (r : List ℕ) → SameRooms (take_left b r x) x
  take_rooms r = call_rooms b x _ _ (λ e. take_long (heading_in b) (state_in x) r (sym (number_is b x _ (call_whole b x _ (state_in x) e)) ∙ e))

  run_rooms : (l : List ℕ) (room : ℕ) → SameRooms (run_left b l room x) x
  run_rooms l room = call_rooms b x _ _ (λ e. run_long (heading_in b) (state_in x) l room (sym (number_is b x _ (call_whole b x _ (state_in x) e)) ∙ e))

  pub one_call : OneCall b x
  one_call = record {
    start = start_state;
    take_number_lem = λ r e. number_is b x _ (whole_by b x e);
    take = λ r e bytes. take_state (whole_by b x e) (bytes_fit x.tally bytes) r;
    run_number_lem = λ l room e. number_is b x _ (whole_by b x e);
    run = λ l room e bytes. run_steps (whole_by b x e) (bytes_fit x.tally bytes) l room;
    start_kept = λ some. sym (left_kept b x _ _ some);
    take_kept = λ r some. sym (left_kept b x _ _ some);
    run_kept = λ l room some. sym (left_kept b x _ _ some);
    start_rooms = call_rooms b x _ _ start_long;
    take_rooms = take_rooms;
    run_rooms = run_rooms;
  }

-- ---- a machine's answers to one list after another
told_append : {R S A : Type 0} (step : R → S → S) (ans : R → S → A) (s : S) (l m : List R)
    → records_told step ans s (l ++ m) ≡ records_told step ans s l ++ records_told step ans (run step s l) m
unfolding pairs answers run
told_append step ans s [] m = refl
told_append step ans s (r ∷ l) m = ap (λ x. (r, ans r s) ∷ x) (told_append step ans (step r s) l m)

-- ---- rooms that a call was given and left: the heading and the tally are there whole, and the state is one that an entry may be handed
record Ready (b : List ℕ) (y : Lent) : Type 0 where
  whole : has_both b y.tally ≡ true
  fits : TallyFits (tally_in y.tally)
  held : Held (heading_in b) (state_in y)

whole_still : (b : List ℕ) (x y : Lent) → SameRooms y x → has_both b x.tally ≡ true → has_both b y.tally ≡ true
unfolding has_tally
whole_still b x y rooms e = ap (λ n. both (has_heading b) (up_to tally_long n)) rooms.tally ∙ e

-- what a call that steps the state leaves is ready again
ready_on : (b : List ℕ) (y z : Lent) (bs : List (List ℕ)) → Ready b y → SameRooms z y → TallyFits (tally_in z.tally)
    → state_in z ≡ run (take_step (heading_in b)) (state_in y) bs → Ready b z
ready_on b y z bs p rooms fits is = record {
  whole = whole_still b y z rooms p.whole;
  fits = fits;
  held = subst (Held (heading_in b)) (sym (is ∙ guarded_run (heading_in b) bs (state_in y) p.held)) (held_run (heading_in b) bs (state_in y) p.held);
}

-- ---- one call of any kind
module _ (b : List ℕ) (y : Lent) (p : Ready b y) where
  abbrev h : Heading
  h = heading_in b

  -- a run: its number is that of the state in the rooms
  run_number_lem : (l : List ℕ) (room : ℕ) → run_call_number b l room y ≡ run_number h l room (state_in y)
  run_number_lem l room = number_is b y _ p.whole

  run_fits : (l : List ℕ) (room : ℕ) → TallyFits (tally_in (run_left b l room y).tally)
  run_fits l room = subst (λ (s : State). TallyFits s.tally) (sym (run_steps b y p.whole p.fits l room)) (fits_over h (state_in y) p.fits l room)

  call_is : (c : Handed) → state_in (handed_left b c y) ≡ run (take_step h) (state_in y) (handed_in b c y)
  unfolding handed_left handed_in run
  call_is (single r) = take_state b y p.whole p.fits r
  call_is (several l out) =
      run_steps b y p.whole p.fits l (length out)
      ∙ by_cases (same (run_call_number b l (length out) y) 0)
      (λ t.
      run_state_lem h l (state_in y) p.held (length out) (sym (run_number_lem l (length out)) ∙ same_true _ _ t)
      ∙ ap (run (take_step h) (state_in y)) (yes _ _ _ t refl))
      (λ t.
      state_left h l (length out) (state_in y) (λ z. same_false _ _ t (run_number_lem l (length out) ∙ z))
      ∙ ap (run (take_step h) (state_in y)) (no _ _ _ t refl))

  call_told : (c : Handed) → handed_told b c y ≡ records_told (take_step h) (take_answer h) (state_in y) (handed_in b c y)
  unfolding handed_told handed_in pairs answers
  call_told (single r) = ap (λ k. (r, k) ∷ []) (number_is b y _ p.whole)
  call_told (several l out) =
      by_cases (same (run_call_number b l (length out) y) 0)
      (λ t.
      sym (yes _ _ _ t refl)
      ∙ ap (pairs (records_in h l)) (sym (answers_whole b l out y p.whole _ refl))
      ∙ run_told_lem h l (state_in y) p.held out (sym (run_number_lem l (length out)) ∙ same_true _ _ t)
      ∙ ap (records_told (take_step h) (take_answer h) (state_in y)) (yes _ _ _ t refl))
      (λ t. sym (no _ _ _ t refl) ∙ ap (records_told (take_step h) (take_answer h) (state_in y)) (no _ _ _ t refl))

  call_as_long : (c : Handed) → SameRooms (handed_left b c y) y
  unfolding handed_left
  call_as_long (single r) = take_rooms b y r
  call_as_long (several l out) = run_rooms b y l (length out)

  call_fits : (c : Handed) → TallyFits (tally_in (handed_left b c y).tally)
  unfolding handed_left
  call_fits (single r) = subst (λ (s : State). TallyFits s.tally) (sym (take_state b y p.whole p.fits r)) (fits_on h (state_in y) p.fits r)
  call_fits (several l out) = run_fits l (length out)

  call_ready : (c : Handed) → Ready b (handed_left b c y)
  call_ready c = ready_on b y _ (handed_in b c y) p (call_as_long c) (call_fits c) (call_is c)

-- ---- all of them
module _ (b : List ℕ) where
  all_is : (cs : List Handed) (y : Lent) → Ready b y → state_in (run (handed_left b) y cs) ≡ run (take_step (heading_in b)) (state_in y) (of_each b (handed_in b) y cs)
  unfolding run of_each
  all_is [] y p = refl
  all_is (c ∷ cs) y p =
      all_is cs (handed_left b c y) (call_ready b y p c)
      ∙ ap (λ s. run (take_step (heading_in b)) s (of_each b (handed_in b) (handed_left b c y) cs)) (call_is b y p c)
      ∙ sym (run_append (take_step (heading_in b)) (state_in y) (handed_in b c y) (of_each b (handed_in b) (handed_left b c y) cs))

  all_told : (cs : List Handed) (y : Lent) → Ready b y
      → of_each b (handed_told b) y cs ≡ records_told (take_step (heading_in b)) (take_answer (heading_in b)) (state_in y) (of_each b (handed_in b) y cs)
  unfolding of_each pairs
  all_told [] y p = refl
  all_told (c ∷ cs) y p =
      let on = handed_left b c y in
      ap₂ (λ l m. l ++ m) (call_told b y p c)
      (all_told cs on (call_ready b y p c)
      ∙ ap (λ s. records_told (take_step (heading_in b)) (take_answer (heading_in b)) s (of_each b (handed_in b) on cs)) (call_is b y p c))
      ∙ sym (told_append (take_step (heading_in b)) (take_answer (heading_in b)) (state_in y) (handed_in b c y) (of_each b (handed_in b) on cs))

  all_ready : (cs : List Handed) (y : Lent) → Ready b y → Ready b (run (handed_left b) y cs) × SameRooms (run (handed_left b) y cs) y
  unfolding run
  all_ready [] y p = (p, same_rooms y)
  all_ready (c ∷ cs) y p =
      let q = all_ready cs (handed_left b c y) (call_ready b y p c) in
      (q.0, as_before q.1 (call_as_long b y p c))

  all_singles : (bs : List (List ℕ)) (y : Lent) → of_each b (handed_in b) y (map single bs) ≡ bs
  unfolding of_each handed_in
  all_singles [] y = refl
  all_singles (r ∷ bs) y = ap (λ l. r ∷ l) (all_singles bs (handed_left b (single r) y))

-- ---- a start, and calls
module _ (b : List ℕ) (x : Lent) (e : start_number b x ≡ 0) where
  ready_start : Ready b (start_left b x)
  ready_start = record {
    whole = whole_still b x _ (one_call b x).start_rooms (call_whole b x _ (state_in x) e);
    fits = subst (λ (s : State). TallyFits s.tally) (sym (start_state b x e)) (start_fits b x e);
    held = subst (Held (heading_in b)) (sym (start_state b x e)) (started_held (heading_in b) x.matrix x.rights (start_room b x e));
  }

  end_is : (cs : List Handed) → state_in (calls_end b x cs) ≡ end_of (heading_in b) x.matrix x.rights (calls_in b x cs)
  end_is cs = all_is b cs (start_left b x) ready_start ∙ ap (λ s. run (take_step (heading_in b)) s (calls_in b x cs)) (start_state b x e)

  told_is : (cs : List Handed) → calls_told b x cs ≡ told_in (heading_in b) x.matrix x.rights (calls_in b x cs)
  told_is cs =
      all_told b cs (start_left b x) ready_start
      ∙ ap (λ s. records_told (take_step (heading_in b)) (take_answer (heading_in b)) s (calls_in b x cs)) (start_state b x e)

  -- "so that the laws of demands 2 and 3 hold": each by those two equations
  pub sequence : Sequence b x
  sequence =
      let h = heading_in b in
      let m = x.matrix in
      let r = x.rights in
      let f = frame_of h in
      let room = start_room b x e in
      record {
        end = end_is;
        told = told_is;
        rooms = λ cs. as_before (all_ready b cs (start_left b x) ready_start).1 (one_call b x).start_rooms;
        singles = λ bs. all_singles b bs (start_left b x);
        sound = λ cs. let p = (all_ready b cs (start_left b x) ready_start).0 in number_is b (calls_end b x cs) _ p.whole ∙ p.held.number;
        sums = λ cs. subst₂ (λ s t. SumsOver f s (taken t)) (sym (end_is cs)) (sym (told_is cs)) (sums_over h m r room (calls_in b x cs));
        unseen = λ cs i l. subst₂ (λ s t. (seen_in s.matrix i ≡ false) ↔ Each (λ b. partial_of f b i ≡ pos 0) (taken t))
            (sym (end_is cs)) (sym (told_is cs)) ((silence h m r room).exactly (calls_in b x cs) i l);
        same_answers = λ cs ds a k l. ap (told_to (whose f) k) (told_is cs)
            ∙ (order h m r room).same_answers (calls_in b x cs) (calls_in b x ds) a k l ∙ sym (ap (told_to (whose f) k) (told_is ds));
        same_end = λ cs ds a. end_is cs ∙ (order h m r room).same_end (calls_in b x cs) (calls_in b x ds) a ∙ sym (end_is ds);
      }

-- Demand 2 for the arc: from the empty state, the sums, counts and last times are those of exactly the records answered accepted.
-- Assumes nothing.
use Prim.Native.Nat.{ℕ, ◌+◌, ◌^◌, ◌≤◌, ◌<◌}
use mathlib.Core.Path.{◌≡◌, refl, sym, ap, ◌∙◌, subst}
use mathlib.Core.Bool.{Bool, true, false, not}
use mathlib.Core.List.{List, [], ◌∷◌, map}
use native.Mathlib.Nat.{zero-add}
use native.Mathlib.Omega.{arith}
use lib.IntN.{ℤ, pos, ◌+ℤ◌, ◌*ℤ◌, +ℤ_idl}
use lib.ListN.{length, get_or, set, replicate, get_or-replicate}
use Rattle.num_whole.specs.Sums.{total, plus}
use Rattle.num_whole.proofs.Adding.{total_ext}
use Rattle.num_packed.specs.Triangle.{tri}
use Rattle.num_whole.specs.Tests.{same, pick, either}
use Rattle.num_whole.proofs.Cases.{by_cases, yes, no, same_true, same_false}
use Rattle.num_packed.specs.Sound.{entry, is_zero}
use Rattle.num_packed.proofs.Tests.{zero_true}
use Rattle.num_packed.proofs.Places.{tri_within}
use Rattle.arc_heading.specs.declared.Heading.{Heading}
use Rattle.take_counts.specs.Counts.{sum_of}
use Rattle.take_marks.specs.Marks.{has_mark, with_mark}
use Rattle.take_marks.proofs.Marks.{mark_set, mark_kept, mark_small, zero_marks, count_so, rows_ext}
use Rattle.take_tally.specs.Tally.{no_row, count_of, last_times, mark_of, row_with, tally_with, empty_tally, accepted}
use Rattle.take_tally.specs.declared.Row.{Row}
use Rattle.take_room.specs.Room.{cleared}
use Rattle.take_state.specs.State.{State, state_of, room_number, started}
use Rattle.take_laws.specs.Machine.{run}
use Rattle.take_laws.specs.Taking.{Frame, frame_of, station_row, stamp, type_column, scaled, weight_in, matrix_terms, right_terms, square_term, record_answer, record_step, book}
use Rattle.num_whole.specs.Lists.{Each}
use Rattle.take_laws.specs.Mix.{keep, last_or, only, pairs, taken}
use Rattle.take_laws.specs.Arc.{end_of, accepted_in}
use Rattle.take_laws.specs.SumsOver.{partial_of, any_of, gave_one, SumsOver}
use Rattle.take_laws.proofs.Accepted.{accepted_in_lem, matrix_at, right_at, square_at}
use Rattle.take_laws.proofs.Kept.{Shaped, step_books, step_leaves, book_shaped, book_accepted, book_unmarked, book_marked, empty_entry, empty_side}
use Rattle.take_laws.proofs.Guarded.{fine, held_heading, held_shaped, started_held, started_is, guarded_run, guarded_answers}
use Rattle.take_laws.proofs.Booking.{booked, each_taken, run_part, get_d_runs, total_runs, get_d_changes, run_count, run_last}

-- ---- what booking a list of records makes of each part of a state
module _ (f : Frame) (l : List (List ℕ)) (s : State) (k : Shaped f s) where
  matrix_after : (i j : ℕ) → i ≤ j → j < f.parameters
      → entry (run (book f) s l).matrix i j ≡ entry s.matrix i j +ℤ total (λ b. pos (weight_in b) *ℤ (partial_of f b i *ℤ partial_of f b j)) l
  unfolding book
  matrix_after i j h b =
      ap (λ x. entry x i j) (run_part (book f) (λ u. u.matrix) (λ b x. plus x (matrix_terms f b)) (λ b u. refl) l s)
      ∙ get_d_runs (matrix_terms f) l s.matrix (tri j + i) (omega (arith, tri_within j f.parameters b, k.matrix))
      ∙ ap (λ z. entry s.matrix i j +ℤ z) (total_ext _ _ (λ c. matrix_at f c i j h b) l)

  rights_after : (i : ℕ) → i < f.parameters
      → get_or (run (book f) s l).rights i (pos 0) ≡ get_or s.rights i (pos 0) +ℤ total (λ b. pos (weight_in b) *ℤ (partial_of f b i *ℤ scaled b)) l
  unfolding book
  rights_after i b =
      ap (λ x. get_or x i (pos 0)) (run_part (book f) (λ u. u.rights) (λ b x. plus x (right_terms f b)) (λ b u. refl) l s)
      ∙ get_d_runs (right_terms f) l s.rights i (omega (arith, k.rights))
      ∙ ap (λ z. get_or s.rights i (pos 0) +ℤ z) (total_ext _ _ (λ c. right_at f c i) l)

  square_after : pos (run (book f) s l).tally.square ≡ pos s.tally.square +ℤ total (λ b. pos (weight_in b) *ℤ (scaled b *ℤ scaled b)) l
  unfolding book tally_with
  square_after =
      ap pos (run_part (book f) (λ u. u.tally.square) (λ b x. x + square_term b) (λ b u. refl) l s)
      ∙ total_runs square_term l s.tally.square
      ∙ ap (λ z. pos s.tally.square +ℤ z) (total_ext _ _ square_at l)

  counts_after : (n : ℕ) → n < 16 → count_of (run (book f) s l).tally n ≡ count_of s.tally n + length (only (station_row f) n l)
  unfolding book tally_with
  counts_after n h =
      ap (λ x. get_or x n 0) (run_part (book f) (λ u. u.tally.counts) (λ b x. set x (station_row f b) (get_or x (station_row f b) 0 + 1)) (λ b u. refl) l s)
      ∙ get_d_changes (station_row f) (λ b x. x + 1) 0 l s.tally.counts n (omega (arith, k.counts))
      ∙ run_count (only (station_row f) n l) (count_of s.tally n)

  row_after : (n : ℕ) → n < 16
      → last_times (run (book f) s l).tally n ≡ run (λ b w. row_with w (type_column b) (stamp f b)) (last_times s.tally n) (only (station_row f) n l)
  unfolding book tally_with
  row_after n h =
      ap (λ x. get_or x n no_row)
      (run_part (book f) (λ u. u.tally.rows) (λ b x. set x (station_row f b) (row_with (get_or x (station_row f b) no_row) (type_column b) (stamp f b))) (λ b u. refl) l s)
      ∙ get_d_changes (station_row f) (λ b w. row_with w (type_column b) (stamp f b)) no_row l s.tally.rows n (omega (arith, k.rows))

-- ---- the marks: a station's mark for a parameter, from before or by one of its records
any_more : (a b : Bool) → either a (either true b) ≡ true
unfolding either
any_more true b = refl
any_more false b = refl

at_once_so : (b : Bool) → either true b ≡ true
unfolding either
at_once_so b = refl

from_false : (b : Bool) → either false b ≡ b
unfolding either
from_false b = refl

or_false : (a : Bool) → either a false ≡ a
unfolding either
or_false true = refl
or_false false = refl

any_pick : {A : Type 0} (t : A → Bool) (c : Bool) (x : A) (l : List A) → pick c (either (t x) (any_of t l)) (any_of t l) ≡ any_of t (pick c (x ∷ l) l)
unfolding pick any_of
any_pick t true x l = refl
any_pick t false x l = refl

module _ (f : Frame) (i k : ℕ) (few : i < 50) where
  gives : List ℕ → Bool
  gives b = not (is_zero (partial_of f b i))

  mark_after : (b : List ℕ) (s : State) → Shaped f s → (rest : Bool)
      → either (has_mark (mark_of (book f b s).tally i) k) rest ≡ either (has_mark (mark_of s.tally i) k) (pick (same (station_row f b) k) (either (gives b) rest) rest)
  unfolding gives
  mark_after b s v rest =
      by_cases (is_zero (partial_of f b i))
      (λ z. ap (λ w. either (has_mark w k) rest) (book_unmarked f b s v i few (zero_true _ z))
      ∙ ap (either (has_mark (mark_of s.tally i) k))
      (by_cases (same (station_row f b) k) (λ t. yes _ _ _ t (sym (ap (λ x. either (not x) rest) z ∙ from_false rest))) (λ t. no _ _ _ t refl)))
      (λ z. ap (λ w. either (has_mark w k) rest) (book_marked f b s v i few z)
      ∙ by_cases (same (station_row f b) k)
      (λ t. ap (λ x. either x rest) (subst (λ n. has_mark (with_mark (mark_of s.tally i) (station_row f b)) n ≡ true) (same_true _ _ t) (mark_set (mark_of s.tally i) (station_row f b)))
      ∙ at_once_so rest ∙ sym (any_more (has_mark (mark_of s.tally i) k) rest)
      ∙ ap (either (has_mark (mark_of s.tally i) k)) (yes _ _ _ t (ap (λ x. either (not x) rest) (sym z))))
      (λ t. ap (λ x. either x rest) (mark_kept (mark_of s.tally i) (station_row f b) k (λ q. same_false _ _ t (sym q)))
      ∙ ap (either (has_mark (mark_of s.tally i) k)) (no _ _ _ t refl)))

  marks_after : (l : List (List ℕ)) (s : State) → Shaped f s
      → has_mark (mark_of (run (book f) s l).tally i) k ≡ either (has_mark (mark_of s.tally i) k) (any_of gives (only (station_row f) k l))
  unfolding run any_of keep
  marks_after [] s v = sym (or_false (has_mark (mark_of s.tally i) k))
  marks_after (b ∷ l) s v =
      marks_after l (book f b s) (book_shaped f b s v) ∙ mark_after b s v (any_of gives (only (station_row f) k l))
      ∙ ap (either (has_mark (mark_of s.tally i) k)) (any_pick gives (same (station_row f b) k) b (only (station_row f) k l))

-- a word of marks stays one of sixteen stations
marks_small : (f : Frame) (i : ℕ) → i < 50 → (l : List (List ℕ)) (s : State) → Shaped f s → Each (λ b. station_row f b < 16) l
    → mark_of s.tally i < 2 ^ 16 → mark_of (run (book f) s l).tally i < 2 ^ 16
unfolding run
marks_small f i h [] s v seats w = w
marks_small f i h (b ∷ l) s v seats w =
    marks_small f i h l (book f b s) (book_shaped f b s v) seats.1
    (by_cases (is_zero (partial_of f b i))
    (λ z. subst (λ n. n < 2 ^ 16) (sym (book_unmarked f b s v i h (zero_true _ z))) w)
    (λ z. subst (λ n. n < 2 ^ 16) (sym (book_marked f b s v i h z)) (mark_small 16 (mark_of s.tally i) (station_row f b) w seats.0)))

-- the times of a row, column by column
times_after : (f : Frame) (l : List (List ℕ)) (w : Row) (c : ℕ) → c < length w.times
    → get_or (run (λ b v. row_with v (type_column b) (stamp f b)) w l).times c 0 ≡ last_or (get_or w.times c 0) (map (stamp f) (only type_column c l))
times_after f l w c h =
    ap (λ x. get_or x c 0) (run_part (λ b v. row_with v (type_column b) (stamp f b)) (λ v. v.times) (λ b x. set x (type_column b) (stamp f b)) (λ b v. refl) l w)
    ∙ get_d_changes type_column (λ b x. stamp f b) 0 l w.times c h
    ∙ run_last (stamp f) (only type_column c l) (get_or w.times c 0)

-- n grows by one with each
accepted_after : (f : Frame) (l : List (List ℕ)) (s : State) → Shaped f s → Each (λ b. station_row f b < 16) l
    → accepted (run (book f) s l).tally ≡ accepted s.tally + length l
unfolding run
accepted_after f [] s k h = omega arith
accepted_after f (b ∷ l) s k h =
    accepted_after f l (book f b s) (book_shaped f b s k) h.1 ∙ omega (arith, book_accepted f b s k h.0)

-- ---- from the empty state
from_zero : {x y z : ℤ} → x ≡ y +ℤ z → y ≡ pos 0 → x ≡ z
from_zero {x} {y} {z} a b = a ∙ ap (λ v. v +ℤ z) b ∙ +ℤ_idl z

module _ (f : Frame) (m r : List ℤ) (l : List (List ℕ)) where
  abbrev none : State
  none = state_of (cleared (tri f.parameters) m) (cleared f.parameters r) empty_tally

  none_before : (i n : ℕ) (h : i < 50) → either (has_mark (mark_of empty_tally i) n) (any_of (gives f i n h) (only (station_row f) n l)) ≡ any_of (λ b. not (is_zero (partial_of f b i))) (only (station_row f) n l)
  unfolding gives
  none_before i n h =
      ap (λ x. either x (any_of (λ b. not (is_zero (partial_of f b i))) (only (station_row f) n l))) (ap (λ w. has_mark w n) (get_or-replicate {A = ℕ} 50 i 0 0 h) ∙ zero_marks n)
      ∙ from_false (any_of (λ b. not (is_zero (partial_of f b i))) (only (station_row f) n l))

  marks_from_none : Shaped f none → (i k : ℕ) → i < 50 → has_mark (mark_of (run (book f) none l).tally i) k ≡ gave_one f l i k
  marks_from_none v i k h = marks_after f i k h l none v ∙ none_before i k h

  from_none : Shaped f none → Each (λ b. station_row f b < 16) l → SumsOver f (run (book f) none l) l
  unfolding sum_of
  from_none k h = record {
    matrix = λ i j a b. from_zero (matrix_after f l none k i j a b) (empty_entry f.parameters m r i j a b);
    rights = λ i b. from_zero (rights_after f l none k i b) (empty_side f.parameters m r i b);
    square = from_zero (square_after f l none k) refl;
    counts = λ n b. counts_after f l none k n b ∙ omega (arith, get_or-replicate {A = ℕ} 16 n 0 0 b);
    accepted = accepted_after f l none k h ∙ zero-add (length l);
    marks = λ i n a b. marks_from_none k i n a;
    carriers = λ i a.
        let small = marks_small f i a l none k h (subst (λ n. n < 2 ^ 16) (sym (get_or-replicate {A = ℕ} 50 i 0 0 a)) (omega arith)) in
        count_so 16 (mark_of (run (book f) none l).tally i) small ∙ rows_ext _ _ 0 16 (λ n b. marks_from_none k i n a);
    times = λ n c b d. ap (λ (w : Row). get_or w.times c 0) (row_after f l none k n b)
        ∙ ap (λ w. get_or (run (λ b v. row_with v (type_column b) (stamp f b)) w (only (station_row f) n l)).times c 0) (get_or-replicate 16 n (record { times = replicate 10 0 }) no_row b)
        ∙ times_after f (only (station_row f) n l) (record { times = replicate 10 0 }) c d
        ∙ ap (λ x. last_or x (map (stamp f) (only type_column c (only (station_row f) n l)))) (get_or-replicate {A = ℕ} 10 c 0 0 d);
  }

-- Demand 2: for every heading that is accepted, with room for its sums, and for every list of records
module _ (h : Heading) (m r : List ℤ) (e : room_number h m r ≡ 0) (bs : List (List ℕ)) where
  -- the end is what booking exactly the accepted records makes
  pub end_booked : end_of h m r bs ≡ run (book (frame_of h)) (started h m r) (accepted_in h m r bs)
  end_booked =
      let f = frame_of h in
      let s = started h m r in
      let v = started_held h m r e in
      guarded_run h bs s v ∙ booked (record_step f) (book f) (record_answer f) (step_books f) (step_leaves f) bs s
      ∙ ap (λ l. run (book f) s (taken (pairs bs l))) (sym (guarded_answers h bs s v))

  -- what acceptance shows of a record holds of each that is accepted
  pub each_accepted : (P : List ℕ → Type 0) → ((b : List ℕ) (s : State) → record_answer (frame_of h) b s ≡ 0 → P b) → Each P (accepted_in h m r bs)
  each_accepted P g =
      let f = frame_of h in
      let s = started h m r in
      subst (λ l. Each P (taken (pairs bs l))) (sym (guarded_answers h bs s (started_held h m r e)))
      (each_taken (record_step f) (book f) (record_answer f) (step_books f) (step_leaves f) P g bs s)

  pub sums_over : SumsOver (frame_of h) (end_of h m r bs) (accepted_in h m r bs)
  sums_over =
      let f = frame_of h in
      let s = started h m r in
      let v = started_held h m r e in
      let l = accepted_in h m r bs in
      let empty = started_is h m r e in
      let seats : Each (λ b. station_row f b < 16) l = each_accepted (λ b. station_row f b < 16)
      (λ b u a. let row = (accepted_in_lem f b u a).fits.row in omega (arith, (fine h (held_heading h s v)).seats)) in
      subst (λ u. SumsOver f u l) (sym (end_booked ∙ ap (λ u. run (book f) u l) empty))
      (from_none f m r l (subst (Shaped f) empty (held_shaped h s v)) seats)

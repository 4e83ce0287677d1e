-- Soundness is kept: the empty state is sound, an accepted record leaves a sound state sound, and the sums of a sound state fit their words.
-- Assumes nothing.
use Prim.Native.Nat.{ℕ, zero, suc, ◌+◌, ◌-◌, ◌*◌, ◌^◌, ◌≤◌, ◌<◌, zero-le}
use mathlib.Core.Path.{◌≡◌, refl, sym, ap, ap₂, ◌∙◌, subst}
use mathlib.Core.Bool.{true, false}
use mathlib.Core.List.{List, [], ◌∷◌}
use native.Mathlib.Nat.{le_refl, le_trans, not-suc-le-zero, le_of_suc-le-suc, mul-pos, zero-lt-suc}
use native.Mathlib.Omega.{arith}
use lib.IntN.{ℤ, pos, negsuc, nat_abs, ◌+ℤ◌, ◌*ℤ◌, zero-*ℤ, *ℤ-zero}
use lib.ListN.{length, get_or, set, take, drop, replicate, length-set, length-append, length-take, length-drop, length-replicate, get_or-replicate, get_or-append, get_or-eq_default}
use lib.Seq.{get_or-set_same, get_or-set_other, get_or-take, take_all}
use Rattle.num_whole.specs.Tests.{less, same, pick, both}
use Rattle.num_whole.specs.Sums.{Within}
use Rattle.num_whole.specs.Lists.{all}
use Rattle.num_whole.proofs.Cases.{apart, by_cases, is_same, not_same, same_true, same_false, less_true, less_false, yes, no}
use Rattle.num_whole.proofs.Ints.{square, +-within}
use Rattle.num_whole.proofs.Adding.{length_plus, get_d_plus}
use Rattle.num_packed.specs.Triangle.{tri}
use Rattle.num_packed.specs.Sound.{entry, is_zero}
use Rattle.num_packed.proofs.Tests.{zero_true, zero_is}
use Rattle.num_packed.proofs.Places.{tri_within}
use Rattle.num_packed.proofs.Entries.{all_within}
use Rattle.arc_record.specs.Record.{partials_in}
use Rattle.take_counts.specs.Counts.{sum_of}
use Rattle.take_counts.proofs.Totals.{sum_le}
use Rattle.num_limits.specs.Capacities.{accepted_most}
use Rattle.take_marks.specs.Marks.{has_mark, with_mark}
use Rattle.take_marks.proofs.Marks.{mark_kept, zero_marks, marked_some}
use Rattle.take_marks.proofs.Lists.{marks_length, mark_at}
use Rattle.take_tally.specs.Tally.{no_row, count_of, last_times, mark_of, row_with, tally_with, empty_tally, accepted, square_top}
use Rattle.take_tally.specs.declared.Row.{Row}
use Rattle.take_room.specs.Room.{cleared}
use Rattle.take_state.specs.State.{State, state_of, sound_state}
use Rattle.take_laws.specs.Taking.{Frame, station_row, stamp, type_column, scaled, weight_in, matrix_terms, right_terms, book, record_answer, record_step}
use Rattle.take_laws.proofs.Accepted.{accepted_in_lem, terms, matrix_at, right_at, length_partials_in}
use Rattle.take_laws.proofs.Parts.{Good, good, sound}

-- ---- what is asked of a heading and of a state's lists
pub record Fine (f : Frame) : Type 0 where
  pub level : f.settings.level ≤ 100
  pub few : f.parameters ≤ 50
  pub seats : length f.numbers ≤ 16

pub record Shaped (f : Frame) (s : State) : Type 0 where
  pub matrix : tri f.parameters ≤ length s.matrix
  pub rights : f.parameters ≤ length s.rights
  pub counts : length s.tally.counts ≡ 16
  pub rows : length s.tally.rows ≡ 16
  pub marks : length s.tally.marks ≡ 50

-- ---- one more
pub sum_set : (l : List ℕ) (i : ℕ) → i < length l → sum_of (set l i (get_or l i 0 + 1)) ≡ suc (sum_of l)
unfolding sum_of
sum_set [] i h = absurd (not-suc-le-zero h)
sum_set (a ∷ l) zero h = omega arith
sum_set (a ∷ l) (suc i) h = omega (arith, sum_set l i (le_of_suc-le-suc h))

one_more : (x y : ℤ) (n m : ℕ) → nat_abs x ≤ n * m → nat_abs y ≤ m → nat_abs (x +ℤ y) ≤ suc n * m
one_more x y n m h g = omega (arith, +-within x y h g)

-- ---- a sum that is not negative, and a weighted square added to it
pub square_is : (w : ℕ) (a : ℤ) → pos w *ℤ (a *ℤ a) ≡ pos (w * (nat_abs a * nat_abs a))
square_is w a = ap (λ z. pos w *ℤ z) (square a)

-- it is 0 exactly where it was and the number squared is
pub grows : (d w : ℕ) (a : ℤ) → 1 ≤ w → d + w * (nat_abs a * nat_abs a) ≡ 0 → (d ≡ 0) × (a ≡ pos 0)
grows d w (pos zero) h e = (omega arith, refl)
grows d w (pos (suc n)) h e = absurd (omega (arith, mul-pos h (mul-pos (zero-lt-suc n) (zero-lt-suc n))))
grows d w (negsuc n) h e = absurd (omega (arith, mul-pos h (mul-pos (zero-lt-suc n) (zero-lt-suc n))))

grown : (d : ℤ) (w : ℕ) (a : ℤ) → d ≡ pos (nat_abs d) → d +ℤ pos w *ℤ (a *ℤ a) ≡ pos (nat_abs d + w * (nat_abs a * nat_abs a))
grown d w a h = ap₂ (λ x y. x +ℤ y) h (square_is w a)

nat_is : (x : ℤ) (n : ℕ) → x ≡ pos n → x ≡ pos (nat_abs x)
nat_is x n e = e ∙ ap (λ z. pos (nat_abs z)) (sym e)

grown_zero : (d : ℤ) (w : ℕ) (a : ℤ) → d ≡ pos (nat_abs d) → 1 ≤ w → d +ℤ pos w *ℤ (a *ℤ a) ≡ pos 0 → (d ≡ pos 0) × (a ≡ pos 0)
grown_zero d w a h g e =
    let z = grows (nat_abs d) w a g (ap nat_abs (sym (grown d w a h) ∙ e)) in
    (h ∙ ap pos z.0, z.1)

zero_left : (w : ℕ) (b : ℤ) → pos w *ℤ (pos 0 *ℤ b) ≡ pos 0
zero_left w b = ap (λ x. pos w *ℤ x) (zero-*ℤ b) ∙ *ℤ-zero (pos w)

zero_right : (w : ℕ) (b : ℤ) → pos w *ℤ (b *ℤ pos 0) ≡ pos 0
zero_right w b = ap (λ x. pos w *ℤ x) (*ℤ-zero b) ∙ *ℤ-zero (pos w)

-- ---- what booking makes of each sum
module _ (f : Frame) (b : List ℕ) (s : State) (k : Shaped f s) where
  pub book_entry : (i j : ℕ) → i ≤ j → j < f.parameters
      → entry (book f b s).matrix i j
      ≡ entry s.matrix i j +ℤ pos (weight_in b) *ℤ (get_or (partials_in f.parameters b) i (pos 0) *ℤ get_or (partials_in f.parameters b) j (pos 0))
  unfolding book
  book_entry i j h l =
      get_d_plus s.matrix (matrix_terms f b) (tri j + i) (omega (arith, tri_within j f.parameters l, k.matrix))
      ∙ ap (λ z. entry s.matrix i j +ℤ z) (matrix_at f b i j h l)

  pub book_side : (i : ℕ) → i < f.parameters
      → get_or (book f b s).rights i (pos 0)
      ≡ get_or s.rights i (pos 0) +ℤ pos (weight_in b) *ℤ (get_or (partials_in f.parameters b) i (pos 0) *ℤ scaled b)
  unfolding book
  book_side i l =
      get_d_plus s.rights (right_terms f b) i (omega (arith, k.rights)) ∙ ap (λ z. get_or s.rights i (pos 0) +ℤ z) (right_at f b i)

  pub book_shaped : Shaped f (book f b s)
  unfolding book tally_with
  book_shaped = record {
    matrix = rw length_plus k.matrix;
    rights = rw length_plus k.rights;
    counts = rw length-set k.counts;
    rows = rw length-set k.rows;
    marks = marks_length (station_row f b) (partials_in f.parameters b) s.tally.marks ∙ k.marks;
  }

  pub book_accepted : station_row f b < 16 → accepted (book f b s).tally ≡ suc (accepted s.tally)
  unfolding book tally_with
  book_accepted h = sum_set s.tally.counts (station_row f b) (omega (arith, k.counts))

  -- a parameter's marks, with the station's where the partial is not 0
  pub book_mark : (i : ℕ) → i < 50
      → mark_of (book f b s).tally i
      ≡ pick (is_zero (get_or (partials_in f.parameters b) i (pos 0))) (mark_of s.tally i) (with_mark (mark_of s.tally i) (station_row f b))
  unfolding book tally_with
  book_mark i h = mark_at (station_row f b) (partials_in f.parameters b) s.tally.marks i (omega (arith, k.marks))

  pub book_unmarked : (i : ℕ) → i < 50 → get_or (partials_in f.parameters b) i (pos 0) ≡ pos 0 → mark_of (book f b s).tally i ≡ mark_of s.tally i
  book_unmarked i h e = book_mark i h ∙ sym (yes _ _ _ (zero_is _ e) refl)

  pub book_marked : (i : ℕ) → i < 50 → is_zero (get_or (partials_in f.parameters b) i (pos 0)) ≡ false
      → mark_of (book f b s).tally i ≡ with_mark (mark_of s.tally i) (station_row f b)
  book_marked i h e = book_mark i h ∙ sym (no _ _ _ e refl)

  -- no count falls, and the station's own is not 0
  book_counts : station_row f b < 16 → (i : ℕ) → count_of s.tally i ≤ count_of (book f b s).tally i
  unfolding book tally_with
  book_counts h i =
      by_cases (same i (station_row f b))
      (λ c. let here : i ≡ station_row f b = same_true _ _ c in
      rw (here, get_or-set_same s.tally.counts (station_row f b) (count_of s.tally (station_row f b) + 1) 0 (omega (arith, k.counts))) (omega arith))
      (λ c. rw (get_or-set_other s.tally.counts (station_row f b) i (count_of s.tally (station_row f b) + 1) 0 (same_false _ _ c)) (le_refl _))

  book_own : station_row f b < 16 → 1 ≤ count_of (book f b s).tally (station_row f b)
  unfolding book tally_with
  book_own h = rw (get_or-set_same s.tally.counts (station_row f b) (count_of s.tally (station_row f b) + 1) 0 (omega (arith, k.counts))) (omega arith)

-- ---- an accepted record leaves a sound state sound
module _ (f : Frame) (fine : Fine f) (stations : ℕ) (enough : length f.numbers ≤ stations) (b : List ℕ) (s : State) (k : Shaped f s) where
  book_good : record_answer f b s ≡ 0 → Good stations f.parameters s → Good stations f.parameters (book f b s)
  unfolding book tally_with
  book_good e g =
      let p = f.parameters in
      let t = s.tally in
      let at = station_row f b in
      let n = accepted t in
      let w = weight_in b in
      let a : ℕ → ℤ = λ i. get_or (partials_in p b) i (pos 0) in
      let ok = accepted_in_lem f b s e in
      let big = terms f b _ _ fine.level ok in
      let row : at < length f.numbers = ok.fits.row in
      let listed : at < 16 = omega (arith, fine.seats) in
      let more : accepted (book f b s).tally ≡ suc n = book_accepted f b s k listed in
      let zeros : (i : ℕ) → i < p → entry (book f b s).matrix i i ≡ pos 0 → (entry s.matrix i i ≡ pos 0) × (a i ≡ pos 0) =
      λ i l z. grown_zero (entry s.matrix i i) w (a i) ((g.matrix i i (le_refl i) l).diagonal refl) big.heavy (sym (book_entry f b s k i i (le_refl i) l) ∙ z) in
      record {
        counts = λ i h. by_cases (same i at)
            (λ c. let here : i ≡ at = same_true i at c in rw (here, get_or-set_same t.counts at (count_of t at + 1) 0 (omega (arith, k.counts))) (omega (arith, ok.seat)))
            (λ c. rw (get_or-set_other t.counts at i (count_of t at + 1) 0 (same_false i at c)) (g.counts i h));
        past_counts = λ i h l. get_or-set_other t.counts at i (count_of t at + 1) 0 (omega arith) ∙ g.past_counts i h l;
        past_times = λ i h l. rw (get_or-set_other t.rows at i (row_with (last_times t at) (type_column b) (stamp f b)) no_row (omega arith)) (g.past_times i h l);
        square = omega (arith, g.square, big.square, more);
        matrix = λ i j h l. rw more (record {
          small = rw (book_entry f b s k i j h l) (one_more (entry s.matrix i j) _ n (2 ^ 46) (g.matrix i j h l).small
              (subst (λ z. nat_abs z ≤ 2 ^ 46) (matrix_at f b i j h l) (big.matrix (tri j + i))));
          diagonal = λ z. subst (λ m. entry (book f b s).matrix i m ≡ pos (nat_abs (entry (book f b s).matrix i m))) z (nat_is _ _
              (book_entry f b s k i i (le_refl i) (omega arith) ∙ grown (entry s.matrix i i) w (a i) ((g.matrix i i (le_refl i) (omega arith)).diagonal refl)));
          row = λ z. let q = zeros i (omega arith) z in
              book_entry f b s k i j h l ∙ ap₂ (λ x y. x +ℤ y) ((g.matrix i j h l).row q.0) (ap (λ x. pos w *ℤ (x *ℤ a j)) q.1 ∙ zero_left w (a j));
          column = λ z. let q = zeros j l z in
              book_entry f b s k i j h l ∙ ap₂ (λ x y. x +ℤ y) ((g.matrix i j h l).column q.0) (ap (λ x. pos w *ℤ (a i *ℤ x)) q.1 ∙ zero_right w (a i));
        });
        rights = λ i l. rw more (record {
          small = rw (book_side f b s k i l) (one_more (get_or s.rights i (pos 0)) _ n (2 ^ 43) (g.rights i l).small
              (subst (λ z. nat_abs z ≤ 2 ^ 43) (right_at f b i) (big.rights i)));
          zero = λ z. let q = zeros i l z in
              book_side f b s k i l ∙ ap₂ (λ x y. x +ℤ y) ((g.rights i l).zero q.0) (ap (λ x. pos w *ℤ (x *ℤ scaled b)) q.1 ∙ zero_left w (scaled b));
        });
        marks = λ i h l. record {
          unseen = λ z. let q = zeros i l z in book_unmarked f b s k i h q.1 ∙ (g.marks i h l).unseen q.0;
          unmarked = λ z. by_cases (is_zero (a i))
              (λ c. let q = zero_true (a i) c in
              book_entry f b s k i i (le_refl i) l
              ∙ ap₂ (λ x y. x +ℤ y) ((g.marks i h l).unmarked (sym (book_unmarked f b s k i h q) ∙ z)) (ap (λ x. pos w *ℤ (x *ℤ a i)) q ∙ zero_left w (a i)))
              (λ c. absurd (marked_some (mark_of t i) at (sym (book_marked f b s k i h c) ∙ z)));
          heard = λ j small has. by_cases (is_zero (a i))
              (λ c. le_trans ((g.marks i h l).heard j small (ap (λ x. has_mark x j) (sym (book_unmarked f b s k i h (zero_true (a i) c))) ∙ has)) (book_counts f b s k listed j))
              (λ c. by_cases (same j at)
              (λ d. subst (λ x. 1 ≤ count_of (book f b s).tally x) (sym (same_true _ _ d)) (book_own f b s k listed))
              (λ d. le_trans ((g.marks i h l).heard j small (sym (mark_kept (mark_of t i) at j (same_false _ _ d)) ∙ ap (λ x. has_mark x j) (sym (book_marked f b s k i h c)) ∙ has)) (book_counts f b s k listed j)));
        };
        past_marks = λ i h l. book_unmarked f b s k i h (get_or-eq_default (partials_in p b) (pos 0) (omega (arith, length_partials_in p b, l))) ∙ g.past_marks i h l;
      }

  pub kept_in : sound_state stations f.parameters s ≡ true → record_answer f b s ≡ 0 → sound_state stations f.parameters (book f b s) ≡ true
  kept_in v e = sound stations f.parameters (book f b s) (book_good e (good stations f.parameters s v))

-- the step books an accepted record, and leaves the state for any other
module _ (f : Frame) (b : List ℕ) (s : State) where
  pub step_books : record_answer f b s ≡ 0 → record_step f b s ≡ book f b s
  unfolding record_step
  step_books e = sym (yes _ _ _ (is_same _ _ e) refl)

  pub step_leaves : (record_answer f b s ≡ 0 → ⊥) → record_step f b s ≡ s
  unfolding record_step
  step_leaves e = sym (no _ _ _ (not_same _ _ e) refl)

  -- what a state keeps where a record is accepted, it keeps in the step
  pub step_keeps : (P : State → Type 0) → (record_answer f b s ≡ 0 → P (book f b s)) → P s → P (record_step f b s)
  step_keeps P h v =
      by_cases (same (record_answer f b s) 0)
      (λ t. let e = same_true _ _ t in subst P (sym (step_books e)) (h e))
      (λ t. subst P (sym (step_leaves (same_false _ _ t))) v)

  pub shaped_step : Shaped f s → Shaped f (record_step f b s)
  shaped_step k = step_keeps (Shaped f) (λ e. book_shaped f b s k) k

  pub kept_step_in : Fine f → (stations : ℕ) → length f.numbers ≤ stations → Shaped f s
      → sound_state stations f.parameters s ≡ true → sound_state stations f.parameters (record_step f b s) ≡ true
  kept_step_in fine stations enough k v =
      step_keeps (λ u. sound_state stations f.parameters u ≡ true) (λ e. kept_in f fine stations enough b s k v e) v

  -- the same with the stations that the heading lists
  pub kept : Fine f → Shaped f s → sound_state (length f.numbers) f.parameters s ≡ true → record_answer f b s ≡ 0
      → sound_state (length f.numbers) f.parameters (book f b s) ≡ true
  kept fine k v e = kept_in f fine (length f.numbers) (le_refl _) b s k v e

  pub kept_step : Fine f → Shaped f s → sound_state (length f.numbers) f.parameters s ≡ true
      → sound_state (length f.numbers) f.parameters (record_step f b s) ≡ true
  kept_step fine k v = kept_step_in fine (length f.numbers) (le_refl _) k v

-- ---- the empty state
cleared_at : (n : ℕ) (l : List ℤ) (k : ℕ) → k < n → get_or (cleared n l) k (pos 0) ≡ pos 0
unfolding cleared
cleared_at n l k h =
    get_or-append (replicate n (pos 0)) (drop n l) (pos 0) k (rw length-replicate h) ∙ get_or-replicate n k (pos 0) (pos 0) h

pub length_cleared : (n : ℕ) (l : List ℤ) → n ≤ length l → length (cleared n l) ≡ length l
unfolding cleared
length_cleared n l h =
    length-append (replicate n (pos 0)) (drop n l) ∙ omega (arith, length-replicate n (pos 0), length-drop n l)

-- every sum of it is 0
module _ (p : ℕ) (m r : List ℤ) where
  pub empty_entry : (i j : ℕ) → i ≤ j → j < p → entry (cleared (tri p) m) i j ≡ pos 0
  empty_entry i j h l = cleared_at (tri p) m (tri j + i) (omega (arith, tri_within j p l))

  pub empty_side : (i : ℕ) → i < p → get_or (cleared p r) i (pos 0) ≡ pos 0
  empty_side i l = cleared_at p r i l

  no_mark : (i : ℕ) → i < 50 → mark_of empty_tally i ≡ 0
  no_mark i h = get_or-replicate {A = ℕ} 50 i 0 0 h

  empty_good : (stations : ℕ) → Good stations p (state_of (cleared (tri p) m) (cleared p r) empty_tally)
  unfolding all both same sum_of
  empty_good stations = record {
    counts = λ i h. rw (get_or-replicate {A = ℕ} 16 i 0 0 h) zero-le;
    past_counts = λ i h l. get_or-replicate {A = ℕ} 16 i 0 0 h;
    past_times = λ i h l. ap (λ (w : Row). all (λ t. same t 0) w.times) (get_or-replicate 16 i (record { times = replicate 10 0 }) no_row h);
    square = zero-le;
    matrix = λ i j h l. record {
      small = rw (empty_entry i j h l) zero-le;
      diagonal = λ e. nat_is _ 0 (empty_entry i j h l);
      row = λ e. empty_entry i j h l;
      column = λ e. empty_entry i j h l;
    };
    rights = λ i l. record { small = rw (empty_side i l) zero-le; zero = λ e. empty_side i l };
    marks = λ i h l. record {
      unseen = λ e. no_mark i h;
      unmarked = λ e. empty_entry i i (le_refl i) l;
      heard = λ k small has. absurd (apart (sym has ∙ ap (λ n. has_mark n k) (no_mark i h) ∙ zero_marks k));
    };
    past_marks = λ i h l. no_mark i h;
  }

  pub empty_sound : (stations : ℕ) → sound_state stations p (state_of (cleared (tri p) m) (cleared p r) empty_tally) ≡ true
  empty_sound stations = sound stations p (state_of (cleared (tri p) m) (cleared p r) empty_tally) (empty_good stations)

-- ---- the sums of a sound state fit their words
-- a place of the triangle is a row of a column
pub record Placed (p k : ℕ) : Type 0 where
  pub row : ℕ
  pub column : ℕ
  pub upper : row ≤ column
  pub inside : column < p
  pub is : k ≡ tri column + row

pub placed : (p k : ℕ) → k < tri p → Placed p k
unfolding tri
placed zero k h = absurd (not-suc-le-zero h)
placed (suc p) k h =
    by_cases (less k (tri p))
    (λ t. let r = placed p k (less_true _ _ t) in record { row = r.row; column = r.column; upper = r.upper; inside = omega (arith, r.inside); is = r.is })
    (λ t. let l : tri p ≤ k = less_false _ _ t in record { row = k - tri p; column = p; upper = omega arith; inside = le_refl _; is = omega arith })

module _ (stations p : ℕ) (s : State) (v : sound_state stations p s ≡ true) where
  pub matrix_bound : (k : ℕ) → k < tri p → nat_abs (get_or s.matrix k (pos 0)) ≤ accepted s.tally * 2 ^ 46
  matrix_bound k h =
      let at = placed p k h in
      subst (λ n. nat_abs (get_or s.matrix n (pos 0)) ≤ accepted s.tally * 2 ^ 46) (sym at.is)
      ((good stations p s v).matrix at.row at.column at.upper at.inside).small

  pub right_bound : (i : ℕ) → i < p → nat_abs (get_or s.rights i (pos 0)) ≤ accepted s.tally * 2 ^ 43
  right_bound i h = ((good stations p s v).rights i h).small

  pub square_bound : s.tally.square ≤ square_top (accepted s.tally)
  square_bound = (good stations p s v).square

  module _ (long : length s.tally.counts ≡ 16) where
    pub accepted_few : accepted s.tally ≤ 4096
    accepted_few = omega (arith, sum_le s.tally.counts 256 (λ i h. (good stations p s v).counts i (omega arith)))

    -- of lent room, the part that holds the sums
    pub matrix_part : Within (2 ^ 62) (take (tri p) s.matrix)
    matrix_part = all_within (2 ^ 62) (take (tri p) s.matrix) (λ k h. let l : k < tri p = omega (arith, length-take (tri p) s.matrix) in
        rw (get_or-take (tri p) s.matrix k (pos 0) l) (omega (arith, accepted_few, matrix_bound k l)))

    pub rights_part : Within (2 ^ 62) (take p s.rights)
    rights_part = all_within (2 ^ 62) (take p s.rights) (λ k h. let l : k < p = omega (arith, length-take p s.rights) in
        rw (get_or-take p s.rights k (pos 0) l) (omega (arith, accepted_few, right_bound k l)))

    -- and where the room is no longer, all of it
    pub matrix_within : length s.matrix ≡ tri p → Within (2 ^ 62) s.matrix
    matrix_within e = subst (λ l. Within (2 ^ 62) l) (take_all (tri p) s.matrix (omega arith)) matrix_part

    pub rights_within : length s.rights ≡ p → Within (2 ^ 62) s.rights
    rights_within e = subst (λ l. Within (2 ^ 62) l) (take_all p s.rights (omega arith)) rights_part

    pub square_fits : s.tally.square ≤ square_top accepted_most
    square_fits = omega (arith, accepted_few, square_bound)

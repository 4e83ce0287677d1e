-- Demand 3 for the arc: records of different stations commute, an answer hears only its own station's count and last times, and a record of no
-- station is answered by itself. The rest is the law of any such machine.
-- Assumes nothing.
use Prim.Native.Nat.{ℕ, ◌+◌, ◌≤◌, ◌<◌}
use mathlib.Core.Path.{◌≡◌, refl, sym, ap, ap₂, ◌∙◌}
use mathlib.Core.List.{List, [], ◌∷◌}
use native.Mathlib.Nat.{add_right_comm}
use native.Mathlib.Omega.{arith}
use lib.IntN.{ℤ}
use lib.ListN.{length, get_or}
use lib.Seq.{get_or-set_other}
use Rattle.num_whole.specs.Tests.{up_to, same}
use Rattle.num_whole.specs.Answer.{Answered, given, refused}
use Rattle.num_whole.proofs.Cases.{by_cases, is_same, same_true, same_false, yes, no}
use Rattle.num_whole.proofs.Adding.{plus_comm}
use Rattle.refusal.specs.First.{number_in, first, value_or}
use Rattle.refusal.proofs.Firsts.{first_none, first_pass, first_stop}
use Rattle.arc_kinds.specs.Kinds.{record_size}
use Rattle.arc_heading.specs.declared.Heading.{Heading}
use Rattle.arc_record.specs.Record.{partials_in}
use Rattle.take_marks.proofs.Lists.{records_swap}
use Rattle.take_tally.specs.Tally.{no_row, count_of, last_times, row_with, tally_with}
use Rattle.take_state.specs.State.{State, room_number, started}
use Rattle.take_laws.specs.Machine.{run}
use Rattle.take_laws.specs.Taking.{Frame, frame_of, station_in, station_row, stamp, type_column, length_tests, record_tests, judged_by, record_number, record_answer, record_step, matrix_terms, right_terms, square_term, book}
use Rattle.take_laws.specs.Mix.{keep, pairs, only, in_order, records_told, told_to}
use Rattle.take_laws.specs.Arc.{end_of, told_in}
use Rattle.take_laws.specs.Order.{whose, stray_answer, Mixes, Order}
use Rattle.take_laws.proofs.Lists.{in_order_alike}
use Rattle.take_laws.proofs.Accepted.{length_right, station_listed, not_found}
use Rattle.take_laws.proofs.Kept.{Fine, step_books, step_leaves}
use Rattle.take_laws.proofs.Guarded.{fine, held_heading, started_held, guarded_run, guarded_answers}
use Rattle.take_laws.proofs.Booking.{stationed, change_comm}
use Rattle.take_laws.proofs.Trace.{Stationed, alone, same_answers, same_end, in_order_lem, stray_answers}

-- ---- a record of a station, and one of none
given_place : (x : Answered ℕ) (k : ℕ) → k < 16 → value_or 16 x ≡ k → x ≡ given k
unfolding value_or
given_place (given i) k h e = ap given e
given_place (refused n) k h e = absurd (omega arith)

module _ (f : Frame) (b : List ℕ) where
  right_length : length b ≡ record_size f.parameters → whose f b ≡ station_row f b
  unfolding whose
  right_length e = sym (yes _ _ _ (is_same _ _ e) refl)

  pub of_station : (k : ℕ) → k < 16 → whose f b ≡ k → (length b ≡ record_size f.parameters) × (station_in f b ≡ given k)
  unfolding whose station_row
  of_station k h e =
      by_cases (same (length b) (record_size f.parameters))
      (λ t. let long = same_true _ _ t in (long, given_place (station_in f b) k h (sym (right_length long) ∙ e)))
      (λ t. let z : whose f b ≡ 16 = sym (no _ _ _ t refl) in absurd (omega arith))

  pub by_row : (k : ℕ) → length b ≡ record_size f.parameters → station_in f b ≡ given k → whose f b ≡ k
  unfolding station_row value_or
  by_row k long e = right_length long ∙ ap (value_or 16) e

  pub stray_refused : stray_answer f b ≡ 0 → ⊥
  unfolding stray_answer
  stray_refused e = let z = (first_none _ _ (first_none _ _ e).1).0 in omega arith

  module _ (few : Fine f) where
    -- its length is right, so that its station is not listed
    ten : 16 ≤ whose f b → first (length_tests f b) ≡ 0 → first (record_tests f b) ≡ 10
    unfolding record_tests station_in
    ten h e =
        let here : whose f b ≡ station_row f b = right_length (length_right f b e) in
        let listed : number_in (station_in f b) ≡ 0 → ⊥ = λ z. omega (arith, (station_listed f b z).1, few.seats) in
        first_stop _ _ listed ∙ not_found _ _ _ listed

    pub stray_answer_lem : (s : State) → 16 ≤ whose f b → record_answer f b s ≡ stray_answer f b
    unfolding stray_answer record_answer record_number judged_by
    stray_answer_lem s h =
        by_cases (same (first (length_tests f b)) 0)
        (λ t. let e = same_true _ _ t in
        let z : first (record_tests f b) ≡ 10 = ten h e in
        first_pass _ _ e ∙ first_stop _ _ (omega arith) ∙ z ∙ sym (first_pass _ _ e ∙ first_stop 10 [] (omega arith)))
        (λ t. let e = same_false _ _ t in first_stop _ _ e ∙ sym (first_stop _ (10 ∷ []) e))

-- ---- records of different stations
module _ (f : Frame) (b c : List ℕ) (s : State) (d : station_row f b ≡ station_row f c → ⊥) where
  book_deaf : record_answer f b (book f c s) ≡ record_answer f b s
  unfolding record_answer record_number book tally_with
  book_deaf =
      ap₂ (λ w n. judged_by f b (get_or w.times (type_column b) 0) n)
      (get_or-set_other s.tally.rows (station_row f c) (station_row f b) (row_with (last_times s.tally (station_row f c)) (type_column c) (stamp f c)) no_row d)
      (get_or-set_other s.tally.counts (station_row f c) (station_row f b) (count_of s.tally (station_row f c) + 1) 0 d)

  book_commute : book f b (book f c s) ≡ book f c (book f b s)
  unfolding book tally_with
  book_commute = λ i. record {
    matrix = plus_comm s.matrix (matrix_terms f c) (matrix_terms f b) i;
    rights = plus_comm s.rights (right_terms f c) (right_terms f b) i;
    tally = record {
      square = add_right_comm s.tally.square (square_term c) (square_term b) i;
      counts = change_comm s.tally.counts 0 (station_row f b) (station_row f c) (λ n. n + 1) (λ n. n + 1) d i;
      rows = change_comm s.tally.rows no_row (station_row f b) (station_row f c) (λ w. row_with w (type_column b) (stamp f b)) (λ w. row_with w (type_column c) (stamp f c)) d i;
      marks = records_swap (station_row f c) (station_row f b) (partials_in f.parameters c) (partials_in f.parameters b) s.tally.marks i;
    };
  }

-- ---- the machine of a heading that is accepted
module _ (f : Frame) (few : Fine f) where
  different : (b c : List ℕ) → whose f b < 16 → whose f c < 16 → (whose f b ≡ whose f c → ⊥) → station_row f b ≡ station_row f c → ⊥
  different b c p q d e =
      d (right_length f b (of_station f b _ p refl).0 ∙ e ∙ sym (right_length f c (of_station f c _ q refl).0))

  pub by_stations : Stationed (record_step f) (record_answer f) (whose f) 16
  by_stations =
      stationed (record_step f) (book f) (record_answer f) (step_books f) (step_leaves f) (whose f) 16 (stray_answer f)
      (λ b c s p q d. book_commute f b c s (different b c p q d)) (λ b c s p q d. book_deaf f b c s (different b c p q d))
      (λ b s h. stray_answer_lem f b few s h) (λ b h. stray_refused f b)

-- Demand 3: for every heading that is accepted, with room for its sums
module _ (h : Heading) (m r : List ℤ) (e : room_number h m r ≡ 0) where
  pub order : Order h m r
  order =
      let f = frame_of h in
      let s = started h m r in
      let v = started_held h m r e in
      let few = fine h (held_heading h s v) in
      let k = by_stations f few in
      let ends : (bs : List (List ℕ)) → end_of h m r bs ≡ run (record_step f) s bs = λ bs. guarded_run h bs s v in
      let tells : (bs : List (List ℕ)) → told_in h m r bs ≡ records_told (record_step f) (record_answer f) s bs = λ bs. ap (pairs bs) (guarded_answers h bs s v) in
      let hears : (bs cs : List (List ℕ)) → Mixes f bs cs → (n : ℕ) → n < 16 → told_to (whose f) n (told_in h m r bs) ≡ told_to (whose f) n (told_in h m r cs) =
      λ bs cs x n l. ap (told_to (whose f) n) (tells bs) ∙ same_answers (record_step f) (record_answer f) (whose f) 16 k bs cs x n l s
      ∙ sym (ap (told_to (whose f) n) (tells cs)) in
      record {
        rows = λ b n l. (of_station f b n l, λ z. by_row f b n z.0 z.1);
        alone = λ bs n. ap (told_to (whose f) n) (tells bs) ∙ alone (record_step f) (record_answer f) (whose f) 16 k n bs s ∙ sym (tells (only (whose f) n bs));
        strays = λ bs. ap (keep (λ x. up_to 16 (whose f x.0))) (tells bs)
            ∙ stray_answers (record_step f) (record_answer f) (whose f) 16 (stray_answer f) (λ b s h. stray_answer_lem f b few s h) bs s;
        one_by_one = λ bs n l. hears bs (in_order (whose f) 16 bs) (in_order_alike (whose f) 16 bs) n l;
        ends = λ bs. ends bs ∙ in_order_lem (record_step f) (record_answer f) (whose f) 16 k bs s ∙ sym (ends (in_order (whose f) 16 bs));
        same_answers = hears;
        same_end = λ bs cs x. ends bs ∙ same_end (record_step f) (record_answer f) (whose f) 16 k bs cs s x ∙ sym (ends cs);
      }

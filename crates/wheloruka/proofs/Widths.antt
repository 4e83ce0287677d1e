-- The tally of each state that records lead to has numbers of their widths, so that what one call lays in the tally's room the next one reads.
-- Assumes nothing.
use Prim.Native.Nat.{ℕ, zero, suc, ◌+◌, ◌^◌, ◌<◌}
use mathlib.Core.Path.{◌≡◌, refl, sym, subst, ◌∙◌}
use mathlib.Core.Bool.{Bool, true, false, ◌&&◌}
use mathlib.Core.List.{List, [], ◌∷◌}
use native.Mathlib.Omega.{arith}
use native.Mathlib.Nat.{not-suc-le-zero, le_of_suc-le-suc}
use borrow.Author.Tests.{ltb-true}
use lib.Dec.{leb}
use lib.IntN.{pos}
use lib.ListN.{length, get_or, set, replicate, length-set}
use Rattle.num_whole.specs.Lists.{Each}
use Rattle.num_whole.proofs.Cases.{apart, yes, no, is_same, same_true, by_cases, both_second, up_to_true}
use Rattle.num_whole.specs.Tests.{same}
use Rattle.byte_words.specs.Words.{word}
use Rattle.byte_words.specs.Stands.{stands}
use Rattle.byte_words.proofs.Words.{Bytes, word_small}
use Rattle.byte_words.proofs.Stands.{length_stands}
use Rattle.refusal.proofs.Firsts.{first_none}
use Rattle.days_leap.specs.Leap.{day_start}
use Rattle.days_leap.proofs.Days.{start_most_lem}
use Rattle.take_rules.specs.Rules.{in_window}
use Rattle.arc_limits.specs.Limits.{window_ok, settings_ok}
use Rattle.arc_heading.specs.declared.Heading.{Heading}
use Rattle.arc_heading.proofs.Sound.{Sound}
use Rattle.take_marks.proofs.Lists.{marks_length, marks_small}
use Rattle.take_tally.specs.Tally.{no_row, last_times, tally_with, empty_tally}
use Rattle.take_state.specs.State.{State, state_number}
use Rattle.take_laws.specs.Machine.{run}
use Rattle.take_laws.specs.Taking.{frame_of, station_row, type_column, stamp, book, record_answer, record_step, take_answer, take_step, records_in, run_number, run_state}
use Rattle.take_laws.proofs.Accepted.{Fits, accepted_in_lem, terms}
use Rattle.take_laws.proofs.Kept.{square_fits, step_keeps}
use Rattle.take_laws.proofs.Guarded.{Held, whole, fine, numbers_few, held_heading, held_step, take_step_lem}
use Rattle.take_laws.proofs.Trace.{reached}
use Rattle.call_tally.specs.Tally.{times_row_at, tally_in}
use Rattle.call_heading.proofs.Back.{RowFits, TallyFits}

-- ---- lists in which something holds of each
module _ {A : Type 0} (P : A → Type 0) where
  each_set : (l : List A) (i : ℕ) (v : A) → Each P l → P v → Each P (set l i v)
  each_set [] i v e h = tt
  each_set (a ∷ l) zero v e h = (h, e.1)
  each_set (a ∷ l) (suc i) v e h = (e.0, each_set l i v e.1 h)

  each_at : (l : List A) (i : ℕ) (d : A) → i < length l → Each P l → P (get_or l i d)
  each_at [] i d h e = absurd (not-suc-le-zero h)
  each_at (a ∷ l) zero d h e = e.0
  each_at (a ∷ l) (suc i) d h e = each_at l i d (le_of_suc-le-suc h) e.1

  each_stands : (f : ℕ → A) (size : ℕ) → ((at : ℕ) → P (f at)) → (n place : ℕ) → Each P (stands f size n place)
  unfolding stands
  each_stands f size h zero place = tt
  each_stands f size h (suc n) place = (h place, each_stands f size h n (place + size))

  each_same : (a : A) → P a → (n : ℕ) → Each P (replicate n a)
  each_same a h zero = tt
  each_same a h (suc n) = (h, each_same a h n)

-- ---- the tally in a room of bytes, and the empty one
pub bytes_fit : (b : List ℕ) → Bytes b → TallyFits (tally_in b)
unfolding tally_in times_row_at
bytes_fit b h = record {
  square = word_small 8 b 0 h;
  counted = length_stands (word 4 b) 4 16 8;
  counts = each_stands (λ n. n < 256 ^ 4) (word 4 b) 4 (λ at. word_small 4 b at h) 16 8;
  seats = length_stands (times_row_at b) 80 16 72;
  rows = each_stands RowFits (times_row_at b) 80 (λ at. record {
    long = length_stands (word 8 b) 8 10 at;
    times = each_stands (λ n. n < 256 ^ 8) (word 8 b) 8 (λ k. word_small 8 b k h) 10 at;
  }) 16 72;
  words = length_stands (word 2 b) 2 50 1352;
  marks = each_stands (λ n. n < 256 ^ 2) (word 2 b) 2 (λ at. word_small 2 b at h) 50 1352;
}

pub empty_fits : TallyFits empty_tally
empty_fits = record {
  square = omega arith;
  counted = refl;
  counts = each_same (λ n. n < 256 ^ 4) 0 (omega arith) 16;
  seats = refl;
  rows = each_same RowFits _ (record { long = refl; times = each_same (λ n. n < 256 ^ 8) 0 (omega arith) 10 }) 16;
  words = refl;
  marks = each_same (λ n. n < 256 ^ 2) 0 (omega arith) 50;
}

-- ---- a time in the window of a sound heading
after : (a b : Bool) → (a && b) ≡ true → b ≡ true
after true b e = e
after false b e = absurd (apart (sym e))

window_below : (first days n : ℕ) → in_window first days (pos n) ≡ true → n < day_start (first + days)
unfolding in_window
window_below first days n e = ltb-true _ _ (after (leb (day_start first) n) _ e)

module _ (h : Heading) (v : Sound h) (b : List ℕ) where
  stamp_small : Fits (frame_of h) b → stamp (frame_of h) b < 256 ^ 8
  unfolding settings_ok window_ok
  stamp_small f =
      let last = up_to_true _ _ (both_second _ _ (both_second _ _ (both_second _ _ (both_second _ _ v.settings)))) in
      let here = window_below _ _ _ (subst (λ t. in_window h.settings.first h.settings.days t ≡ true) f.time f.window) in
      omega (arith, start_most_lem _ last)

-- ---- a record that is booked, from any state that an entry may be handed
module _ (h : Heading) (b : List ℕ) (s : State) (v : Held h s) (fit : TallyFits s.tally) where
  fits_book : record_answer (frame_of h) b s ≡ 0 → TallyFits (book (frame_of h) b s).tally
  unfolding book tally_with
  fits_book e =
      let f = frame_of h in
      let t = s.tally in
      let heading = held_heading h s v in
      let ok = accepted_in_lem f b s e in
      let big = terms f b _ _ (fine h heading).level ok in
      let square = square_fits _ h.parameters s (whole h s v.number).state v.counts in
      let row : station_row f b < length t.rows = omega (arith, ok.fits.row, numbers_few h, heading.seats, fit.seats) in
      let was = each_at RowFits t.rows (station_row f b) no_row row fit.rows in
      record {
        square = omega (arith, big.square);
        counted = rw length-set fit.counted;
        counts = each_set (λ n. n < 256 ^ 4) t.counts (station_row f b) _ fit.counts (omega (arith, ok.seat));
        seats = rw length-set fit.seats;
        rows = each_set RowFits t.rows (station_row f b) _ fit.rows (record {
          long = rw length-set was.long;
          times = each_set (λ n. n < 256 ^ 8) (last_times t (station_row f b)).times (type_column b) (stamp f b) was.times (stamp_small h heading b ok.fits);
        });
        words = marks_length _ _ t.marks ∙ fit.words;
        marks = marks_small 16 (station_row f b) (omega (arith, row, fit.seats)) _ t.marks fit.marks;
      }

  fits_record : TallyFits (record_step (frame_of h) b s).tally
  fits_record = step_keeps (frame_of h) b s (λ u. TallyFits u.tally) fits_book fit

-- ---- one record, and a run, from a state of any values
module _ (h : Heading) (s : State) (fit : TallyFits s.tally) where
  held : state_number h s ≡ 0 → Held h s
  held e = record { number = e; counts = fit.counted; rows = fit.seats; marks = fit.words }

  pub fits_take : (b : List ℕ) → take_answer h b s ≡ 0 → TallyFits (take_step h b s).tally
  unfolding take_answer
  fits_take b e =
      let z = (first_none _ _ e).0 in
      subst (λ u. TallyFits u.tally) (sym (take_step_lem h b s z)) (fits_record h b s (held z) fit)

  -- also where it is refused
  pub fits_on : (b : List ℕ) → TallyFits (take_step h b s).tally
  unfolding take_step
  fits_on b =
      by_cases (same (take_answer h b s) 0)
      (λ t. fits_take b (same_true _ _ t))
      (λ t. subst (λ (u : State). TallyFits u.tally) (no _ _ _ t refl) fit)

  pub fits_run : (l : List ℕ) (room : ℕ) → run_number h l room s ≡ 0 → TallyFits (run_state h l room s).tally
  unfolding run_number run_state
  fits_run l room e =
      let z = (first_none _ _ (first_none _ _ e).1).0 in
      let f = frame_of h in
      let end : run (record_step f) s (records_in h l) ≡ run_state h l room s = yes _ _ _ (is_same _ _ e) refl in
      subst (λ u. TallyFits u.tally) end
      (reached (record_step f) (λ u. Held h u × TallyFits u.tally) (λ r u p. (held_step h u p.0 r, fits_record h r u p.0 p.1)) (records_in h l) s (held z, fit)).1

  pub fits_over : (l : List ℕ) (room : ℕ) → TallyFits (run_state h l room s).tally
  unfolding run_state
  fits_over l room =
      by_cases (same (run_number h l room s) 0)
      (λ t. fits_run l room (same_true _ _ t))
      (λ t. subst (λ (u : State). TallyFits u.tally) (no _ _ _ t refl) fit)

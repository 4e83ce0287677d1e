-- A heading and its state, judged before each record: the judgement never fails on the way, so that taking records one by one is the run.
-- Assumes nothing.
use Prim.Native.Nat.{ℕ, ◌≤◌, min}
use mathlib.Core.Path.{◌≡◌, refl, sym, ap, ap₂, ◌∙◌, subst}
use mathlib.Core.Bool.{true}
use mathlib.Core.List.{List, [], ◌∷◌}
use native.Mathlib.Omega.{arith}
use lib.IntN.{ℤ}
use lib.ListN.{length, take, length-map, length-take}
use Rattle.num_whole.specs.Tests.{pick, same}
use Rattle.num_whole.specs.Answer.{given}
use Rattle.num_whole.proofs.Cases.{holds, is_same, is_up_to, up_to_true, both_first, both_second, between_true, yes}
use Rattle.refusal.proofs.Firsts.{first_none_left, first_none, first_one, first_pass, unless_none, unless_true, number_given}
use Rattle.take_state.proofs.Rooms.{judged_given}
use Rattle.arc_limits.specs.Limits.{settings_ok, station_key}
use Rattle.arc_heading.specs.Judge.{stations_of, numbers_of, judged}
use Rattle.arc_heading.specs.declared.Heading.{Heading}
use Rattle.arc_heading.proofs.Sound.{Sound, sound as sound-heading}
use Rattle.num_packed.specs.Triangle.{tri}
use Rattle.num_packed.specs.Room.{sums_roomy}
use Rattle.take_tally.specs.Tally.{empty_tally}
use Rattle.take_room.specs.Room.{cleared}
use Rattle.take_state.specs.State.{State, state_of, capped, sound_state, roomy, room_number, state_number, started}
use Rattle.take_laws.specs.Machine.{run, answers}
use Rattle.take_laws.specs.Taking.{frame_of, record_answer, record_step, book, take_answer, take_step}
use Rattle.take_laws.proofs.Kept.{Fine, Shaped, shaped_step, kept_step_in, empty_sound, length_cleared}
use Rattle.take_laws.proofs.Trace.{reached}

-- ---- a sound heading
numbers_least : (h : Heading) → length (numbers_of (stations_of h)) ≡ min h.stations (length h.listed)
unfolding numbers_of stations_of
numbers_least h = length-map (take h.stations h.listed) station_key ∙ length-take h.stations h.listed

pub numbers_few : (h : Heading) → length (numbers_of (stations_of h)) ≤ h.stations
numbers_few h = omega (arith, numbers_least h)

pub fine : (h : Heading) → Sound h → Fine (frame_of h)
unfolding settings_ok
fine h v = record {
  level = (between_true _ _ _ (both_first _ _ (both_second _ _ v.settings))).1;
  few = v.few;
  seats = omega (arith, numbers_few h, v.seats);
}

-- ---- a heading with a state that nothing refuses
pub record Whole (h : Heading) (s : State) : Type 0 where
  pub room : roomy h s.matrix s.rights ≡ true
  pub heading : judged h ≡ given tt
  pub state : sound_state h.stations h.parameters s ≡ true

pub whole : (h : Heading) (s : State) → state_number h s ≡ 0 → Whole h s
unfolding state_number room_number
whole h s e =
    let a = first_none _ _ e in
    let r = first_none _ _ a.0 in
    record {
      room = unless_none 20 _ (omega arith) r.0;
      heading = judged_given h (first_none _ _ r.1).0;
      state = unless_none 6 _ (omega arith) (first_none _ _ a.1).0;
    }

pub whole_room : (h : Heading) (m r : List ℤ) → room_number h m r ≡ 0 → (roomy h m r ≡ true) × (judged h ≡ given tt)
unfolding room_number
whole_room h m r e =
    let a = first_none _ _ e in
    (unless_none 20 _ (omega arith) a.0, judged_given h (first_none _ _ a.1).0)

pub whole_none : (h : Heading) (s : State) → Whole h s → state_number h s ≡ 0
unfolding state_number room_number
whole_none h s w =
    first_pass _ _ (first_pass _ _ (unless_true 20 _ w.room) ∙ first_pass _ _ (number_given _ tt w.heading) ∙ first_none_left)
    ∙ first_pass _ _ (unless_true 6 _ w.state) ∙ first_none_left

-- room for the sums of a sound heading
pub roomed : (h : Heading) (m r : List ℤ) → h.parameters ≤ 50 → roomy h m r ≡ true → (tri h.parameters ≤ length m) × (h.parameters ≤ length r)
unfolding roomy sums_roomy
roomed h m r l e =
    let least : capped h ≡ h.parameters = omega arith in (
      subst (λ n. tri n ≤ length m) least (up_to_true _ _ (both_first _ _ e)),
      subst (λ n. n ≤ length r) least (up_to_true _ _ (both_second _ _ e)),
    )

pub roomy_by : (h : Heading) (m r : List ℤ) → h.parameters ≤ 50 → tri h.parameters ≤ length m → h.parameters ≤ length r → roomy h m r ≡ true
unfolding roomy sums_roomy
roomy_by h m r l a b =
    let least : h.parameters ≡ capped h = omega arith in
    sym (holds _ _ (is_up_to _ _ (subst (λ n. tri n ≤ length m) least a)) (sym (is_up_to _ _ (subst (λ n. n ≤ length r) least b))))

-- ---- a state that an entry may be handed
pub record Held (h : Heading) (s : State) : Type 0 where
  pub number : state_number h s ≡ 0
  pub counts : length s.tally.counts ≡ 16
  pub rows : length s.tally.rows ≡ 16
  pub marks : length s.tally.marks ≡ 50

module _ (h : Heading) (s : State) (v : Held h s) where
  pub held_heading : Sound h
  held_heading = sound-heading h (whole h s v.number).heading

  pub held_shaped : Shaped (frame_of h) s
  held_shaped =
      let r = roomed h s.matrix s.rights held_heading.few (whole h s v.number).room in
      record { matrix = r.0; rights = r.1; counts = v.counts; rows = v.rows; marks = v.marks }

  pub held_step : (b : List ℕ) → Held h (record_step (frame_of h) b s)
  held_step b =
      let f = frame_of h in
      let w = whole h s v.number in
      let k = shaped_step f b s held_shaped in
      record {
        number = whole_none h (record_step f b s) (record {
          room = roomy_by h _ _ held_heading.few k.matrix k.rights;
          heading = w.heading;
          state = kept_step_in f b s (fine h held_heading) h.stations (numbers_few h) held_shaped w.state;
        });
        counts = k.counts;
        rows = k.rows;
        marks = k.marks;
      }

-- ---- one record: where nothing is wrong with heading and state, the record alone is judged
module _ (h : Heading) (b : List ℕ) (s : State) (e : state_number h s ≡ 0) where
  pub take_answer_lem : take_answer h b s ≡ record_answer (frame_of h) b s
  unfolding take_answer
  take_answer_lem = first_pass _ _ e ∙ first_one (record_answer (frame_of h) b s)

  pub take_step_lem : take_step h b s ≡ record_step (frame_of h) b s
  unfolding take_step record_step
  take_step_lem = ap (λ n. pick (same n 0) (book (frame_of h) b s) s) take_answer_lem

-- ---- all of them
module _ (h : Heading) where
  pub guarded_run : (bs : List (List ℕ)) (s : State) → Held h s → run (take_step h) s bs ≡ run (record_step (frame_of h)) s bs
  unfolding run
  guarded_run [] s v = refl
  guarded_run (b ∷ bs) s v =
      ap (λ u. run (take_step h) u bs) (take_step_lem h b s v.number) ∙ guarded_run bs (record_step (frame_of h) b s) (held_step h s v b)

  pub guarded_answers : (bs : List (List ℕ)) (s : State) → Held h s
      → answers (take_step h) (take_answer h) s bs ≡ answers (record_step (frame_of h)) (record_answer (frame_of h)) s bs
  unfolding answers
  guarded_answers [] s v = refl
  guarded_answers (b ∷ bs) s v =
      ap₂ (λ n u. n ∷ answers (take_step h) (take_answer h) u bs) (take_answer_lem h b s v.number) (take_step_lem h b s v.number)
      ∙ ap (λ l. record_answer (frame_of h) b s ∷ l) (guarded_answers bs (record_step (frame_of h) b s) (held_step h s v b))

  -- and each state on the way is one that an entry may be handed
  pub held_run : (bs : List (List ℕ)) (s : State) → Held h s → Held h (run (record_step (frame_of h)) s bs)
  held_run bs s v = reached (record_step (frame_of h)) (Held h) (λ b u w. held_step h u w b) bs s v

-- ---- the empty state of a heading in lent room
module _ (h : Heading) (m r : List ℤ) (e : room_number h m r ≡ 0) where
  pub started_is : started h m r ≡ state_of (cleared (tri h.parameters) m) (cleared h.parameters r) empty_tally
  unfolding started
  started_is = sym (yes _ _ _ (is_same _ _ e) refl)

  pub started_held : Held h (started h m r)
  started_held = subst (Held h) (sym started_is) empty
    where
      empty : Held h (state_of (cleared (tri h.parameters) m) (cleared h.parameters r) empty_tally)
      empty =
          let w = whole_room h m r e in
          let v = sound-heading h w.1 in
          let k = roomed h m r v.few w.0 in
          record {
            number = whole_none h _ (record {
              room = roomy_by h _ _ v.few (rw (length_cleared _ m k.0) k.0) (rw (length_cleared _ r k.1) k.1);
              heading = w.1;
              state = empty_sound h.parameters m r h.stations;
            });
            counts = refl;
            rows = refl;
            marks = refl;
          }

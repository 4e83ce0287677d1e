-- No prior in the sums: a record is judged and booked by the settings, the number of parameters and the stations alone.
-- Assumes nothing.
use mathlib.Core.Path.{◌≡◌, sym, ap, ap₂, ◌∙◌}
use mathlib.Core.List.{List}
use lib.IntN.{ℤ}
use Rattle.arc_heading.specs.Judge.{numbers_of}
use Rattle.arc_heading.specs.declared.Heading.{Heading}
use Rattle.num_packed.specs.Triangle.{tri}
use Rattle.take_tally.specs.Tally.{empty_tally}
use Rattle.take_room.specs.Room.{cleared}
use Rattle.take_state.specs.State.{state_of, room_number, started}
use Rattle.take_laws.specs.Machine.{run, answers}
use Rattle.take_laws.specs.Taking.{frame, frame_of, corrections_of, record_answer, record_step}
use Rattle.take_laws.specs.Mix.{pairs}
use Rattle.take_laws.specs.Priors.{ButLabels, Priors}
use Rattle.take_laws.proofs.Guarded.{started_held, started_is, guarded_run, guarded_answers}

module _ (h k : Heading) (m r : List ℤ) (a : room_number h m r ≡ 0) (b : room_number k m r ≡ 0) (d : ButLabels h k) where
  same_frame : frame_of h ≡ frame_of k
  same_frame = λ i. frame (d.settings i) (d.parameters i) (numbers_of (d.stations i)) (corrections_of (d.stations i))

  same_start : started h m r ≡ started k m r
  same_start =
      started_is h m r a ∙ ap (λ p. state_of (cleared (tri p) m) (cleared p r) empty_tally) d.parameters ∙ sym (started_is k m r b)

  pub priors : Priors h k m r
  priors =
      let v = started_held h m r a in
      let w = started_held k m r b in
      record {
        answers = λ bs. ap (pairs bs) (guarded_answers h bs (started h m r) v
            ∙ ap₂ (λ f s. answers (record_step f) (record_answer f) s bs) same_frame same_start ∙ sym (guarded_answers k bs (started k m r) w));
        ends = λ bs. guarded_run h bs (started h m r) v ∙ ap₂ (λ f s. run (record_step f) s bs) same_frame same_start
            ∙ sym (guarded_run k bs (started k m r) w);
      }

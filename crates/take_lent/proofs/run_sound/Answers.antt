-- `take_lent::run_sound` meets its contract: the parts handed on, and what comes back laid before the rest.
use Rattle.std.proofs.Common.{arith, ◌≡◌, ◌≤◌, ◌/◌, ◌++◌, sym, ap, ◌∙◌, length, take, drop}
use mathlib.Core.Path.{ap₂, subst}
use lib.Seq.{length-take-le}
use Rattle.byte_words.specs.Words.{lay}
use Rattle.arc_kinds.specs.Kinds.{record_size}
use Rattle.take_laws.specs.Machine.{run, answers}
use Rattle.take_state.specs.State.{state_of}
use Rattle.take_laws.specs.Taking.{frame, frame_of, record_answer, record_step, records_in}
use Rattle.take_steps.specs.Runs.{run_by, answers_by}
use Rattle.take_lent.proofs.Entries.{Handed, part, numbers_16, corrections_16, parameters_few, stations_few, matrix_room, rights_room, prepared, rights_long, frame_is, run_back, answers_back}
use Rattle.take_lent.proofs.Whole.{whole_run_lem, state_taken, answers_taken, whole_are, records_are}
use Rattle.take_lent.proofs.run_sound.Goals as goal

pub triangle-k-requires : goal.triangle-k-requires
triangle-k-requires c = omega (arith, parameters_few _ _ (whole_run_lem _ _ _ _ c.requires).state)

pub slice_bounds-numbers-end : goal.slice_bounds-numbers-end
slice_bounds-numbers-end c = omega (arith, stations_few _ _ (whole_run_lem _ _ _ _ c.requires).state, ap length c.numbers_of-numbers.ensures, numbers_16 c.args.h c.well_formed.0.1.1.1.1.1.1.0.1.0.1)

pub slice_bounds-take_all-end : goal.slice_bounds-take_all-end
slice_bounds-take_all-end c =
    sym (length-take-le _ _ (omega (arith, stations_few _ _ (whole_run_lem _ _ _ _ c.requires).state, ap length c.numbers_of-numbers.ensures, numbers_16 c.args.h c.well_formed.0.1.1.1.1.1.1.0.1.0.1)))

pub slice_bounds-corrections-end : goal.slice_bounds-corrections-end
slice_bounds-corrections-end c = omega (arith, stations_few _ _ (whole_run_lem _ _ _ _ c.requires).state, ap length c.corrections_of-corrections.ensures, corrections_16 c.args.h c.well_formed.0.1.1.1.1.1.1.0.1.0.1)

pub slice_bounds-take_all-end-2 : goal.slice_bounds-take_all-end-2
slice_bounds-take_all-end-2 c =
    sym (length-take-le _ _ (omega (arith, stations_few _ _ (whole_run_lem _ _ _ _ c.requires).state, ap length c.corrections_of-corrections.ensures, corrections_16 c.args.h c.well_formed.0.1.1.1.1.1.1.0.1.0.1)))

pub slice_bounds-take_all-end-3 : goal.slice_bounds-take_all-end-3
slice_bounds-take_all-end-3 c = rw c.triangle-k.ensures.0 (matrix_room _ _ (whole_run_lem _ _ _ _ c.requires).state)

pub slice_bounds-take_all-end-4 : goal.slice_bounds-take_all-end-4
slice_bounds-take_all-end-4 c = sym (length-take-le _ _ (rw c.triangle-k.ensures.0 (matrix_room _ _ (whole_run_lem _ _ _ _ c.requires).state)))

pub slice_bounds-take_all-end-5 : goal.slice_bounds-take_all-end-5
slice_bounds-take_all-end-5 c = rights_room _ _ (whole_run_lem _ _ _ _ c.requires).state

pub slice_bounds-take_all-end-6 : goal.slice_bounds-take_all-end-6
slice_bounds-take_all-end-6 c = sym (length-take-le _ _ (rights_room _ _ (whole_run_lem _ _ _ _ c.requires).state))

pub slice_bounds-room-end : goal.slice_bounds-room-end
slice_bounds-room-end c = parameters_few _ _ (whole_run_lem _ _ _ _ c.requires).state

pub slice_bounds-take_all-end-7 : goal.slice_bounds-take_all-end-7
slice_bounds-take_all-end-7 c = sym (length-take-le _ _ (parameters_few _ _ (whole_run_lem _ _ _ _ c.requires).state))

pub take_all-requires : goal.take_all-requires
take_all-requires c =
    let a = c.args in
    let s = state_of a.matrix.now a.rights.now a.t in
    let g = c.well_formed in
    let v : Handed a.h s = record { number = (whole_run_lem a.h a.run.now (length a.out.now) s c.requires).state; listed = g.0.1.1.1.1.1.1.0.1.0.1; counts = g.1.0.1.1.1.0.1.0.1; rows = g.1.0.1.1.1.1.0.1.0.1; marks = g.1.0.1.1.1.1.1.0.1.0.1 } in
    let w = whole_run_lem a.h a.run.now (length a.out.now) s c.requires in
    let n : length a.run.now / record_size a.h.parameters ≤ length a.out.now = subst (λ z. z ≤ length a.out.now) (whole_are a.h a.run.now (parameters_few _ _ v.number)) w.roomy in record {
      prepared = (rw (c.numbers_of-numbers.ensures, c.corrections_of-corrections.ensures, c.triangle-k.ensures.0) (prepared a.h s v), length-take-le _ _ (parameters_few _ _ v.number) ∙ sym (rights_long a.h s v));
      rights_in_bounds = subst (λ z. length a.run.now / record_size z ≤ length a.out.now) (sym (rights_long a.h s v)) n;
    }

pub returns : goal.returns
unfolding run_by answers_by
returns c =
    let a = c.args in
    let s = state_of a.matrix.now a.rights.now a.t in
    let g = c.well_formed in
    let v : Handed a.h s = record { number = (whole_run_lem a.h a.run.now (length a.out.now) s c.requires).state; listed = g.0.1.1.1.1.1.1.0.1.0.1; counts = g.1.0.1.1.1.0.1.0.1; rows = g.1.0.1.1.1.1.0.1.0.1; marks = g.1.0.1.1.1.1.1.0.1.0.1 } in
    let f = (λ i. frame a.h.settings (length (take a.h.parameters a.rights.now)) (take a.h.stations (c.numbers_of-numbers.ensures i)) (take a.h.stations (c.corrections_of-corrections.ensures i))) ∙ frame_is a.h s v in
    let p : state_of (take c.triangle-k.result a.matrix.now) (take a.h.parameters a.rights.now) a.t ≡ part a.h s v = λ i. state_of (take (c.triangle-k.ensures.0 i) a.matrix.now) (take a.h.parameters a.rights.now) a.t in
    let e = c.requires in
    let bs = records_are a.h a.run.now (parameters_few _ _ v.number) in record {
      state = (λ i. state_of (c.take_all.new.matrix ++ drop (c.triangle-k.ensures.0 i) a.matrix.now) (c.take_all.new.rights ++ drop a.h.parameters a.rights.now) c.take_all.result)
          ∙ run_back a.h s v (records_in a.h a.run.now) _ _ _ (c.take_all.ensures.state ∙ ap₂ (λ g u. run_by g u a.run.now) f p ∙ ap (run (record_step (frame_of a.h)) (part a.h s v)) (sym bs))
          ∙ sym (state_taken a.h a.run.now (length a.out.now) s e);
      told = c.take_all.ensures.told ∙ ap₂ (λ g u. lay a.out.now 0 (answers_by g u a.run.now)) f p
          ∙ ap (λ r. lay a.out.now 0 (answers (record_step (frame_of a.h)) (record_answer (frame_of a.h)) (part a.h s v) r)) (sym bs)
          ∙ ap (lay a.out.now 0) (answers_back a.h s v (records_in a.h a.run.now))
          ∙ sym (answers_taken a.h a.run.now a.out.now s e);
    }

-- `take::take_sound` meets its contract: the parts handed on, and what comes back laid before the rest.
use Rattle.std.proofs.Common.{arith, ◌≡◌, ◌++◌, sym, ap, ◌∙◌, length, take, drop}
use mathlib.Core.Path.{ap₂}
use lib.Seq.{length-take-le}
use Rattle.take_state.specs.State.{state_of}
use Rattle.take_laws.specs.Taking.{frame, record_answer, record_step}
use Rattle.refusal.specs.First.{answered, value_or}
use Rattle.refusal.specs.Told.{told}
use Rattle.take_lent.proofs.Entries.{Handed, part, numbers_16, corrections_16, parameters_few, stations_few, matrix_room, rights_room, prepared, rights_long, frame_is, answer_back, step_back}
use Rattle.take.proofs.take_sound.Goals as goal

pub triangle-k-requires : goal.triangle-k-requires
triangle-k-requires c = omega (arith, parameters_few _ _ c.requires)

pub slice_bounds-numbers-end : goal.slice_bounds-numbers-end
slice_bounds-numbers-end c = omega (arith, stations_few _ _ c.requires, ap length c.numbers_of-numbers.ensures, numbers_16 c.args.h c.well_formed.0.1.1.1.1.1.1.0.1.0.1)

pub slice_bounds-take_record-end : goal.slice_bounds-take_record-end
slice_bounds-take_record-end c =
    sym (length-take-le _ _ (omega (arith, stations_few _ _ c.requires, ap length c.numbers_of-numbers.ensures, numbers_16 c.args.h c.well_formed.0.1.1.1.1.1.1.0.1.0.1)))

pub slice_bounds-corrections-end : goal.slice_bounds-corrections-end
slice_bounds-corrections-end c = omega (arith, stations_few _ _ c.requires, ap length c.corrections_of-corrections.ensures, corrections_16 c.args.h c.well_formed.0.1.1.1.1.1.1.0.1.0.1)

pub slice_bounds-take_record-end-2 : goal.slice_bounds-take_record-end-2
slice_bounds-take_record-end-2 c =
    sym (length-take-le _ _ (omega (arith, stations_few _ _ c.requires, ap length c.corrections_of-corrections.ensures, corrections_16 c.args.h c.well_formed.0.1.1.1.1.1.1.0.1.0.1)))

pub slice_bounds-take_record-end-3 : goal.slice_bounds-take_record-end-3
slice_bounds-take_record-end-3 c = rw c.triangle-k.ensures.0 (matrix_room _ _ c.requires)

pub slice_bounds-take_record-end-4 : goal.slice_bounds-take_record-end-4
slice_bounds-take_record-end-4 c = sym (length-take-le _ _ (rw c.triangle-k.ensures.0 (matrix_room _ _ c.requires)))

pub slice_bounds-take_record-end-5 : goal.slice_bounds-take_record-end-5
slice_bounds-take_record-end-5 c = rights_room _ _ c.requires

pub slice_bounds-take_record-end-6 : goal.slice_bounds-take_record-end-6
slice_bounds-take_record-end-6 c = sym (length-take-le _ _ (rights_room _ _ c.requires))

pub slice_bounds-room-end : goal.slice_bounds-room-end
slice_bounds-room-end c = parameters_few _ _ c.requires

pub slice_bounds-take_record-end-7 : goal.slice_bounds-take_record-end-7
slice_bounds-take_record-end-7 c = sym (length-take-le _ _ (parameters_few _ _ c.requires))

pub take_record-requires : goal.take_record-requires
take_record-requires c =
    let a = c.args in
    let s = state_of a.matrix.now a.rights.now a.t in
    let g = c.well_formed in
    let v : Handed a.h s = record { number = c.requires; listed = g.0.1.1.1.1.1.1.0.1.0.1; counts = g.1.0.1.1.1.0.1.0.1; rows = g.1.0.1.1.1.1.0.1.0.1; marks = g.1.0.1.1.1.1.1.0.1.0.1 } in
    (rw (c.numbers_of-numbers.ensures, c.corrections_of-corrections.ensures, c.triangle-k.ensures.0) (prepared a.h s v), length-take-le _ _ (parameters_few _ _ c.requires) ∙ sym (rights_long a.h s v))

pub returns : goal.returns
returns c =
    let a = c.args in
    let s = state_of a.matrix.now a.rights.now a.t in
    let g = c.well_formed in
    let v : Handed a.h s = record { number = c.requires; listed = g.0.1.1.1.1.1.1.0.1.0.1; counts = g.1.0.1.1.1.0.1.0.1; rows = g.1.0.1.1.1.1.0.1.0.1; marks = g.1.0.1.1.1.1.1.0.1.0.1 } in
    let f = (λ i. frame a.h.settings (length (take a.h.parameters a.rights.now)) (take a.h.stations (c.numbers_of-numbers.ensures i)) (take a.h.stations (c.corrections_of-corrections.ensures i))) ∙ frame_is a.h s v in
    let p : state_of (take c.triangle-k.result a.matrix.now) (take a.h.parameters a.rights.now) a.t ≡ part a.h s v = λ i. state_of (take (c.triangle-k.ensures.0 i) a.matrix.now) (take a.h.parameters a.rights.now) a.t in record {
      answer_value = c.take_record.ensures.answer_value ∙ ap₂ (λ g u. answered (record_answer g a.bytes.now u) tt) f p ∙ ap (λ k. answered k tt) (answer_back a.h s v a.bytes.now);
      state = (λ i. state_of (c.take_record.new.matrix ++ drop (c.triangle-k.ensures.0 i) a.matrix.now) (c.take_record.new.rights ++ drop a.h.parameters a.rights.now) (value_or a.t (told c.take_record.result)))
          ∙ step_back a.h s v a.bytes.now _ _ _ (c.take_record.ensures.state ∙ ap₂ (λ g u. record_step g a.bytes.now u) f p);
    }

-- `take_steps::take_in` meets its contract: judged, and where it is accepted, booked.
use Rattle.std.proofs.Common.{rules, arith, ◌+◌, ◌≡◌, ap, ◌∙◌, Err}
use lib.IntN.{pos}
use mir.Syntax.{w64}
use mir.Val.{SFits}
use mir.ValLaws.{to_z-of_z}
use lib.ListN.{length, get_or, set}
use Rattle.num_whole.specs.Sums.{plus}
use Rattle.num_packed.specs.Triangle.{times}
use Rattle.arc_record.specs.Record.{partials_in}
use Rattle.refusal.specs.Told.{told}
use Rattle.take_tally.specs.Tally.{no_row, tally_with}
use Rattle.take_state.specs.State.{state_of}
use Rattle.take_steps.proofs.Steps.{refused_fit, ready_of, place_small, refused_late, weight_of_few, side_of_few, square_of_few, count_of_few, accepts, books, level_few, matrix_small, rights_small}
use Rattle.take_steps.proofs.take_in.Goals as goal

pub returns-in_err-x : goal.returns-in_err-x
returns-in_err-x c =
    let stopped : c.from_residual.result ≡ Err c.in_err-x.field-0.0 = search rules in
    let got = refused_fit c.requires.0 _ c.fits.ensures c.in_err-x.was in record { answer_value = ap told stopped ∙ got.0; state = got.1 }

pub offset_bounds-t-x : goal.offset_bounds-t-x
offset_bounds-t-x c = record { fits = omega (arith, place_small c.requires.0 _ c.fits.ensures c.in_ok-x.was) }

pub offset_bounds-t-x-2 : goal.offset_bounds-t-x-2
offset_bounds-t-x-2 c = record { fits = omega (arith, (ready_of c.requires.0 _ c.fits.ensures c.in_ok-x.was).column) }

pub bounds-t-x : goal.bounds-t-x
bounds-t-x c = place_small c.requires.0 _ c.fits.ensures c.in_ok-x.was

pub bounds-t-x-in_ok-x : goal.bounds-t-x-in_ok-x
bounds-t-x-in_ok-x c = (ready_of c.requires.0 _ c.fits.ensures c.in_ok-x.was).column

pub offset_bounds-t-x-3 : goal.offset_bounds-t-x-3
offset_bounds-t-x-3 c = record { fits = omega (arith, place_small c.requires.0 _ c.fits.ensures c.in_ok-x.was) }

pub bounds-t-x-2 : goal.bounds-t-x-2
bounds-t-x-2 c = place_small c.requires.0 _ c.fits.ensures c.in_ok-x.was

pub judge-requires : goal.judge-requires
judge-requires c =
    let r = ready_of c.requires.0 _ c.fits.ensures c.in_ok-x.was in record {
      level_bound = (level_few _ _ _ _ c.requires.0, r.some, r.few, r.product, r.small);
      step_bound = (r.step, r.factor);
    }

pub returns-in-Err : goal.returns-in-Err
returns-in-Err c = let got = refused_late c.requires.0 _ c.fits.ensures c.in_ok-x.was c.judge.ensures c.in-Err.is in record { answer_value = got.0; state = got.1 }

pub overflow_cast-x : goal.overflow_cast-x
overflow_cast-x c = record { fits = omega (arith, place_small c.requires.0 _ c.fits.ensures c.in_ok-x.was) }

pub add_record-requires-clause-weight_le_weight_top : goal.add_record-requires-clause-weight_le_weight_top
add_record-requires-clause-weight_le_weight_top c =
    let side : SFits w64 c.in-Ok.y.side = search rules in (
      weight_of_few c.requires.0 _ c.fits.ensures c.in_ok-x.was c.judge.ensures c.in-Ok.is,
      rw (to_z-of_z w64 c.in-Ok.y.side side) (side_of_few c.requires.0 _ c.fits.ensures c.in_ok-x.was c.judge.ensures c.in-Ok.is),
      c.requires.0.marks,
      place_small c.requires.0 _ c.fits.ensures c.in_ok-x.was,
    )

pub add_record-requires-clause-within : goal.add_record-requires-clause-within
add_record-requires-clause-within c = (matrix_small _ _ _ _ c.requires.0, rights_small _ _ _ _ c.requires.0)

pub overflow_add-t : goal.overflow_add-t
overflow_add-t c = record { fits = omega (arith, square_of_few c.requires.0 _ c.fits.ensures c.in_ok-x.was c.judge.ensures c.in-Ok.is) }

pub overflow_add-t-2 : goal.overflow_add-t-2
overflow_add-t-2 c = record { fits = omega (arith, count_of_few c.requires.0 _ c.fits.ensures c.in_ok-x.was c.judge.ensures c.in-Ok.is) }

pub offset_bounds-t-x-4 : goal.offset_bounds-t-x-4
offset_bounds-t-x-4 c = record { fits = omega (arith, place_small c.requires.0 _ c.fits.ensures c.in_ok-x.was) }

pub bounds-t-x-3 : goal.bounds-t-x-3
bounds-t-x-3 c = place_small c.requires.0 _ c.fits.ensures c.in_ok-x.was

pub offset_bounds-t-x-5 : goal.offset_bounds-t-x-5
offset_bounds-t-x-5 c = record { fits = omega (arith, place_small c.requires.0 _ c.fits.ensures c.in_ok-x.was) }

pub offset_bounds-t-x-6 : goal.offset_bounds-t-x-6
offset_bounds-t-x-6 c = record { fits = omega (arith, (ready_of c.requires.0 _ c.fits.ensures c.in_ok-x.was).column) }

pub bounds-t-x-in-Ok : goal.bounds-t-x-in-Ok
bounds-t-x-in-Ok c = place_small c.requires.0 _ c.fits.ensures c.in_ok-x.was

pub bounds-t-x-in-Ok-2 : goal.bounds-t-x-in-Ok-2
bounds-t-x-in-Ok-2 c = (ready_of c.requires.0 _ c.fits.ensures c.in_ok-x.was).column

pub returns : goal.returns
unfolding tally_with
returns c =
    let a = c.args in let t = a.t.now in let x = c.in_ok-x.x in let y = c.in-Ok.y in
    let side : SFits w64 y.side = search rules in
    let sides = c.add_record.ensures.rights ∙ ap (λ z. plus a.rights.now (times z (partials_in (length a.rights.now) a.bytes.now))) (to_z-of_z w64 y.side side) in record {
      answer_value = accepts c.requires.0 _ c.fits.ensures c.in_ok-x.was c.judge.ensures c.in-Ok.is;
      state = (λ i. state_of (c.add_record.ensures.matrix i) (sides i) (record { square = t.square + y.square; counts = set t.counts x.place (get_or t.counts x.place 0 + 1); rows = set t.rows x.place (record { times = set (get_or t.rows x.place no_row).times x.column x.time }); marks = c.add_record.ensures.marks i }))
          ∙ books c.requires.0 _ c.fits.ensures c.in_ok-x.was c.judge.ensures c.in-Ok.is;
    }

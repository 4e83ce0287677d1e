use Rattle.std.proofs.Common.{rules, arith, ℕ, ◌≡◌, ◌+◌, ◌*◌, ◌-◌, ◌≤◌, ◌<◌, sym, ap, ◌∙◌, length, take, drop}
use Rattle.refusal.specs.First.{number_in, answered}
use Rattle.take_laws.specs.Taking.{frame, record_answer, record_step}
use Rattle.take_state.specs.State.{state_of}
use Rattle.take_steps.specs.Runs.{run_by, answers_by}
use Rattle.take_steps.proofs.Steps.{answered_number}
use Rattle.take_steps.proofs.Runs.{part_size, turn_start, turn_next, going_end, part_inside}
use Rattle.take_steps.proofs.take_all.Goals as goal

pub overflow_mul-size : goal.overflow_mul-size
overflow_mul-size c = record { fits = omega (arith, c.requires.prepared.0.few) }

pub loop-i-init : goal.loop-i-init
loop-i-init c = turn_start _ _ _ _ _ _ _ _ c.args.room.now c.requires.prepared.0 c.requires.prepared.1

pub overflow_add-e : goal.overflow_add-e
overflow_add-e c =
    let size = 32 + 2 * length c.args.rights.now in
    let h : c.loop-i.at + size ≤ length c.args.run.now = part_inside (length c.args.run.now) size c.loop-i.i c.loop-i.at c.loop-i-test.true c.loop-i.invariant.here in
    search rules

pub slice_bounds-bytes-end : goal.slice_bounds-bytes-end
slice_bounds-bytes-end c = part_inside (length c.args.run.now) (32 + 2 * length c.args.rights.now) c.loop-i.i c.loop-i.at c.loop-i-test.true c.loop-i.invariant.here

pub take_in-requires : goal.take_in-requires
take_in-requires c = let t = c.loop-i.invariant in (t.prepared, t.room_long ∙ sym t.rights_long)

pub bounds-out-i : goal.bounds-out-i
bounds-out-i c = omega (arith, c.loop-i.invariant.out_long, c.requires.rights_in_bounds, c.loop-i-test.true)

pub loop-i-preserved : goal.loop-i-preserved
loop-i-preserved c =
    let a = c.args in let l = c.loop-i in let t = l.invariant in
    let size = 32 + 2 * length a.rights.now in
    let f = λ (p : ℕ). frame a.settings p a.numbers.now a.corrections.now in
    let whole : take (l.at + size - l.at) (drop l.at a.run.now) ≡ take size (drop l.at a.run.now) = ap (λ k. take k (drop l.at a.run.now)) (sym (part_size l.at size)) in
    let s = state_of l.matrix l.rights l.u in
    let step : state_of c.take_in.new.matrix c.take_in.new.rights c.take_in.new.t ≡ record_step (f (length a.rights.now)) (take size (drop l.at a.run.now)) s =
    rw (t.rights_long, whole) at c.take_in.ensures.state in
    let number : c.code.result ≡ record_answer (f (length a.rights.now)) (take size (drop l.at a.run.now)) s =
    rw (t.rights_long, whole) at (c.code.ensures ∙ ap number_in c.take_in.ensures.answer_value ∙ answered_number _ tt) in
    turn_next _ _ _ _ _ _ _ _ _ _ _ _ _ _ t c.loop-i-test.true _ _ c.take_in.new.room (c.take_in.auto.room ∙ t.room_long) step number

pub shape_of-matrix : goal.shape_of-matrix
shape_of-matrix c = c.loop-i.invariant.matrix_long ∙ sym c.requires.prepared.0.matrix

pub shape_of-rights : goal.shape_of-rights
shape_of-rights c = c.loop-i.invariant.rights_long

pub shape_of-room : goal.shape_of-room
shape_of-room c = c.loop-i.invariant.room_long ∙ sym c.requires.prepared.1

pub shape_of-out : goal.shape_of-out
shape_of-out c = c.loop-i.invariant.out_long

pub returns : goal.returns
unfolding run_by answers_by
returns c =
    let a = c.args in let l = c.loop-i in
    let got = going_end (frame a.settings (length a.rights.now) a.numbers.now a.corrections.now) _ _ a.run.now (state_of a.matrix.now a.rights.now a.t) a.out.now l.i l.at (state_of l.matrix l.rights l.u) l.out l.invariant.going (omega arith) in record {
      state = got.0;
      told = got.1;
    }

-- `take::judge_run` meets its contract: one step for each refusal.
use Rattle.std.proofs.Common.{rules, arith, ◌≡◌, ap, ◌∙◌, Err}
use native.Mathlib.Nat.{div-mul-le_self}
use Prim.Native.Nat.{◌+◌, ◌*◌, ◌/◌, ◌≤◌}
use lib.ListN.{length}
use Rattle.take_state.specs.State.{state_of}
use Rattle.take_laws.specs.Taking.{whole_records}
use Rattle.take_lent.proofs.Whole.{count_is, nothing_left, something_left}
use Rattle.take_state.proofs.Rooms.{accepted, stopped}
use Rattle.take.proofs.Answers.{run_room, run_refused, run_short, run_sound}
use Rattle.refusal.specs.Told.{told}
use Rattle.take.proofs.judge_run.Goals as goal

pub returns-then-answers-n : goal.returns-then-answers-n
returns-then-answers-n c =
    let a = c.args in
    let s = state_of a.matrix.now a.rights.now a.t in
    let k = count_is a.h a.run.now c.least.result c.least.ensures in
    run_room a.h a.run.now a.answers s (omega (arith, k))

pub overflow_mul-n : goal.overflow_mul-n
overflow_mul-n c =
    let l = length c.args.run.now in
    let z = 32 + 2 * c.least.result in
    let h : l / z * z ≤ l = div-mul-le_self l z in
    search rules

pub returns-then-n-size : goal.returns-then-n-size
returns-then-n-size c =
    let a = c.args in
    let s = state_of a.matrix.now a.rights.now a.t in
    let k = count_is a.h a.run.now c.least.result c.least.ensures in
    let roomy : whole_records a.h a.run.now ≤ a.answers = omega (arith, k, c.if-answers-n.false) in
    run_sound a.h a.run.now a.answers s roomy (accepted c.judge_state.ensures c.in_ok-judge_state.was) (nothing_left a.h a.run.now c.least.result c.least.ensures c.if-n-size.true)

pub returns-else-n-size : goal.returns-else-n-size
returns-else-n-size c =
    let a = c.args in
    let s = state_of a.matrix.now a.rights.now a.t in
    let k = count_is a.h a.run.now c.least.result c.least.ensures in
    let roomy : whole_records a.h a.run.now ≤ a.answers = omega (arith, k, c.if-answers-n.false) in
    run_short a.h a.run.now a.answers s roomy (accepted c.judge_state.ensures c.in_ok-judge_state.was) (something_left a.h a.run.now c.least.result c.least.ensures c.if-n-size.false)

pub returns-in_err-judge_state : goal.returns-in_err-judge_state
returns-in_err-judge_state c =
    let a = c.args in
    let s = state_of a.matrix.now a.rights.now a.t in
    let k = count_is a.h a.run.now c.least.result c.least.ensures in
    let roomy : whole_records a.h a.run.now ≤ a.answers = omega (arith, k, c.if-answers-n.false) in
    let e : c.from_residual.result ≡ Err c.in_err-judge_state.field-0.0 = search rules in
    ap told e ∙ run_refused a.h a.run.now a.answers s roomy _ (stopped c.judge_state.ensures c.in_err-judge_state.was)

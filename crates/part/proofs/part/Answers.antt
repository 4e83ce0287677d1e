-- `part::part` meets its contract: 28, 20, 20, 6, or the part goes on.
use native.Mathlib.Omega.{arith}
use Prim.Native.Nat.{◌+◌, ◌≤◌}
use mathlib.Core.Path.{◌≡◌, sym, ap, ◌∙◌, subst}
use mathlib.Core.List.{◌++◌}
use lib.ListN.{length}
use lib.Seq.{length-take-le}
use Rattle.num_packed.specs.Triangle.{tri}
use Rattle.take_state.specs.State.{state_of}
use Rattle.part_laws.specs.Entries.{position_of}
use Rattle.part.proofs.Stops.{asked, room_given, stop_over, stop_room, stop_answers, stop_unsound, goes}
use Rattle.part.proofs.Goes.{front_room, front_fits, front_opens, completes, few_read, fits_read}
use Rattle.part.proofs.part.Goals as goal

pub returns-then-p : goal.returns-then-p
returns-then-p c =
    let a = c.args in
    let v = stop_over a.p (state_of a.matrix.now a.rights.now a.t) a.bytes.now a.answers.now c.if-p.true in
    let x = c.stopped in record {
      answer_value = x.ensures.0 ∙ v.says;
      position = x.ensures.1 ∙ v.leads;
      state = ap (state_of a.matrix.now a.rights.now) x.ensures.2 ∙ v.state;
      told = v.answers;
    }

pub returns-then-not-is_roomy : goal.returns-then-not-is_roomy
returns-then-not-is_roomy c =
    let a = c.args in
    let v = stop_room a.p (state_of a.matrix.now a.rights.now a.t) a.bytes.now a.answers.now c.if-p.false (asked a.p a.matrix.now a.rights.now _ c.parameters_at-parameters.ensures ∙ sym c.is_roomy.ensures ∙ c.if-not-is_roomy.true) in
    let x = c.stopped-then-not-is_roomy in record {
      answer_value = x.ensures.0 ∙ v.says;
      position = x.ensures.1 ∙ v.leads;
      state = ap (state_of a.matrix.now a.rights.now) x.ensures.2 ∙ v.state;
      told = v.answers;
    }

pub slice_bounds-open-end : goal.slice_bounds-open-end
slice_bounds-open-end c =
    let a = c.args in let w = c.front_of-f.ensures in
    omega (arith, front_room a.p a.bytes.now _ w, front_fits a.p a.bytes.now _ w)

pub overflow_add-f : goal.overflow_add-f
overflow_add-f c = omega (arith, c.front_of-f.ensures.held)

pub completed-n-requires : goal.completed-n-requires
completed-n-requires c = few_read _ c.open-new.result c.open-new.ensures.fits

pub returns-then-answers-n : goal.returns-then-answers-n
returns-then-answers-n c =
    let a = c.args in
    let many = completes a.p a.bytes.now _ c.front_of-f.ensures _ _ c.open-new.ensures.opened c.completed-n.ensures in
    let v = stop_answers a.p (state_of a.matrix.now a.rights.now a.t) a.bytes.now a.answers.now c.if-p.false (asked a.p a.matrix.now a.rights.now _ c.parameters_at-parameters.ensures ∙ sym c.is_roomy.ensures ∙ c.if-not-is_roomy.false) (omega (arith, many)) in
    let x = c.stopped-then-answers-n in record {
      answer_value = x.ensures.0 ∙ v.says;
      position = x.ensures.1 ∙ v.leads;
      state = ap (state_of a.matrix.now a.rights.now) x.ensures.2 ∙ v.state;
      told = v.answers;
    }

pub is_given-requires : goal.is_given-requires
is_given-requires c =
    let a = c.args in
    let e = c.parameters_at-parameters.ensures in
    let g = room_given _ _ _ (asked a.p a.matrix.now a.rights.now _ e ∙ sym c.is_roomy.ensures ∙ c.if-not-is_roomy.false) in
    (e, subst (λ n. tri n ≤ length a.matrix.now) (sym e) g.0, subst (λ n. n ≤ length a.rights.now) (sym e) g.1)

pub returns-then-not-is_given : goal.returns-then-not-is_given
returns-then-not-is_given c =
    let a = c.args in
    let many = completes a.p a.bytes.now _ c.front_of-f.ensures _ _ c.open-new.ensures.opened c.completed-n.ensures in
    let v = stop_unsound a.p (state_of a.matrix.now a.rights.now a.t) a.bytes.now a.answers.now c.if-p.false (asked a.p a.matrix.now a.rights.now _ c.parameters_at-parameters.ensures ∙ sym c.is_roomy.ensures ∙ c.if-not-is_roomy.false) (omega (arith, many)) (sym c.is_given.ensures ∙ c.if-not-is_given.true) in
    let x = c.stopped-then-not-is_given in record {
      answer_value = x.ensures.0 ∙ v.says;
      position = x.ensures.1 ∙ v.leads;
      state = ap (state_of a.matrix.now a.rights.now) x.ensures.2 ∙ v.state;
      told = v.answers;
    }

pub go_on-requires : goal.go_on-requires
go_on-requires c =
    let a = c.args in
    let many = completes a.p a.bytes.now _ c.front_of-f.ensures _ _ c.open-new.ensures.opened c.completed-n.ensures in
    record {
      number = goes a.p (state_of a.matrix.now a.rights.now a.t) a.bytes.now a.answers.now c.if-p.false (asked a.p a.matrix.now a.rights.now _ c.parameters_at-parameters.ensures ∙ sym c.is_roomy.ensures ∙ c.if-not-is_roomy.false) (omega (arith, many)) (sym c.is_given.ensures ∙ c.if-not-is_given.false);
      opens = c.open-new.ensures.opened ∙ front_opens a.p a.bytes.now _ c.front_of-f.ensures;
      fits = fits_read _ c.open-new.result c.open-new.ensures.fits;
      front = c.front_of-f.ensures;
      many = many;
    }

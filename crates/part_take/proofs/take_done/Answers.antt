-- `part_take::take_done` meets its contract: none; or the first out of the front and the others out of the part.
use native.Mathlib.Omega.{arith}
use Prim.Native.Nat.{◌+◌, ◌-◌, ◌*◌, ◌≤◌}
use mathlib.Core.Path.{◌≡◌, ap, ap₂, ◌∙◌}
use mathlib.Core.List.{◌∷◌}
use lib.ListN.{length, take, drop}
use Rattle.byte_words.specs.Words.{lay}
use Rattle.take_state.specs.State.{state_of}
use Rattle.take_laws.specs.Machine.{run, answers}
use Rattle.take_laws.specs.Taking.{frame_of, record_answer, record_step, cut}
use Rattle.part_laws.specs.Beginning.{size_of}
use Rattle.part_take.proofs.Dones.{numbers, none_done, some_done}
use Rattle.part_take.proofs.take_done.Goals as goal

pub returns-then-n-eq0 : goal.returns-then-n-eq0
unfolding run answers lay
returns-then-n-eq0 c =
    let a = c.args in
    let e = none_done a.a a.f a.taken a.n a.bytes.now c.requires.ready c.well_formed.1.0.1.1.0.1.0.1 (omega arith) in record {
      state = ap (run (record_step (frame_of a.a.heading)) (state_of a.matrix.now a.rights.now a.t)) e;
      told = ap (λ x. lay a.answers.now 0 (answers (record_step (frame_of a.a.heading)) (record_answer (frame_of a.a.heading)) (state_of a.matrix.now a.rights.now a.t) x)) e;
    }

pub overflow_mul-size : goal.overflow_mul-size
overflow_mul-size c =
    let a = c.args in
    let m = numbers a.a a.f a.taken a.n a.bytes.now c.requires.ready c.well_formed.1.0.1.1.0.1.0.1 (state_of a.matrix.now a.rights.now a.t) c.requires.t_value c.if-n-eq0.false in omega (arith, m.0, m.1, m.2)

pub overflow_add-size : goal.overflow_add-size
overflow_add-size c =
    let a = c.args in
    let m = numbers a.a a.f a.taken a.n a.bytes.now c.requires.ready c.well_formed.1.0.1.1.0.1.0.1 (state_of a.matrix.now a.rights.now a.t) c.requires.t_value c.if-n-eq0.false in omega (arith, m.0, m.1, m.2)

pub overflow_add-end : goal.overflow_add-end
overflow_add-end c =
    let a = c.args in
    let m = numbers a.a a.f a.taken a.n a.bytes.now c.requires.ready c.well_formed.1.0.1.1.0.1.0.1 (state_of a.matrix.now a.rights.now a.t) c.requires.t_value c.if-n-eq0.false in omega (arith, m.0, m.1, m.2)

pub overflow_mul-others : goal.overflow_mul-others
overflow_mul-others c =
    let a = c.args in
    let m = numbers a.a a.f a.taken a.n a.bytes.now c.requires.ready c.well_formed.1.0.1.1.0.1.0.1 (state_of a.matrix.now a.rights.now a.t) c.requires.t_value c.if-n-eq0.false in omega (arith, m.0, m.1, m.2)

pub overflow_add-from : goal.overflow_add-from
overflow_add-from c =
    let a = c.args in
    let m = numbers a.a a.f a.taken a.n a.bytes.now c.requires.ready c.well_formed.1.0.1.1.0.1.0.1 (state_of a.matrix.now a.rights.now a.t) c.requires.t_value c.if-n-eq0.false in omega (arith, m.0, m.1, m.2)

pub slice_bounds-take_records-end : goal.slice_bounds-take_records-end
slice_bounds-take_records-end c =
    let a = c.args in
    let m = numbers a.a a.f a.taken a.n a.bytes.now c.requires.ready c.well_formed.1.0.1.1.0.1.0.1 (state_of a.matrix.now a.rights.now a.t) c.requires.t_value c.if-n-eq0.false in omega (arith, m.0, m.1, c.well_formed.1.0.1.1.0.1.0.1)

pub slice_bounds-take_records-end-2 : goal.slice_bounds-take_records-end-2
slice_bounds-take_records-end-2 c =
    let a = c.args in
    let m = numbers a.a a.f a.taken a.n a.bytes.now c.requires.ready c.well_formed.1.0.1.1.0.1.0.1 (state_of a.matrix.now a.rights.now a.t) c.requires.t_value c.if-n-eq0.false in omega (arith, m.2, c.requires.ready.near)

pub returns : goal.returns
returns c =
    let a = c.args in
    let room = c.well_formed.1.0.1.1.0.1.0.1 in
    let size = size_of a.a in
    let k = a.n - 1 in
    let s = state_of a.matrix.now a.rights.now a.t in
    let m = numbers a.a a.f a.taken a.n a.bytes.now c.requires.ready room s c.requires.t_value c.if-n-eq0.false in
    let one : a.a.start + size - a.a.start ≡ size = omega arith in
    let others : a.a.start + size - a.f.held + k * size - (a.a.start + size - a.f.held) ≡ k * size = omega arith in
    let e = ap₂ (λ i j. take i (drop a.a.start a.f.room) ∷ cut size k (take j (drop (a.a.start + size - a.f.held) a.bytes.now))) one others
    ∙ some_done a.a a.f a.taken a.n a.bytes.now c.requires.ready room k (omega (arith, c.if-n-eq0.false)) m.0 in
    let r = c.take_records in record {
      state = r.ensures.state ∙ ap (run (record_step (frame_of a.a.heading)) s) e;
      told = r.ensures.told ∙ ap (λ x. lay a.answers.now 0 (answers (record_step (frame_of a.a.heading)) (record_answer (frame_of a.a.heading)) s x)) e;
    }

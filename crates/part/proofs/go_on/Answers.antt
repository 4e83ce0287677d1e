-- `part::go_on` meets its contract: the records are taken and the position moves on, or the file is not opened yet.
use native.Mathlib.Omega.{arith}
use Prim.Native.Nat.{◌+◌}
use mathlib.Core.Path.{◌≡◌, sym, ap, ◌∙◌}
use mathlib.Core.List.{◌++◌}
use Rattle.byte_words.specs.Words.{lay}
use Rattle.take_state.specs.State.{state_of}
use Rattle.take_laws.specs.Machine.{run, answers}
use Rattle.take_laws.specs.Taking.{frame_of, record_answer, record_step}
use Rattle.part_laws.specs.Beginning.{done, left, read_at}
use Rattle.part_laws.specs.Feeding.{so_far, moved}
use Rattle.part_laws.specs.Entries.{position_of, held_of, told_form}
use Rattle.part_laws.proofs.Cuts.{heading_good}
use Rattle.part.proofs.Stops.{fine}
use Rattle.part.proofs.Goes.{front_begins, went, sound_there, few_taken, ready, start_low, inside, before}
use Rattle.part.proofs.go_on.Goals as goal

pub take_done-tally-requires : goal.take_done-tally-requires
take_done-tally-requires c =
    let a = c.args in
    let w = c.well_formed.1.1.1.1.0.1.1.1 in
    let o = sym (rw c.in-Ok.is at c.requires.opens) in record {
      t_value = sound_there a.p (state_of a.matrix.now a.rights.now a.t) a.bytes.now a.answers.now c.requires.number w.0.1.0.1 w.1.0.1.0.1 w.1.1.0.1.0.1 _ o;
      ready = ready a.p (state_of a.matrix.now a.rights.now a.t) a.bytes.now a.answers.now c.requires.number w.0.1.0.1 w.1.0.1.0.1 w.1.1.0.1.0.1 _ o a.n a.f c.requires.front c.requires.many;
      n_in_bounds = omega (arith, c.requires.many, (fine a.p (state_of a.matrix.now a.rights.now a.t) a.bytes.now a.answers.now c.requires.number).enough);
    }

pub moved_on-answer-requires : goal.moved_on-answer-requires
moved_on-answer-requires c =
    let a = c.args in
    let w = c.well_formed.1.1.1.1.0.1.1.1 in
    let o = sym (rw c.in-Ok.is at c.requires.opens) in
    let f = rw c.in-Ok.is at c.requires.fits in
    let s = state_of a.matrix.now a.rights.now a.t in record {
      ready = ready a.p s a.bytes.now a.answers.now c.requires.number w.0.1.0.1 w.1.0.1.0.1 w.1.1.0.1.0.1 _ o a.n a.f c.requires.front c.requires.many;
      fits = (f.0, f.1, few_taken a.p s a.bytes.now a.answers.now c.requires.number w.0.1.0.1 w.1.0.1.0.1 w.1.1.0.1.0.1 _ o, start_low a.p s a.bytes.now a.answers.now c.requires.number w.0.1.0.1 w.1.0.1.0.1 w.1.1.0.1.0.1 _ o, inside a.p s a.bytes.now a.answers.now c.requires.number w.0.1.0.1 w.1.0.1.0.1 w.1.1.0.1.0.1 _ o a.n a.f c.requires.front c.requires.many);
    }

pub returns-in-Ok : goal.returns-in-Ok
returns-in-Ok c =
    let a = c.args in
    let w = c.well_formed.1.1.1.1.0.1.1.1 in
    let o = sym (rw c.in-Ok.is at c.requires.opens) in
    let s = state_of a.matrix.now a.rights.now a.t in
    let h = c.in-Ok.a.heading in
    let t = a.p.taken in
    let is = front_begins a.p a.bytes.now a.f c.requires.front in
    let v = went a.p s a.bytes.now a.answers.now c.requires.number w.0.1.0.1 w.1.0.1.0.1 w.1.1.0.1.0.1 a.n h c.requires.many (heading_good t ((position_of a.p).kept ++ a.bytes.now) _ o) in
    let m = c.moved_on-answer in
    let k = c.take_done-tally in record {
      answer_value = m.ensures.answer_value ∙ ap (λ x. told_form (so_far (read_at t x)) a.n (t + a.n)) is ∙ v.says;
      position = m.ensures.position ∙ ap (λ x. held_of (moved (so_far (read_at t x)) (t + a.n) (left t x))) is ∙ v.leads;
      state = k.ensures.state ∙ ap (λ x. run (record_step (frame_of h)) s (done t x)) is ∙ v.state;
      told = k.ensures.told ∙ ap (λ x. lay a.answers.now 0 (answers (record_step (frame_of h)) (record_answer (frame_of h)) s (done t x))) is ∙ v.answers;
    }

pub returns-in-Err : goal.returns-in-Err
returns-in-Err c =
    let a = c.args in
    let w = c.well_formed.1.1.1.1.0.1.1.1 in
    let o = sym (rw c.in-Err.is at c.requires.opens) in
    let v = before a.p (state_of a.matrix.now a.rights.now a.t) a.bytes.now a.answers.now c.requires.number w.0.1.0.1 w.1.0.1.0.1 w.1.1.0.1.0.1 _ _ o a.n a.f c.requires.front c.requires.many in
    let u = c.unopened-answer in record {
      answer_value = u.ensures.answer_value ∙ v.says;
      position = u.ensures.position ∙ v.leads;
      state = v.state;
      told = v.answers;
    }

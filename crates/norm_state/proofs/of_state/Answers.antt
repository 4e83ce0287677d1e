-- `norm_state::of_state` meets its contract: the state is judged first, and the file is laid only where it is accepted.
use Rattle.std.specs.Prelude.{Err}
use borrow.Author.Rules.{rules}
use mathlib.Core.Path.{◌≡◌, sym, ap, ◌∙◌}
use Rattle.refusal.specs.Told.{told}
use native.Mathlib.Omega.{arith}
use Rattle.num_whole.specs.Answer.{given}
use Rattle.take_state.specs.State.{state_of}
use Rattle.take_state.proofs.Rooms.{by_given, by_refused}
use Rattle.byte_section.proofs.Writing.{on_refused, on_short, on_written}
use Rattle.norm_state.specs.OfState.{state_bytes, file_number, file_of, state_left_in}
use Rattle.norm_state.proofs.Numbers.{held_sound}
use Rattle.norm_state.proofs.Laid.{state_long}
use Rattle.norm_state.proofs.of_state.Goals as goal

pub needed-n-requires : goal.needed-n-requires
needed-n-requires c = (omega arith, omega (arith, (held_sound _ _ (by_given _ c.in_ok-judge_held.ensures)).room.sound.few))

pub put_file-requires : goal.put_file-requires
put_file-requires c =
    let w = (held_sound _ _ (by_given _ c.in_ok-judge_held.ensures)).room in record {
      parameters_le_parameters_most = (w.sound.few, w.matrix, w.rights);
      parameters_in_bounds = omega (arith, c.needed-n.ensures);
    }

pub returns-in_err-judge_held : goal.returns-in_err-judge_held
unfolding file_of file_number state_left_in
returns-in_err-judge_held c =
    let a = c.args in
    let p : c.from_residual.result ≡ Err c.in_err-judge_held.field-0.0 = search rules in
    let got = on_refused _ (state_bytes a.h (state_of a.matrix.now a.rights.now a.t)) a.out.now c.in_err-judge_held.field-0.0 (by_refused _ _ c.in_err-judge_held.ensures) in record {
      answer = ap told p ∙ got.0;
      left = got.1;
    }

pub returns-then-out-n : goal.returns-then-out-n
unfolding file_of file_number state_left_in
returns-then-out-n c =
    let a = c.args in
    let held = state_of a.matrix.now a.rights.now a.t in
    let sound = by_given _ c.in_ok-judge_held.ensures in
    let room = (held_sound _ _ sound).room in
    let labels = c.well_formed.0.1.1.1.1.1.0.1.0.1 in
    let long = state_long a.h held (omega (arith, room.sound.few)) room.matrix room.rights in
    let got = on_short _ (state_bytes a.h held) a.out.now sound (omega (arith, long, c.needed-n.ensures)) in record {
      answer = got.0;
      left = got.1;
    }

pub returns : goal.returns
unfolding file_of file_number state_left_in
returns c =
    let a = c.args in
    let held = state_of a.matrix.now a.rights.now a.t in
    let sound = by_given _ c.in_ok-judge_held.ensures in
    let room = (held_sound _ _ sound).room in
    let labels = c.well_formed.0.1.1.1.1.1.0.1.0.1 in
    let long = state_long a.h held (omega (arith, room.sound.few)) room.matrix room.rights in
    let told = on_written _ (state_bytes a.h held) a.out.now sound (omega (arith, long, c.needed-n.ensures)) in record {
      answer = ap given (c.needed-n.ensures ∙ sym long) ∙ told.0;
      left = c.put_file.ensures ∙ told.1;
    }

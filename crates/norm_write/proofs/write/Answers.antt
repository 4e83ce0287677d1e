-- `norm_write::write` meets its contract: the system is judged first, and the file is laid only where it is accepted.
use Rattle.std.specs.Prelude.{Err}
use borrow.Author.Rules.{rules}
use mathlib.Core.Path.{◌≡◌, sym, ap, ◌∙◌}
use native.Mathlib.Omega.{arith}
use Rattle.num_whole.specs.Answer.{given}
use Rattle.refusal.proofs.Firsts.{answered_is, answered_not}
use Rattle.refusal.specs.Told.{told}
use Rattle.norm_write.specs.Write.{room_bytes, write_number, write_normal, normal_left_in}
use Rattle.byte_section.proofs.Writing.{on_refused, on_short, on_written}
use Rattle.norm_write.proofs.Sound.{number_sound, room_long}
use Rattle.norm_write.proofs.write.Goals as goal

pub needed-n-requires : goal.needed-n-requires
needed-n-requires c =
    let w = (number_sound _ _ _ _ _ (answered_is _ tt tt (sym c.in_ok-judge.ensures)).0).room in
    (w.arcs, w.parameters)

pub put-requires : goal.put-requires
put-requires c =
    let w = (number_sound _ _ _ _ _ (answered_is _ tt tt (sym c.in_ok-judge.ensures)).0).room in record {
      arcs_le_arcs_most = (w.arcs, w.parameters);
      parameters_in_bounds = (w.heads_fit, w.matrix_fits, w.rights_fit);
      parameters_in_bounds_2 = omega (arith, c.needed-n.ensures);
    }

pub returns-in_err-judge : goal.returns-in_err-judge
unfolding write_normal write_number normal_left_in
returns-in_err-judge c =
    let a = c.args in
    let p : c.from_residual.result ≡ Err c.in_err-judge.field-0.0 = search rules in
    let got = on_refused _ (room_bytes a.arcs a.parameters a.heads.now a.matrix.now a.rights.now) a.out.now c.in_err-judge.field-0.0 (answered_not _ tt _ (sym c.in_err-judge.ensures)) in record {
      answer = ap told p ∙ got.0;
      left = got.1;
    }

pub returns-then-out-n : goal.returns-then-out-n
unfolding write_normal write_number normal_left_in
returns-then-out-n c =
    let a = c.args in
    let sound = (answered_is _ tt tt (sym c.in_ok-judge.ensures)).0 in
    let long = room_long a.arcs a.parameters a.heads.now a.matrix.now a.rights.now (number_sound _ _ _ _ _ sound).room in
    let got = on_short _ (room_bytes a.arcs a.parameters a.heads.now a.matrix.now a.rights.now) a.out.now sound (omega (arith, long, c.needed-n.ensures)) in record {
      answer = got.0;
      left = got.1;
    }

pub returns : goal.returns
unfolding write_normal write_number normal_left_in room_bytes
returns c =
    let a = c.args in
    let sound = (answered_is _ tt tt (sym c.in_ok-judge.ensures)).0 in
    let long = room_long a.arcs a.parameters a.heads.now a.matrix.now a.rights.now (number_sound _ _ _ _ _ sound).room in
    let told = on_written _ (room_bytes a.arcs a.parameters a.heads.now a.matrix.now a.rights.now) a.out.now sound (omega (arith, long, c.needed-n.ensures)) in record {
      answer = ap given (c.needed-n.ensures ∙ sym long) ∙ told.0;
      left = c.put.ensures ∙ told.1;
    }

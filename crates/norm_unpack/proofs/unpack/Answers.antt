-- `norm_unpack::unpack` meets its contract: the file's refusal, 20 where a room is too short, else the three rooms filled.
use Rattle.std.specs.Prelude.{Err}
use borrow.Author.Rules.{rules}
use mathlib.Core.Path.{◌≡◌, sym, ap, ◌∙◌}
use native.Mathlib.Omega.{arith}
use Rattle.num_whole.specs.Answer.{good}
use Rattle.refusal.specs.Told.{told_placed}
use Rattle.norm_read.specs.Normal.{numbers_of}
use Rattle.norm_read.proofs.Told.{told_bad}
use Rattle.norm_room.specs.Room.{heads_of}
use Rattle.norm_unpack.specs.Unpack.{filled, matrix_of, rights_of}
use Rattle.norm_unpack.proofs.Laid.{roomy}
use Rattle.norm_unpack.proofs.Taken.{taken, known, unpack_refused, unpack_good, unpack_bad, numbers_same, heads_left, matrix_left, rights_left, left_refused}
use Rattle.norm_unpack.proofs.unpack.Goals as goal

pub is_roomy-requires : goal.is_roomy-requires
is_roomy-requires c =
    let k = known _ _ (taken _ _ (sym c.in_ok-r.ensures)) in
    (k.few_arcs, k.few)

pub fill_heads-requires : goal.fill_heads-requires
fill_heads-requires c =
    let k = known _ _ (taken _ _ (sym c.in_ok-r.ensures)) in
    let room = roomy _ _ _ _ _ (sym c.is_roomy.ensures ∙ c.if-not-is_roomy.false) in record {
      parameters_in_bounds = (k.labels_end, k.totals_end);
      parameters_in_bounds_2 = room.heads_fit;
    }

pub overflow_mul-labels : goal.overflow_mul-labels
overflow_mul-labels c = omega (arith, (known _ _ (taken _ _ (sym c.in_ok-r.ensures))).few_arcs)

pub overflow_add-labels : goal.overflow_add-labels
overflow_add-labels c = omega (arith, (known _ _ (taken _ _ (sym c.in_ok-r.ensures))).few_arcs)

pub fill_matrix-requires : goal.fill_matrix-requires
fill_matrix-requires c =
    let k = known _ _ (taken _ _ (sym c.in_ok-r.ensures)) in
    let room = roomy _ _ _ _ _ (sym c.is_roomy.ensures ∙ c.if-not-is_roomy.false) in record {
      p_in_bounds = (k.labels_end, k.few);
      start_in_bounds = (k.matrix_in, room.matrix_fits);
      p_in_bounds_2 = k.matrix_end;
    }

pub fill_rights-requires : goal.fill_rights-requires
fill_rights-requires c =
    let k = known _ _ (taken _ _ (sym c.in_ok-r.ensures)) in
    let room = roomy _ _ _ _ _ (sym c.is_roomy.ensures ∙ c.if-not-is_roomy.false) in record {
      p_in_bounds = (k.labels_end, k.few);
      start_in_bounds = (k.rights_in, room.rights_fit);
      p_in_bounds_2 = k.rights_end;
    }

pub returns : goal.returns
returns c =
    let a = c.args in
    let read = taken _ _ (sym c.in_ok-r.ensures) in
    let fits = sym c.is_roomy.ensures ∙ c.if-not-is_roomy.false in
    let room = roomy _ _ _ _ _ fits in
    let e = unpack_good _ _ read _ _ _ fits in record {
      result_value = ap good (numbers_same _ _ read) ∙ ap numbers_of (sym e);
      heads_after = c.fill_heads.ensures ∙ heads_left _ _ read _ room.heads_fit ∙ ap (λ j. filled heads_of j a.heads.now) (sym e);
      matrix_after = c.fill_matrix.ensures ∙ matrix_left _ _ read _ room.matrix_fits ∙ ap (λ j. filled matrix_of j a.matrix.now) (sym e);
      rights_after = c.fill_rights.ensures ∙ rights_left _ _ read _ room.rights_fit ∙ ap (λ j. filled rights_of j a.rights.now) (sym e);
    }

pub returns-then-not-is_roomy : goal.returns-then-not-is_roomy
returns-then-not-is_roomy c =
    let e = unpack_bad _ _ (taken _ _ (sym c.in_ok-r.ensures)) _ _ _ (sym c.is_roomy.ensures ∙ c.if-not-is_roomy.true) in record {
      result_value = ap numbers_of (sym e);
      heads_after = left_refused heads_of _ e _;
      matrix_after = left_refused matrix_of _ e _;
      rights_after = left_refused rights_of _ e _;
    }

pub returns-in_err-r : goal.returns-in_err-r
returns-in_err-r c =
    let p : c.from_residual.result ≡ Err c.in_err-r.field-0.0 = search rules in
    let e = unpack_refused _ _ _ _ _ _ (told_bad _ (sym c.in_err-r.ensures)) in record {
      result_value = ap told_placed p ∙ ap numbers_of (sym e);
      heads_after = left_refused heads_of _ e _;
      matrix_after = left_refused matrix_of _ e _;
      rights_after = left_refused rights_of _ e _;
    }

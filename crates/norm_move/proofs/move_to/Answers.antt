-- `norm_move::move_to` meets its contract: what was read is moved, and a refusal stands.
use Rattle.std.specs.Prelude.{Err}
use borrow.Author.Rules.{rules}
use mathlib.Core.Path.{◌≡◌, sym, ap, ◌∙◌}
use Rattle.refusal.specs.Told.{told_placed}
use Rattle.norm_read.proofs.Told.{told_bad}
use Rattle.norm_move.proofs.Known.{answer_refused, left_refused}
use Rattle.norm_move.proofs.move_to.Goals as goal

pub move_read-requires : goal.move_read-requires
move_read-requires c = sym c.in_ok-r.ensures

pub returns-in_err-r : goal.returns-in_err-r
returns-in_err-r c =
    let a = c.args in
    let p : c.from_residual.result ≡ Err c.in_err-r.field-0.0 = search rules in
    let e = told_bad _ (sym c.in_err-r.ensures) in
    (ap told_placed p ∙ answer_refused a.is_small a.file.now _ _ e _, left_refused a.is_small a.file.now _ _ e a.out.now)

-- `norm_heads::read_heads` meets its contract: the arcs, then the labels, then the form and the stored ones.
use Rattle.std.specs.Prelude.{Err}
use borrow.Author.Rules.{rules}
use native.Mathlib.Omega.{arith}
use mathlib.Core.Path.{◌≡◌, sym, ap, ◌∙◌}
use Rattle.refusal.specs.Told.{told_placed}
use Rattle.byte_section.proofs.Walk.{then_good, then_bad}
use Rattle.norm_heads.proofs.Heads.{heads_counts, heads_good, few_arcs, labels_whole}
use Rattle.norm_heads.proofs.read_heads.Goals as goal

pub read_parameters-requires : goal.read_parameters-requires
read_parameters-requires c = few_arcs _ _ (sym c.in_ok-arcs.ensures)

pub is_small_form-is_small-requires : goal.is_small_form-is_small-requires
is_small_form-is_small-requires c = omega (arith, labels_whole _ _ _ _ _ (sym c.in_ok-parameters.ensures))

pub overflow_add-at : goal.overflow_add-at
overflow_add-at c = omega (arith, labels_whole _ _ _ _ _ (sym c.in_ok-parameters.ensures))

pub stored_in-stored-requires : goal.stored_in-stored-requires
stored_in-stored-requires c = labels_whole _ _ _ _ _ (sym c.in_ok-parameters.ensures)

pub returns : goal.returns
returns c =
    heads_good _ _ _ _ _ (sym c.in_ok-arcs.ensures) (sym c.in_ok-parameters.ensures) c.stored_in-stored.ensures c.is_small_form-is_small.ensures

pub returns-in_err-parameters : goal.returns-in_err-parameters
returns-in_err-parameters c =
    let e : c.from_residual-in_err-parameters.result ≡ Err c.in_err-parameters.field-0.0 = search rules in
    ap told_placed e ∙ sym (heads_counts _ ∙ then_good _ _ (sym c.in_ok-arcs.ensures) ∙ then_bad _ _ (sym c.in_err-parameters.ensures))

pub returns-in_err-arcs : goal.returns-in_err-arcs
returns-in_err-arcs c =
    let e : c.from_residual.result ≡ Err c.in_err-arcs.field-0.0 = search rules in
    ap told_placed e ∙ sym (heads_counts _ ∙ then_bad _ _ (sym c.in_err-arcs.ensures))

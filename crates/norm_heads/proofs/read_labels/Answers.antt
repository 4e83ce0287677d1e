-- `norm_heads::read_labels` meets its contract: its count, then its records, of the form that the first one's field tells.
use Rattle.std.specs.Prelude.{Err}
use borrow.Author.Rules.{rules}
use native.Mathlib.Omega.{arith}
use mathlib.Core.Path.{◌≡◌, sym, ap, ◌∙◌}
use Rattle.refusal.specs.Told.{told_placed}
use Rattle.byte_section.proofs.Walk.{then_bad, counted}
use Rattle.norm_kinds.specs.Kinds.{fielded_kind, is_small_form}
use Rattle.norm_heads.proofs.Heads.{span_section, span_labels}
use Rattle.norm_heads.proofs.read_labels.Goals as goal

pub overflow_add-at : goal.overflow_add-at
overflow_add-at c = omega (arith, (counted _ _ _ _ _ (sym c.in_ok-n.ensures)).whole)

pub is_small_form-requires : goal.is_small_form-requires
is_small_form-requires c = omega (arith, (counted _ _ _ _ _ (sym c.in_ok-n.ensures)).whole)

pub walk_labels-requires : goal.walk_labels-requires
walk_labels-requires c = let n = counted _ _ _ _ _ (sym c.in_ok-n.ensures) in (omega (arith, n.whole), n.to)

pub returns-in_err-n : goal.returns-in_err-n
returns-in_err-n c =
    let a = c.args in
    let e : c.from_residual.result ≡ Err c.in_err-n.field-0.0 = search rules in
    ap told_placed e ∙ sym (span_section (fielded_kind (is_small_form a.s.now a.at) a.arcs.now) _ _ _ _ ∙ then_bad _ _ (sym c.in_err-n.ensures))

pub returns : goal.returns
returns c = c.walk_labels.ensures ∙ span_labels _ _ _ _ _ c.is_small_form.ensures (sym c.in_ok-n.ensures)

-- `norm_sections::read_sums` meets its contract: three sections, each with the count that it must have.
use Rattle.std.specs.Prelude.{Err}
use borrow.Author.Rules.{rules}
use native.Mathlib.Omega.{arith}
use mathlib.Core.Path.{◌≡◌, sym, ap, ◌∙◌}
use Rattle.refusal.specs.Told.{told_placed}
use Rattle.byte_section.proofs.Walk.{then_good, then_bad}
use Rattle.norm_sections.specs.Sums.{plain_part, sums_part}
use Rattle.norm_sections.proofs.Plain.{plain_read}
use Rattle.norm_sections.proofs.read_sums.Goals as goal

pub overflow_add-at : goal.overflow_add-at
overflow_add-at c = let end = plain_read _ _ _ _ _ (sym c.in_ok-sides.ensures) in omega (arith, end.0, end.1)

pub overflow_add-sides : goal.overflow_add-sides
overflow_add-sides c = let end = plain_read _ _ _ _ _ (sym c.in_ok-last.ensures) in omega (arith, end.0, end.1)

pub returns : goal.returns
unfolding sums_part
returns c =
    let a = c.args in
    let matrix = ap (λ n. plain_part a.s.now a.at n 8) (sym c.triangle.ensures.0) ∙ sym c.in_ok-sides.ensures in
    c.read_totals.ensures ∙ sym (then_good _ _ matrix ∙ then_good _ _ (sym c.in_ok-last.ensures))

pub returns-in_err-last : goal.returns-in_err-last
unfolding sums_part
returns-in_err-last c =
    let a = c.args in
    let matrix = ap (λ n. plain_part a.s.now a.at n 8) (sym c.triangle.ensures.0) ∙ sym c.in_ok-sides.ensures in
    let e : c.from_residual-in_err-last.result ≡ Err c.in_err-last.field-0.0 = search rules in
    ap told_placed e ∙ sym (then_good _ _ matrix ∙ then_bad _ _ (sym c.in_err-last.ensures))

pub returns-in_err-sides : goal.returns-in_err-sides
unfolding sums_part
returns-in_err-sides c =
    let a = c.args in
    let e : c.from_residual.result ≡ Err c.in_err-sides.field-0.0 = search rules in
    ap told_placed e ∙ sym (then_bad _ _ (ap (λ n. plain_part a.s.now a.at n 8) (sym c.triangle.ensures.0) ∙ sym c.in_err-sides.ensures))

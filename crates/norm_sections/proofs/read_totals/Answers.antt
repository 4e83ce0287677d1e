-- `norm_sections::read_totals` meets its contract: its count and its length, and then 3 where bytes follow.
use Rattle.std.specs.Prelude.{Err}
use borrow.Author.Rules.{rules}
use native.Mathlib.Omega.{arith}
use mathlib.Core.Path.{◌≡◌, refl, sym, ap, ◌∙◌}
use Rattle.refusal.specs.Told.{told_placed}
use Rattle.num_whole.proofs.Cases.{yes, no, is_less, not_less}
use Rattle.byte_section.specs.Section.{closed}
use Rattle.byte_section.proofs.Walk.{then_good, then_bad}
use Rattle.norm_sections.specs.Sums.{totals_part}
use Rattle.norm_sections.proofs.Plain.{plain_read}
use Rattle.norm_sections.proofs.read_totals.Goals as goal

pub overflow_add-result : goal.overflow_add-result
overflow_add-result c = let end = plain_read _ _ _ _ _ (sym c.in_ok-end.ensures) in omega (arith, end.0, end.1)

pub returns-then-end-s : goal.returns-then-end-s
unfolding totals_part closed
returns-then-end-s c = yes _ _ _ (is_less _ _ (omega arith)) refl ∙ sym (then_good _ _ (sym c.in_ok-end.ensures))

pub returns : goal.returns
unfolding totals_part closed
returns c = no _ _ _ (not_less _ _ (omega arith)) refl ∙ sym (then_good _ _ (sym c.in_ok-end.ensures))

pub returns-in_err-end : goal.returns-in_err-end
unfolding totals_part
returns-in_err-end c =
    let e : c.from_residual.result ≡ Err c.in_err-end.field-0.0 = search rules in
    ap told_placed e ∙ sym (then_bad _ _ (sym c.in_err-end.ensures))

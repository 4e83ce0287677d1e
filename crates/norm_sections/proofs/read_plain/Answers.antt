-- `norm_sections::read_plain` meets its contract: its count, then its length.
use Rattle.std.specs.Prelude.{Err}
use borrow.Author.Rules.{rules}
use native.Mathlib.Omega.{arith}
use mathlib.Core.Path.{◌≡◌, sym, ap, ◌∙◌}
use Rattle.refusal.specs.Told.{told_placed}
use native.Mathlib.Nat.{mul-le-mul}
use Rattle.byte_section.proofs.Walk.{counted}
use Rattle.norm_sections.proofs.Plain.{plain_refused, plain_short, plain_next}
use Rattle.norm_sections.proofs.read_plain.Goals as goal

pub overflow_add-start : goal.overflow_add-start
overflow_add-start c = omega (arith, (counted _ _ _ _ _ (sym c.in_ok-read_count.ensures)).whole)

pub overflow_mul-needed : goal.overflow_mul-needed
overflow_mul-needed c = let most = mul-le-mul c.requires.0 c.requires.1 in omega arith

pub overflow_sub-s : goal.overflow_sub-s
overflow_sub-s c = omega (arith, (counted _ _ _ _ _ (sym c.in_ok-read_count.ensures)).whole)

pub overflow_add-result : goal.overflow_add-result
overflow_add-result c =
    let most = mul-le-mul c.requires.0 c.requires.1 in omega (arith, (counted _ _ _ _ _ (sym c.in_ok-read_count.ensures)).whole)

pub returns-then-s-start : goal.returns-then-s-start
returns-then-s-start c = plain_short _ _ _ _ _ (sym c.in_ok-read_count.ensures) (omega arith)

pub returns : goal.returns
returns c = plain_next _ _ _ _ _ (sym c.in_ok-read_count.ensures) (omega arith)

pub returns-in_err-read_count : goal.returns-in_err-read_count
returns-in_err-read_count c =
    let e : c.from_residual.result ≡ Err c.in_err-read_count.field-0.0 = search rules in
    ap told_placed e ∙ plain_refused _ _ _ _ (sym c.in_err-read_count.ensures)

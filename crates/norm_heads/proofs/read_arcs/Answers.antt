-- `norm_heads::read_arcs` meets its contract: its count, then its records.
use Rattle.std.specs.Prelude.{Err}
use borrow.Author.Rules.{rules}
use native.Mathlib.Omega.{arith}
use mathlib.Core.Path.{◌≡◌, sym, ap, ◌∙◌}
use Rattle.refusal.specs.Told.{told_placed}
use Rattle.byte_section.proofs.Walk.{then_good, then_bad, counted}
use Rattle.norm_kinds.specs.Kinds.{arc_kind}
use Rattle.norm_heads.proofs.Heads.{span_section}
use Rattle.norm_heads.proofs.read_arcs.Goals as goal

pub walk_arcs-requires : goal.walk_arcs-requires
walk_arcs-requires c = let n = counted _ _ _ _ _ (sym c.in_ok-n.ensures) in (omega (arith, n.whole), n.to)

pub returns-in_err-n : goal.returns-in_err-n
returns-in_err-n c =
    let e : c.from_residual.result ≡ Err c.in_err-n.field-0.0 = search rules in
    ap told_placed e ∙ sym (span_section arc_kind _ _ _ _ ∙ then_bad _ _ (sym c.in_err-n.ensures))

pub returns : goal.returns
returns c = c.walk_arcs.ensures ∙ sym (span_section arc_kind _ _ _ _ ∙ then_good _ _ (sym c.in_ok-n.ensures))

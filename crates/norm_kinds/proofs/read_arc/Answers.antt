-- `norm_kinds::read_arc` meets its contract: 1, 4 and 5 in the definition's order.
use native.Mathlib.Omega.{arith}
use mathlib.Core.Path.{sym, ap, ◌∙◌}
use Rattle.norm_system.specs.System.{arc_ok}
use Rattle.norm_kinds.specs.Kinds.{arc_kind}
use Rattle.norm_kinds.proofs.Floors.{floor_short, floor_limits, floor_order, floor_next}
use Rattle.norm_kinds.proofs.read_arc.Goals as goal

pub returns-then-left-lt4 : goal.returns-then-left-lt4
returns-then-left-lt4 c = floor_short arc_kind _ _ _ (omega arith)

pub returns-then-not-arc_ok : goal.returns-then-not-arc_ok
returns-then-not-arc_ok c =
    floor_limits arc_kind _ _ _ (omega arith) (ap arc_ok (sym c.read_u32-a.ensures) ∙ sym c.arc_ok.ensures ∙ c.if-not-arc_ok.true)

pub returns-then-from-floor : goal.returns-then-from-floor
returns-then-from-floor c =
    floor_order arc_kind _ _ _ (omega arith) (ap arc_ok (sym c.read_u32-a.ensures) ∙ sym c.arc_ok.ensures ∙ c.if-not-arc_ok.false) _ (c.from.ensures ∙ c.read_u32-a.ensures) (omega arith)

pub returns : goal.returns
returns c =
    floor_next arc_kind _ _ _ (omega arith) (ap arc_ok (sym c.read_u32-a.ensures) ∙ sym c.arc_ok.ensures ∙ c.if-not-arc_ok.false) _ (c.from-2.ensures ∙ c.read_u32-a.ensures) (omega arith)

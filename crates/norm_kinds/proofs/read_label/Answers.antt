-- `norm_kinds::read_label` meets its contract: 1, 4 and 5 in the definition's order, the field of the form before the other fields.
use native.Mathlib.Omega.{arith}
use Prim.Native.Nat.{◌+◌}
use mathlib.Core.Path.{sym, ap, ◌∙◌}
use Rattle.num_whole.specs.Answer.{good}
use Rattle.norm_system.proofs.Labels.{label_kind_lem}
use Rattle.norm_kinds.specs.Kinds.{fielded_kind}
use Rattle.norm_kinds.proofs.Floors.{floor_short, floor_limits, floor_order, floor_next}
use Rattle.norm_kinds.proofs.Labels.{field_off, field_on, fielded_is}
use Rattle.norm_kinds.proofs.read_label.Goals as goal
use Rattle.norm_kinds.proofs.read_label.Goals.{then-not-field_ok-via-then-not-field_ok, then-not-field_ok-via-else-not-field_ok+then-not-label_ok}

pub returns-then-left-lt24 : goal.returns-then-left-lt24
returns-then-left-lt24 c =
    let a = c.args in
    floor_short (fielded_kind a.is_small a.arcs.now) _ _ _ (omega arith)

pub returns-then-not-field_ok : goal.returns-then-not-field_ok
returns-then-not-field_ok c =
    let a = c.args in
    elim c.then-not-field_ok.branch [
      | then-not-field_ok-via-then-not-field_ok w ↦
          floor_limits (fielded_kind a.is_small a.arcs.now) _ _ _ (omega arith) (field_off a.is_small a.arcs.now a.s.now a.at _ c.read_u32.ensures (sym c.field_ok.ensures ∙ w.if-not-field_ok.true))
      | then-not-field_ok-via-else-not-field_ok+then-not-label_ok w ↦
          floor_limits (fielded_kind a.is_small a.arcs.now) _ _ _ (omega arith)
          (field_on a.is_small a.arcs.now a.s.now a.at _ c.read_u32.ensures c.load_label-l.result
          (sym c.field_ok.ensures ∙ w.if-not-field_ok.false) c.load_label-l.ensures (sym w.label_ok.ensures ∙ w.if-not-label_ok.true))
    ]

pub returns-then-key-floor : goal.returns-then-key-floor
returns-then-key-floor c =
    let a = c.args in
    let l = c.load_label-l in
    let is = fielded_is a.is_small a.arcs.now a.s.now a.at _ c.read_u32.ensures l.result l.ensures in
    let ok = field_on a.is_small a.arcs.now a.s.now a.at _ c.read_u32.ensures l.result (sym c.field_ok.ensures ∙ c.if-not-field_ok.false) l.ensures (sym c.label_ok.ensures ∙ c.if-not-label_ok.false) in
    floor_order (fielded_kind a.is_small a.arcs.now) _ _ _ (omega arith) ok _ is (omega arith)

pub overflow_add-result : goal.overflow_add-result
overflow_add-result c = omega (arith, label_kind_lem _ _ (sym c.label_ok.ensures ∙ c.if-not-label_ok.false))

pub returns : goal.returns
returns c =
    let a = c.args in
    let l = c.load_label-l in
    let is = fielded_is a.is_small a.arcs.now a.s.now a.at _ c.read_u32.ensures l.result l.ensures in
    let ok = field_on a.is_small a.arcs.now a.s.now a.at _ c.read_u32.ensures l.result (sym c.field_ok.ensures ∙ c.if-not-field_ok.false) l.ensures (sym c.label_ok.ensures ∙ c.if-not-label_ok.false) in
    ap (λ k. good (k + 1)) c.label_key-key.ensures.0
    ∙ floor_next (fielded_kind a.is_small a.arcs.now) _ _ _ (omega arith) ok _ is (omega arith)

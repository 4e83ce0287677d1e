use mathlib.Core.Path.{◌≡◌, sym, ◌∙◌}
use Prim.Native.Nat.{ℕ, ◌+◌, ◌*◌}
use native.Mathlib.Nat.{sub-zero, add-zero}
use native.Mathlib.Omega.{arith}
use Rattle.norm_kinds.proofs.Labels.{count_end, count_on, count_off}
use Rattle.norm_kinds.proofs.count_stored.Goals as goal
use Rattle.norm_kinds.proofs.count_stored.Goals.{then-field-ne2, else-field-ne2}

pub loop-i-init : goal.loop-i-init
loop-i-init c = (omega arith, rw (sub-zero, add-zero) (omega arith))

pub loop-i-preserved : goal.loop-i-preserved
loop-i-preserved c =
    let l = c.loop-i in
    let at : ℕ = c.args.labels + 24 * l.i in
    let next : c.args.labels + 24 * (l.i + 1) ≡ at + 24 = omega arith in
    let is = c.read_u32-field.ensures in
    let v = l.invariant in
    elim c.if-field-ne2.branch [
      | then-field-ne2 w ↦
          let e = count_on c.args.s.now c.args.p l.i at (omega arith) (λ d. w.if-field-ne2.true (is ∙ d)) in
          let n : c.if-field-ne2.n ≡ l.n + 1 = w.n-is in
          (omega (arith, v.0), rw next (omega (arith, v.1, e)))
      | else-field-ne2 w ↦
          let e = count_off c.args.s.now c.args.p l.i at (omega arith) (sym is ∙ w.if-field-ne2.false) in
          let n : c.if-field-ne2.n ≡ l.n = w.n-is in
          (omega (arith, v.0), rw next (omega (arith, v.1, e)))
    ]

pub returns : goal.returns
returns c =
    let l = c.loop-i in
    (omega (arith, l.invariant.1, count_end c.args.s.now c.args.p l.i (c.args.labels + 24 * l.i) (omega arith)), omega (arith, l.invariant.0))

use mathlib.Core.Path.{◌≡◌, refl, sym, ap, ◌∙◌}
use Prim.Native.Nat.{ℕ, ◌<◌, ◌+◌, ◌-◌, ◌*◌}
use native.Mathlib.Nat.{sub-zero, add-zero}
use native.Mathlib.Omega.{arith}
use lib.ListN.{length, set, length-set}
use Rattle.byte_words.specs.Words.{lay}
use Rattle.byte_words.specs.Stands.{stands}
use Rattle.norm_kinds.specs.Kinds.{fielded_at}
use Rattle.norm_gather.specs.Gather.{seats_from}
use Rattle.norm_gather.proofs.Seated.{seats_end, seats_off, seats_on}
use Rattle.norm_gather.proofs.seat_labels.Goals as goal
use Rattle.norm_gather.proofs.seat_labels.Goals.{then-field-eq2, else-field-eq2}

pub loop-i-init : goal.loop-i-init
loop-i-init c = (omega arith, refl, rw (sub-zero, add-zero))

pub loop-i-preserved : goal.loop-i-preserved
loop-i-preserved c =
    let l = c.loop-i in
    let more : l.i < c.args.p = omega arith in
    let at : ℕ = c.args.labels + 24 * l.i in
    let next : c.args.labels + 24 * (l.i + 1) ≡ at + 24 = omega arith in
    let is = c.read_u32-field.ensures in
    let v = l.invariant in
    elim c.if-field-eq2.branch [
      | then-field-eq2 w ↦ let e = seats_off c.args.s.now c.args.n c.args.p l.i at l.q l.w more (sym is ∙ w.if-field-eq2.true) in
          let q : c.if-field-eq2.q ≡ l.q = w.q-is in
          let r : c.if-field-eq2.w ≡ set l.w l.i c.args.n = w.w-is in (
            omega (arith, v.0),
            ap length r ∙ length-set l.w l.i c.args.n ∙ v.1,
            rw next (v.2 ∙ e ∙ (λ i. lay (sym r i) (l.i + 1) (seats_from c.args.n (sym q i) (stands (fielded_at c.args.s.now) 24 (c.args.p - (l.i + 1)) (at + 24))))),
          )
      | else-field-eq2 w ↦ let e = seats_on c.args.s.now c.args.n c.args.p l.i at l.q l.w more (λ d. w.if-field-eq2.false (is ∙ d)) in
          let q : c.if-field-eq2.q ≡ l.q + 1 = w.q-is in
          let r : c.if-field-eq2.w ≡ set l.w l.i l.q = w.w-is in (
            omega (arith, v.0),
            ap length r ∙ length-set l.w l.i l.q ∙ v.1,
            rw next (v.2 ∙ e ∙ (λ i. lay (sym r i) (l.i + 1) (seats_from c.args.n (sym q i) (stands (fielded_at c.args.s.now) 24 (c.args.p - (l.i + 1)) (at + 24))))),
          )
    ]

pub returns : goal.returns
returns c =
    let l = c.loop-i in
    sym (l.invariant.2 ∙ seats_end c.args.s.now c.args.n c.args.p l.i (c.args.labels + 24 * l.i) l.q l.w (omega arith))

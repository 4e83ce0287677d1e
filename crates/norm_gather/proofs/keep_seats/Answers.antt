use mathlib.Core.Path.{◌≡◌, refl, sym, ap, ◌∙◌}
use Prim.Native.Nat.{suc, ◌<◌, ◌+◌}
use native.Mathlib.Omega.{arith}
use lib.ListN.{length, get_or, drop, set, length-set}
use Rattle.byte_words.specs.Words.{lay}
use Rattle.norm_gather.specs.Gather.{kept_seats, field_by_seat}
use Rattle.norm_gather.proofs.Seated.{kept_none, kept_off, kept_on, kept_turn, kept_done}
use Rattle.norm_gather.proofs.keep_seats.Goals as goal
use Rattle.norm_gather.proofs.keep_seats.Goals.{then-field-ne2, else-field-ne2}

pub loop-i-init : goal.loop-i-init
loop-i-init c = (omega arith, omega arith, refl, omega arith, refl)

pub loop-i-preserved : goal.loop-i-preserved
loop-i-preserved c =
    let l = c.loop-i in
    let f = field_by_seat c.args.is_small c.args.s.now c.args.start c.args.n in
    let more : l.i < length c.args.w.now = omega arith in
    let is = c.field_in-field.ensures in
    let v = l.invariant in
    elim c.if-field-ne2.branch [
      | then-field-ne2 w ↦ let off : f (get_or c.args.w.now l.i 0) ≡ 2 → ⊥ = λ d. w.if-field-ne2.true (is ∙ d) in
          let long : length (kept_seats f (drop l.i c.args.w.now)) ≡ suc (length (kept_seats f (drop (l.i + 1) c.args.w.now))) = ap length (kept_on f c.args.w.now l.i more off) in
          let n : c.if-field-ne2.m ≡ l.m + 1 = w.m-is in
          let r : c.if-field-ne2.u ≡ set l.u l.m (get_or c.args.w.now l.i 0) = w.u-is in (
            omega arith,
            omega (arith, v.1),
            ap length r ∙ length-set l.u l.m (get_or c.args.w.now l.i 0) ∙ v.2,
            omega (arith, v.3),
            v.4 ∙ kept_turn f c.args.w.now l.i l.u l.m _ more refl off ∙ (λ i. lay (sym r i) (sym n i) (kept_seats f (drop (l.i + 1) c.args.w.now))),
          )
      | else-field-ne2 w ↦ let e = kept_off f c.args.w.now l.i more (sym is ∙ w.if-field-ne2.false) in
          let long : length (kept_seats f (drop l.i c.args.w.now)) ≡ length (kept_seats f (drop (l.i + 1) c.args.w.now)) = ap length e in
          let n : c.if-field-ne2.m ≡ l.m = w.m-is in
          let r : c.if-field-ne2.u ≡ l.u = w.u-is in (
            omega arith,
            omega (arith, v.1),
            ap length r ∙ v.2,
            omega (arith, v.3),
            v.4 ∙ ap (lay l.u l.m) e ∙ (λ i. lay (sym r i) (sym n i) (kept_seats f (drop (l.i + 1) c.args.w.now))),
          )
    ]

pub returns : goal.returns
returns c =
    let l = c.loop-i in
    let f = field_by_seat c.args.is_small c.args.s.now c.args.start c.args.n in
    let none : length (kept_seats f (drop l.i c.args.w.now)) ≡ 0 = ap length (kept_none f c.args.w.now l.i (omega arith)) in
    (omega (arith, l.invariant.3), sym (l.invariant.4 ∙ kept_done f c.args.w.now l.i l.u l.m (omega arith)))

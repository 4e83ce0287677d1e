use mathlib.Core.Path.{◌≡◌, refl, sym, ap, ◌∙◌}
use mathlib.Core.List.{[], ◌∷◌}
use Prim.Native.Nat.{suc, ◌<◌, ◌+◌, ◌-◌}
use native.Mathlib.Nat.{sub-zero}
use native.Mathlib.Omega.{arith}
use lib.ListN.{length, set, length-set}
use Rattle.byte_words.specs.Words.{lay}
use Rattle.merge_locate.specs.Locate.{stored_for, numbers_where}
use Rattle.merge_join.proofs.Joining.{lay_one, lay_none}
use Rattle.merge_locate.proofs.Numbers.{numbers_end, numbers_next, numbers_skip}
use Rattle.merge_locate.proofs.locate.Goals as goal
use Rattle.merge_locate.proofs.locate.Goals.{then-is_stored, else-is_stored}

pub loop-i-init : goal.loop-i-init
loop-i-init c = (omega arith, omega arith, refl, rw sub-zero (omega arith), rw sub-zero)

pub loop-i-preserved : goal.loop-i-preserved
unfolding stored_for
loop-i-preserved c =
    let l = c.loop-i in
    let f = stored_for c.args.s.now c.args.labels c.args.p c.args.left.now in
    let more : l.i < c.args.n = omega arith in
    let is = c.is_stored.ensures in
    let v = l.invariant in
    elim c.if-is_stored.branch [
      | then-is_stored w ↦ let e : numbers_where f l.i (c.args.n - l.i) ≡ l.i ∷ numbers_where f (l.i + 1) (c.args.n - (l.i + 1)) = numbers_next f c.args.n l.i more (sym is ∙ w.if-is_stored.true) in
          let long : length (numbers_where f l.i (c.args.n - l.i)) ≡ suc (length (numbers_where f (l.i + 1) (c.args.n - (l.i + 1)))) = ap length e in
          let n : c.if-is_stored.m ≡ l.m + 1 = w.m-is in
          let t : c.if-is_stored.t ≡ set l.t l.m l.i = w.t-is in (
            omega arith,
            omega (arith, v.1),
            ap length t ∙ length-set l.t l.m l.i ∙ v.2,
            omega (arith, v.3),
            v.4 ∙ ap (lay l.t l.m) e ∙ lay_one l.t l.m l.i (numbers_where f (l.i + 1) (c.args.n - (l.i + 1))) ∙ (λ i. lay (sym t i) (sym n i) (numbers_where f (l.i + 1) (c.args.n - (l.i + 1)))),
          )
      | else-is_stored w ↦ let e : numbers_where f l.i (c.args.n - l.i) ≡ numbers_where f (l.i + 1) (c.args.n - (l.i + 1)) = numbers_skip f c.args.n l.i more (sym is ∙ w.if-is_stored.false) in
          let long : length (numbers_where f l.i (c.args.n - l.i)) ≡ length (numbers_where f (l.i + 1) (c.args.n - (l.i + 1))) = ap length e in
          let n : c.if-is_stored.m ≡ l.m = w.m-is in
          let t : c.if-is_stored.t ≡ l.t = w.t-is in (
            omega arith,
            omega (arith, v.1),
            ap length t ∙ v.2,
            omega (arith, v.3),
            v.4 ∙ ap (lay l.t l.m) e ∙ (λ i. lay (sym t i) (sym n i) (numbers_where f (l.i + 1) (c.args.n - (l.i + 1)))),
          )
    ]

pub returns : goal.returns
returns c =
    let l = c.loop-i in
    let f = stored_for c.args.s.now c.args.labels c.args.p c.args.left.now in
    let e : numbers_where f l.i (c.args.n - l.i) ≡ [] = numbers_end f c.args.n l.i (omega arith) in
    let long : length (numbers_where f l.i (c.args.n - l.i)) ≡ 0 = ap length e in
    (omega (arith, l.invariant.3), sym (l.invariant.4 ∙ ap (lay l.t l.m) e ∙ lay_none l.t l.m))

-- `num_packed::is_broken` meets its contract.
use mathlib.Core.Path.{◌≡◌, sym, ap, ◌∙◌, subst}
use mathlib.Core.Bool.{true, false, not}
use native.Mathlib.Omega.{arith}
use borrow.Author.Rules.{rules}
use borrow.Author.Tests.{eq-eqb, ne_eqb}
use lib.IntN.{pos, neg_ℤ}
use lib.Signed.{lt_z}
use lib.ListN.{get_or}
use mir.Syntax.{w64}
use mir.ValLaws.{to_z-of_z}
use Prim.Native.Nat.{◌+◌}
use Rattle.num_packed.specs.Sound.{entry, is_zero, breaks}
use Rattle.num_packed.proofs.Places.{tri_next, tri_within}
use Rattle.num_packed.proofs.Tests.{zero_bits, is_zero_lem, not_zero, past_is, past_true, past_false, chosen, other}
use Rattle.num_packed.proofs.is_broken.Goals as goal

pub offset_bounds-s-place : goal.offset_bounds-s-place
offset_bounds-s-place c = omega (arith, tri_next c.args.j)

pub bounds-s-place : goal.bounds-s-place
bounds-s-place c = omega (arith, tri_next c.args.j)

pub offset_bounds-s-place-then-x-ne0 : goal.offset_bounds-s-place-then-x-ne0
offset_bounds-s-place-then-x-ne0 c = omega (arith, tri_next c.args.j, tri_within c.args.i (c.args.j + 1) (omega arith))

pub bounds-s-place-then-x-ne0 : goal.bounds-s-place-then-x-ne0
bounds-s-place-then-x-ne0 c = omega (arith, tri_next c.args.j, tri_within c.args.i (c.args.j + 1) (omega arith))

pub bounds-s-place-else-s-place-eq0 : goal.bounds-s-place-else-s-place-eq0
bounds-s-place-else-s-place-eq0 c = omega (arith, tri_next c.args.j)

pub returns-then-is_past : goal.returns-then-is_past
unfolding breaks
returns-then-is_past c =
    let b = c.args.bound in
    let s = c.args.s.now in
    let x = entry s c.args.i c.args.j in
    let value = to_z-of_z w64 (get_or s c.place.result (pos 0)) (search rules) ∙ ap (λ k. get_or s k (pos 0)) c.place.ensures in
    let past = past_is b x _ _ _ (to_z-of_z w64 b c.ranges.bound) value c.is_past.ensures in
    past_true (lt_z b x) (lt_z x (neg_ℤ b)) _ (sym past ∙ c.if-is_past.true)

pub returns-then-i-j : goal.returns-then-i-j
unfolding breaks
returns-then-i-j c =
    let b = c.args.bound in
    let s = c.args.s.now in
    let x = entry s c.args.i c.args.j in
    let value = to_z-of_z w64 (get_or s c.place.result (pos 0)) (search rules) ∙ ap (λ k. get_or s k (pos 0)) c.place.ensures in
    let past = past_is b x _ _ _ (to_z-of_z w64 b c.ranges.bound) value c.is_past.ensures in
    ap (λ z. lt_z z (pos 0)) value ∙ sym (chosen _ _ _ (eq-eqb _ _ c.if-i-j.true)) ∙ past_false (lt_z b x) (lt_z x (neg_ℤ b)) _ (sym past ∙ c.if-is_past.false)

pub returns-then-s-place-eq0 : goal.returns-then-s-place-eq0
unfolding breaks
returns-then-s-place-eq0 c =
    let b = c.args.bound in
    let s = c.args.s.now in
    let x = entry s c.args.i c.args.j in
    let value = to_z-of_z w64 (get_or s c.place.result (pos 0)) (search rules) ∙ ap (λ k. get_or s k (pos 0)) c.place.ensures in
    let past = past_is b x _ _ _ (to_z-of_z w64 b c.ranges.bound) value c.is_past.ensures in
    let zx : is_zero x ≡ false = subst (λ k. is_zero (get_or s k (pos 0)) ≡ false) c.place.ensures (not_zero (get_or s c.place.result (pos 0)) (search rules) c.if-x-ne0.true) in
    let p = c.place-then-x-ne0 in
    let zp : is_zero (entry s c.args.i c.args.i) ≡ true = subst (λ k. is_zero (get_or s k (pos 0)) ≡ true) p.ensures (is_zero_lem (get_or s p.result (pos 0)) (search rules) c.if-s-place-eq0.true) in
    zero_bits (get_or s p.result (pos 0)) (search rules) ∙ is_zero_lem (get_or s p.result (pos 0)) (search rules) c.if-s-place-eq0.true
    ∙ sym (chosen _ _ _ zp) ∙ sym (other _ _ _ zx) ∙ sym (other _ _ _ (ne_eqb _ _ c.if-i-j.false)) ∙ past_false (lt_z b x) (lt_z x (neg_ℤ b)) _ (sym past ∙ c.if-is_past.false)

pub returns-else-s-place-eq0 : goal.returns-else-s-place-eq0
unfolding breaks
returns-else-s-place-eq0 c =
    let b = c.args.bound in
    let s = c.args.s.now in
    let x = entry s c.args.i c.args.j in
    let value = to_z-of_z w64 (get_or s c.place.result (pos 0)) (search rules) ∙ ap (λ k. get_or s k (pos 0)) c.place.ensures in
    let past = past_is b x _ _ _ (to_z-of_z w64 b c.ranges.bound) value c.is_past.ensures in
    let zx : is_zero x ≡ false = subst (λ k. is_zero (get_or s k (pos 0)) ≡ false) c.place.ensures (not_zero (get_or s c.place.result (pos 0)) (search rules) c.if-x-ne0.true) in
    let p = c.place-then-x-ne0 in
    let zp : is_zero (entry s c.args.i c.args.i) ≡ false = subst (λ k. is_zero (get_or s k (pos 0)) ≡ false) p.ensures (not_zero (get_or s p.result (pos 0)) (search rules) c.if-s-place-eq0.false) in
    zero_bits (get_or s c.place-else-s-place-eq0.result (pos 0)) (search rules) ∙ ap (λ k. is_zero (get_or s k (pos 0))) c.place-else-s-place-eq0.ensures
    ∙ sym (other _ _ _ zp) ∙ sym (other _ _ _ zx) ∙ sym (other _ _ _ (ne_eqb _ _ c.if-i-j.false)) ∙ past_false (lt_z b x) (lt_z x (neg_ℤ b)) _ (sym past ∙ c.if-is_past.false)

pub returns-else-x-ne0 : goal.returns-else-x-ne0
unfolding breaks
returns-else-x-ne0 c =
    let b = c.args.bound in
    let s = c.args.s.now in
    let x = entry s c.args.i c.args.j in
    let value = to_z-of_z w64 (get_or s c.place.result (pos 0)) (search rules) ∙ ap (λ k. get_or s k (pos 0)) c.place.ensures in
    let past = past_is b x _ _ _ (to_z-of_z w64 b c.ranges.bound) value c.is_past.ensures in
    let zx : is_zero x ≡ true = subst (λ k. is_zero (get_or s k (pos 0)) ≡ true) c.place.ensures (is_zero_lem (get_or s c.place.result (pos 0)) (search rules) c.if-x-ne0.false) in
    ap not (zero_bits (get_or s c.place.result (pos 0)) (search rules) ∙ is_zero_lem (get_or s c.place.result (pos 0)) (search rules) c.if-x-ne0.false)
    ∙ sym (chosen _ _ _ zx) ∙ sym (other _ _ _ (ne_eqb _ _ c.if-i-j.false)) ∙ past_false (lt_z b x) (lt_z x (neg_ℤ b)) _ (sym past ∙ c.if-is_past.false)

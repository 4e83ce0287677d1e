-- `num_packed::is_broken_side` meets its contract.
use mathlib.Core.Path.{◌≡◌, sym, ap, ◌∙◌}
use mathlib.Core.Bool.{Bool, true, false, not, cond}
use native.Mathlib.Omega.{arith}
use lib.IntN.{ℤ, pos, neg_ℤ}
use lib.Signed.{lt_z}
use lib.ListN.{get_or}
use mir.Syntax.{w64}
use mir.Val.{SFits}
use mir.ValLaws.{to_z-of_z}
use borrow.Author.Rules.{rules}
use Rattle.num_packed.specs.Sound.{is_zero, breaks_side}
use Rattle.num_packed.proofs.Places.{tri_next}
use Rattle.num_packed.proofs.Tests.{zero_bits, is_zero_lem, not_zero, past_is, past_true, past_false, chosen, other}
use Rattle.num_packed.proofs.is_broken_side.Goals as goal

pub offset_bounds-s-place : goal.offset_bounds-s-place
offset_bounds-s-place c = omega (arith, tri_next c.args.i)

pub bounds-s-place : goal.bounds-s-place
bounds-s-place c = omega (arith, tri_next c.args.i)

pub returns-then-is_past : goal.returns-then-is_past
unfolding breaks_side
returns-then-is_past c =
    let y = get_or c.args.r.now c.args.i (pos 0) in
    let past = past_is _ y _ _ _ (to_z-of_z w64 c.args.bound c.ranges.bound) (search (c, rules)) c.is_past.ensures in
    c.if-is_past.true ∙ past_true (lt_z c.args.bound y) (lt_z y (neg_ℤ c.args.bound)) _ (sym past ∙ c.if-is_past.true)

pub returns-then-y-ne0 : goal.returns-then-y-ne0
unfolding breaks_side
returns-then-y-ne0 c =
    let y = get_or c.args.r.now c.args.i (pos 0) in
    let fits : SFits w64 y = search rules in
    let past = past_is _ y _ _ _ (to_z-of_z w64 c.args.bound c.ranges.bound) (search (c, rules)) c.is_past.ensures in
    zero_bits (get_or c.args.s.now c.place.result (pos 0)) (search rules) ∙ ap (λ k. is_zero (get_or c.args.s.now k (pos 0))) c.place.ensures
    ∙ sym (other _ _ _ (not_zero y fits c.if-y-ne0.true)) ∙ past_false _ _ _ (sym past ∙ c.if-is_past.false)

pub returns-else-y-ne0 : goal.returns-else-y-ne0
unfolding breaks_side
returns-else-y-ne0 c =
    let y = get_or c.args.r.now c.args.i (pos 0) in
    let fits : SFits w64 y = search rules in
    let past = past_is _ y _ _ _ (to_z-of_z w64 c.args.bound c.ranges.bound) (search (c, rules)) c.is_past.ensures in
    let z = is_zero_lem y fits c.if-y-ne0.false in
    ap not (zero_bits y fits ∙ z) ∙ sym (chosen _ _ _ z) ∙ past_false _ _ _ (sym past ∙ c.if-is_past.false)

-- `unit_turn::apart` meets its contract: T becomes 0 on both sides, and no difference is too large.
use Prim.Native.Nat.{ℕ, ◌^◌, ◌≤◌}
use native.Mathlib.Omega.{arith}
use mathlib.Core.Path.{◌≡◌, sym, ap, ap₂, ◌∙◌, subst}
use lib.IntN.{ℤ, nat_abs, ◌-ℤ◌}
use mir.Syntax.{w64}
use mir.Val.{SFits, of_z, to_z}
use mir.Facts.{to_z-of_z}
use Rattle.num_whole.proofs.Cases.{yes, no}
use Rattle.unit_types.specs.declared.TypeRow.{TypeRow}
use Rattle.unit_turn.specs.Turning.{on_circle, brought, apart_by}
use Rattle.unit_turn.proofs.Limits.{circle_small}
use Rattle.unit_turn.proofs.Words.{minus_within, minus_fits, minus_is}
use Rattle.unit_turn.proofs.apart.Goals as goal

wide : {n : ℕ} → n ≤ 2 ^ 40 → n ≤ 2 ^ 41
wide h = omega arith

-- what `on_circle` was handed is the word of its number
by_row : (r : TypeRow) {q x : ℤ} → SFits w64 q → x ≡ on_circle r (to_z w64 (of_z w64 q)) → x ≡ on_circle r q
by_row r f e = e ∙ ap (λ z. on_circle r z) (to_z-of_z f)

on_row : (r : TypeRow) (q : ℤ) {x : ℤ} → SFits w64 q → nat_abs q ≤ 2 ^ 40 → x ≡ on_circle r (to_z w64 (of_z w64 q)) → nat_abs x ≤ 2 ^ 40
on_row r q f h e = subst (λ z. nat_abs z ≤ 2 ^ 40) (sym (by_row r f e)) (circle_small r q h)

pub overflow_sub-on_circle : goal.overflow_sub-on_circle
overflow_sub-on_circle c =
    let a = c.args in
    minus_fits c.on_circle.result c.on_circle-then-row.result
    (wide (on_row a.row a.o c.ranges.o c.requires.0 c.on_circle.ensures))
    (wide (on_row a.row a.c c.ranges.c c.requires.1 c.on_circle-then-row.ensures))

pub bring-requires : goal.bring-requires
bring-requires c =
    let a = c.args in
    let p = on_row a.row a.o c.ranges.o c.requires.0 c.on_circle.ensures in
    let q = on_row a.row a.c c.ranges.c c.requires.1 c.on_circle-then-row.ensures in
    let x = c.on_circle.result in
    let y = c.on_circle-then-row.result in
    subst (λ z. nat_abs z ≤ 2 ^ 41) (sym (minus_is x y (wide p) (wide q))) (minus_within x y p q)

pub overflow_sub-result : goal.overflow_sub-result
overflow_sub-result c = minus_fits c.args.o c.args.c (wide c.requires.0) (wide c.requires.1)

pub returns-then-row : goal.returns-then-row
unfolding apart_by
returns-then-row c =
    let a = c.args in
    let p = on_row a.row a.o c.ranges.o c.requires.0 c.on_circle.ensures in
    let q = on_row a.row a.c c.ranges.c c.requires.1 c.on_circle-then-row.ensures in
    yes _ _ _ c.if-row.true
    (to_z-of_z {w = w64} (record { sfits = c.bring.type_inv }) ∙ c.bring.ensures
    ∙ ap brought (minus_is c.on_circle.result c.on_circle-then-row.result (wide p) (wide q)
    ∙ ap₂ (λ x y. x -ℤ y) (by_row a.row c.ranges.o c.on_circle.ensures) (by_row a.row c.ranges.c c.on_circle-then-row.ensures)))

pub returns-else-row : goal.returns-else-row
unfolding apart_by
returns-else-row c = no _ _ _ c.if-row.false (minus_is c.args.o c.args.c (wide c.requires.0) (wide c.requires.1))

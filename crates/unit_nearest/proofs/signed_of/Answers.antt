-- `unit_nearest::signed_of` meets its contract. Assumes nothing.
use mathlib.Core.Path.{◌≡◌, sym, ap, ◌∙◌, subst}
use mathlib.Core.Bool.{Bool, true}
use Prim.Native.Nat.{ℕ, ◌≤◌, ◌^◌}
use native.Mathlib.Omega.{arith}
use lib.IntN.{ℤ, pos, ◌-ℤ◌}
use mir.Syntax.{w64}
use mir.Val.{SFits, of_z, to_z}
use mir.Facts.{to_z-of_z, to_z_pos}
use Rattle.unit_nearest.specs.Doubles.{signed}
use Rattle.unit_nearest.proofs.Signs.{sfits_signed, less_of_zero}
use Rattle.unit_nearest.proofs.signed_of.Goals as goal

read : (n : ℕ) → n ≤ 2 ^ 53 → to_z w64 n ≡ pos n
read n h = to_z_pos w64 (omega arith)

turned : (n : ℕ) → n ≤ 2 ^ 53 → pos 0 -ℤ to_z w64 n ≡ signed true n
turned n h = ap (λ (z : ℤ). pos 0 -ℤ z) (read n h) ∙ less_of_zero n

pub overflow_sub-result : goal.overflow_sub-result
overflow_sub-result c = subst (λ (z : ℤ). SFits w64 z) (sym (turned c.args.n c.requires)) (sfits_signed true c.args.n c.requires)

pub returns-then-negative : goal.returns-then-negative
returns-then-negative c =
    let n = c.args.n in
    let h = c.requires in
    ap (λ (z : ℤ). to_z w64 (of_z w64 z)) (turned n h) ∙ to_z-of_z (sfits_signed true n h) ∙ sym (ap (λ (s : Bool). signed s n) c.if-negative.true)

pub returns : goal.returns
returns c = read c.args.n c.requires ∙ sym (ap (λ (s : Bool). signed s c.args.n) c.if-negative.false)

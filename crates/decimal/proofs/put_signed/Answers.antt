-- `decimal::put_signed` meets its contract: a minus and the size's digits, or the digits alone.
use mathlib.Core.Path.{◌≡◌, ap, ◌∙◌}
use mathlib.Core.Bool.{true, false}
use Prim.Native.Nat.{ℕ}
use mathlib.Core.List.{List, [], ◌∷◌}
use lib.IntN.{ℤ, pos, nat_abs}
use lib.Signed.{lt_z}
use mir.Syntax.{w64}
use mir.ValLaws.{to_z-of_z}
use Rattle.decimal.specs.Decimal.{decimal, signed_decimal}
use Rattle.decimal.specs.Laid.{laid}
use Rattle.decimal.proofs.Laying.{laid_then}
use Rattle.decimal.proofs.Back.{signed_below, signed_above}
use Rattle.decimal.proofs.put_signed.Goals as goal

module _ (s : List ℕ) (at n : ℕ) (z : ℤ) (is : n ≡ nat_abs z) where
  negative : {t u : List ℕ} {k m : ℕ} → lt_z z (pos 0) ≡ true → (t, k) ≡ laid s at (45 ∷ []) → (u, m) ≡ laid t k (decimal n) → (u, m) ≡ laid s at (signed_decimal z)
  negative below e f = f ∙ laid_then s at (45 ∷ []) (decimal n) e ∙ ap (λ x. laid s at (45 ∷ decimal x)) is ∙ ap (laid s at) (signed_below z below)

  plain : {u : List ℕ} {m : ℕ} → lt_z z (pos 0) ≡ false → (u, m) ≡ laid s at (decimal n) → (u, m) ≡ laid s at (signed_decimal z)
  plain above f = f ∙ ap (λ x. laid s at (decimal x)) is ∙ ap (laid s at) (signed_above z above)

pub returns-then-z-lt0 : goal.returns-then-z-lt0
returns-then-z-lt0 c =
    let a = c.args in
    let word = to_z-of_z w64 a.z c.ranges.z in
    let below : lt_z a.z (pos 0) ≡ true = rw word at c.if-z-lt0.true in
    negative _ a.at _ a.z (c.magnitude-n.ensures ∙ ap nat_abs word) below c.put_text-next.ensures c.put_decimal.ensures

pub returns-else-z-lt0 : goal.returns-else-z-lt0
returns-else-z-lt0 c =
    let a = c.args in
    let word = to_z-of_z w64 a.z c.ranges.z in
    let above : lt_z a.z (pos 0) ≡ false = rw word at c.if-z-lt0.false in
    plain _ a.at _ a.z (c.magnitude-n.ensures ∙ ap nat_abs word) above c.put_decimal-else-z-lt0.ensures

-- A partial of sixteen bits is 0 where its bits are; and the marks of a record's partials, one partial after another.
-- Assumes nothing.
use Prim.Native.Nat.{ℕ, zero, suc, ◌-◌, ◌^◌, ◌<◌}
use mathlib.Core.Path.{◌≡◌, refl, sym, ap, ◌∙◌}
use mathlib.Core.Bool.{true, false}
use mathlib.Core.List.{List, [], ◌∷◌}
use native.Mathlib.Omega.{arith}
use native.Mathlib.Nat.{le_of_suc-le-suc, not-suc-le-zero}
use borrow.Author.Tests.{eq-eqb, ne_eqb}
use lib.Dec.{eqb}
use lib.IntN.{ℤ, pos, negsuc}
use lib.ListN.{length, get_or, set, take}
use mir.Syntax.{w16}
use mir.Val.{SFits, of_z}
use Rattle.num_whole.specs.Tests.{pick}
use Rattle.num_packed.specs.Sound.{is_zero}
use Rattle.take_marks.specs.Marks.{with_mark, marks_with}

zero_bits : (z : ℤ) → SFits w16 z → eqb (of_z w16 z) 0 ≡ is_zero z
zero_bits (pos n) f = refl
zero_bits (negsuc n) f = ne_eqb (2 ^ 16 - suc n) 0 (λ e. never n f.sfits e)
  where
    never : (n : ℕ) → n < 2 ^ 15 → 2 ^ 16 - suc n ≡ 0 → ⊥
    never n h e = omega arith

pub zero_of : (z : ℤ) → SFits w16 z → of_z w16 z ≡ 0 → is_zero z ≡ true
zero_of z f e = sym (zero_bits z f) ∙ eq-eqb (of_z w16 z) 0 e

pub not_zero_of : (z : ℤ) → SFits w16 z → (of_z w16 z ≡ 0 → ⊥) → is_zero z ≡ false
not_zero_of z f e = sym (zero_bits z f) ∙ ne_eqb (of_z w16 z) 0 e

-- ---- one partial more
module _ (k : ℕ) where
  pub marks_none : (a : List ℤ) (l : List ℕ) → marks_with k (take 0 a) l ≡ l
  unfolding marks_with
  marks_none a l = refl

  pub marks_more : (a : List ℤ) (l : List ℕ) (j : ℕ) → j < length a → j < length l
      → set (marks_with k (take j a) l) j (pick (is_zero (get_or a j (pos 0))) (get_or (marks_with k (take j a) l) j 0) (with_mark (get_or (marks_with k (take j a) l) j 0) k)) ≡ marks_with k (take (suc j) a) l
  unfolding marks_with
  marks_more [] l j h g = absurd (not-suc-le-zero h)
  marks_more (x ∷ a) [] j h g = absurd (not-suc-le-zero g)
  marks_more (x ∷ a) (m ∷ l) zero h g = refl
  marks_more (x ∷ a) (m ∷ l) (suc j) h g = ap (λ r. pick (is_zero x) m (with_mark m k) ∷ r) (marks_more a l j (le_of_suc-le-suc h) (le_of_suc-le-suc g))

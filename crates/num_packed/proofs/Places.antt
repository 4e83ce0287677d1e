-- The places of the packed triangle.
-- Assumes nothing.
use mathlib.Core.Path.{◌≡◌, refl, sym, ap, ◌∙◌, subst}
use mathlib.Core.Logic.{⊎_elim, ◌⊎◌, inl, inr}
use Prim.Native.Nat.{ℕ, zero, suc, ◌+◌, ◌*◌, ◌<◌, ◌≤◌}
use native.Mathlib.Nat.{not-suc-le-zero, le_of_suc-le-suc, le_trans, eq-or-lt_of_le, le_antisymm, lt_of_not-le, suc-mul, mul-suc}
use native.Mathlib.Decide.{dec_lt}
use native.Mathlib.Numerals.{add-one}
use native.Mathlib.Omega.{arith}
use Rattle.num_packed.specs.Triangle.{tri}

pub tri_next : (j : ℕ) → tri (j + 1) ≡ tri j + j + 1
unfolding tri
tri_next j = rw (add-one j) (omega arith)

-- column j ends within the triangle of n columns
pub tri_within : (j n : ℕ) → j < n → tri j + j + 1 ≤ tri n
unfolding tri
tri_within j zero h = absurd (not-suc-le-zero h)
tri_within j (suc n) h = ⊎_elim (λ e. subst (λ m. tri m + m + 1 ≤ tri n + suc n) (sym e) (omega arith)) (λ l. le_trans (tri_within j n l) (omega arith)) (eq-or-lt_of_le (le_of_suc-le-suc h))

-- twice the place of a column's first number
pub tri_twice : (j : ℕ) → tri j * 2 ≡ j * (j + 1)
unfolding tri
tri_twice zero = refl
tri_twice (suc j) =
    let known : tri j * 2 ≡ j * (j + 1) = tri_twice j in
    let left : suc j * (suc j + 1) ≡ j * (suc j + 1) + (suc j + 1) = suc-mul j (suc j + 1) in
    let right : j * (suc j + 1) ≡ j * (j + 1) + j = ap (λ m. j * m) (omega arith) ∙ mul-suc j (j + 1) in
    omega arith

-- ---- the order of the places is that of the columns, and in a column that of the rows
pub earlier : (v u i j : ℕ) → v ≤ u → i ≤ j → tri u + v < tri j + i → (u < j) ⊎ ((u ≡ j) × (v < i))
earlier v u i j p q h = by (dec_lt u j) (dec_lt j u)
  where
    by : Dec (u < j) → Dec (j < u) → (u < j) ⊎ ((u ≡ j) × (v < i))
    by (yes l) d = inl l
    by (no l) (yes g) = let t : tri j + j + 1 ≤ tri u = tri_within j u g in absurd (omega arith)
    by (no l) (no g) =
        let e : u ≡ j = le_antisymm (le_of_suc-le-suc (lt_of_not-le (λ x. g x))) (le_of_suc-le-suc (lt_of_not-le (λ x. l x))) in
        let t : tri u ≡ tri j = ap tri e in
        inr (e, omega arith)

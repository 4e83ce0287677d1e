-- What holds of each row of the table: one law over the list, and the facts that follow from it.
-- Assumes nothing.
use Prim.Native.Nat.{ℕ, zero, suc, ◌+◌, ◌-◌, ◌^◌, ◌≤◌, ◌<◌}
use native.Mathlib.Omega.{arith}
use mathlib.Core.Path.{◌≡◌, refl, sym, ap, ◌∙◌, subst}
use mathlib.Core.Bool.{true, false}
use mathlib.Core.Logic.{⊎_elim}
use native.Mathlib.Nat.{eq-or-lt_of_le}
use mathlib.Core.List.{List, [], ◌∷◌}
use lib.Dec.{T, leb, leb→le}
use lib.IntN.{nat_abs}
use lib.ListN.{get_or, get_or-eq_default}
use Rattle.num_whole.specs.Tests.{less}
use Rattle.num_whole.proofs.Cases.{apart, is_below, is_above, less_true, less_false, by_cases}
use Rattle.num_whole.specs.Lists.{Each}
use Rattle.unit_types.specs.declared.TypeRow.{TypeRow}
use Rattle.unit_types.specs.Types.{rows, range, range_rate, cosine, angle, circle, elevation, is_type, row_of_type}
use Rattle.unit_types.specs.Narrow.{Narrow}

-- ---- by the list
each : {A : Type 0} (P : A → Type 0) (l : List A) (d : A) → P d → Each P l → (i : ℕ) → P (get_or l i d)
each P [] d p e i = p
each P (x ∷ l) d p e zero = e.0
each P (x ∷ l) d p e (suc i) = each P l d p e.1 i

-- what holds of the six rows holds of every type's
pub by_rows : (P : TypeRow → Type 0) → P range → P range_rate → P cosine → P angle → P circle → P elevation → (t : ℕ) → P (row_of_type t)
unfolding row_of_type
by_rows P a b c d e f t =
    each P rows range a (a, (b, (c, (c, (d, (d, (e, (f, (e, (d, tt)))))))))) (t - 1)

-- ---- what holds of each row
-- it is narrow, and a row that turns is the circle
pub record InTable (r : TypeRow) : Type 0 where
  pub narrow : Narrow r
  pub round : r.turns ≡ true → r ≡ circle

narrow_by : (r : TypeRow) → T (leb r.k 52) → T (leb (nat_abs r.low) (2 ^ 40)) → T (leb (nat_abs r.high) (2 ^ 40)) → Narrow r
narrow_by r a b c =
    record {
      scale = leb→le r.k 52 a;
      low = leb→le (nat_abs r.low) (2 ^ 40) b;
      high = leb→le (nat_abs r.high) (2 ^ 40) c;
    }

flat : (r : TypeRow) → r.turns ≡ false → Narrow r → InTable r
flat r e n = record { narrow = n; round = λ t. absurd (apart (sym t ∙ e)) }

pub in_table : (t : ℕ) → InTable (row_of_type t)
in_table =
    by_rows InTable
    (flat range refl (narrow_by range tt tt tt))
    (flat range_rate refl (narrow_by range_rate tt tt tt))
    (flat cosine refl (narrow_by cosine tt tt tt))
    (flat angle refl (narrow_by angle tt tt tt))
    (record { narrow = narrow_by circle tt tt tt; round = λ t. refl })
    (flat elevation refl (narrow_by elevation tt tt tt))

pub narrow_row : {r : TypeRow} (t : ℕ) → r ≡ row_of_type t → Narrow r
narrow_row t e = subst Narrow (sym e) (in_table t).narrow

-- ---- what a match on the types leaves
-- t is none of the n numbers from low on
abbrev Unlike : ℕ → ℕ → ℕ → Type 0
Unlike low t zero = Unit {0}
Unlike low t (suc n) = Unlike low t n × (t ≡ low + n → ⊥)

pub past : (low t n : ℕ) → Unlike low t n → low ≤ t → low + n ≤ t
past low t zero u h = omega arith
past low t (suc n) u h =
    ⊎_elim (λ e. absurd (u.1 (sym e))) (λ l. omega arith) (eq-or-lt_of_le (past low t n u.0 h))

-- what is no type has the first row
pub other : (t : ℕ) → (2 ≤ t → 11 ≤ t) → range ≡ row_of_type t
unfolding row_of_type
other t h =
    by_cases (less t 2) (λ e. low t (less_true t 2 e)) (λ e. sym (get_or-eq_default rows range (ten t (h (less_false t 2 e)))))
  where
    low : (t : ℕ) → t < 2 → range ≡ get_or rows (t - 1) range
    low t l = ap (λ i. get_or rows i range) (sym (first t l))
      where
        first : (t : ℕ) → t < 2 → t - 1 ≡ 0
        first t l = omega arith

    ten : (t : ℕ) → 11 ≤ t → 10 ≤ t - 1
    ten t h = omega arith

pub no_type : (t : ℕ) → (1 ≤ t → 11 ≤ t) → is_type t ≡ false
unfolding is_type
no_type t h =
    by_cases (less t 1) (λ e. is_below 1 t 10 (less_true t 1 e)) (λ e. is_above 1 t 10 (h (less_false t 1 e)))

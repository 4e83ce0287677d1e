-- The labels whose sums a file stores are some of its labels: those whose field is not 2.
-- Assumes nothing.
use Prim.Native.Nat.{ℕ, suc, ◌≤◌}
use mathlib.Core.Path.{◌≡◌, refl, sym, ap, ◌∙◌}
use mathlib.Core.List.{List, [], ◌∷◌}
use mathlib.Core.Bool.{true, false}
use native.Mathlib.Omega.{arith}
use native.Mathlib.Nat.{le_refl}
use lib.ListN.{length}
use Rattle.num_whole.specs.Tests.{same, pick}
use Rattle.num_whole.specs.Lists.{all}
use Rattle.num_whole.proofs.Cases.{yes, no, by_cases, same_true, not_same, both_first, both_second}
use Rattle.norm_kinds.specs.Kinds.{Fielded, field_ok, stored_of}

module _ (m : Fielded) (l : List Fielded) where
  pub stored_off : same m.field 2 ≡ true → stored_of (m ∷ l) ≡ stored_of l
  unfolding stored_of
  stored_off e = sym (yes _ _ _ e refl)

  pub stored_on : same m.field 2 ≡ false → stored_of (m ∷ l) ≡ m.label ∷ stored_of l
  unfolding stored_of
  stored_on e = sym (no _ _ _ e refl)

pub stored_few : (l : List Fielded) → length (stored_of l) ≤ length l
unfolding stored_of
stored_few [] = le_refl 0
stored_few (m ∷ l) =
    let rest : length (stored_of l) ≤ length l = stored_few l in
    by_cases (same m.field 2)
    (λ e. let z : length (stored_of (m ∷ l)) ≡ length (stored_of l) = ap length (stored_off m l e) in omega arith)
    (λ e. let z : length (stored_of (m ∷ l)) ≡ suc (length (stored_of l)) = ap length (stored_on m l e) in omega arith)

-- in the old form all are
pub old_all : (l : List Fielded) → all (λ m. field_ok false m.field) l ≡ true → length (stored_of l) ≡ length l
unfolding stored_of all field_ok pick
old_all [] e = refl
old_all (m ∷ l) e =
    let zero : m.field ≡ 0 = same_true m.field 0 (both_first _ _ e) in
    ap length (stored_on m l (not_same m.field 2 (λ two. apart_by_lem zero two))) ∙ ap suc (old_all l (both_second _ _ e))
  where
    apart_by_lem : {n : ℕ} → n ≡ 0 → n ≡ 2 → ⊥
    apart_by_lem p q = omega arith

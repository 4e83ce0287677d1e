-- The labels whose sums a file stores, among all its labels: in the same order, and some of them.
-- Assumes nothing.
use Prim.Native.Nat.{ℕ, suc, ◌≤◌}
use mathlib.Core.Path.{◌≡◌, refl, sym, ap, ◌∙◌, subst}
use mathlib.Core.List.{List, [], ◌∷◌, map}
use mathlib.Core.Bool.{true, false}
use native.Mathlib.Omega.{arith}
use Rattle.num_whole.specs.Tests.{same}
use Rattle.num_whole.specs.Lists.{ascend}
use Rattle.num_whole.proofs.Cases.{by_cases}
use Rattle.norm_system.specs.System.{has, key_of}
use Rattle.norm_system.proofs.Sound.{either_false, either_none}
use Rattle.norm_labels.proofs.Ascending.{Asc, asc_of, asc_down}
use Rattle.norm_kinds.specs.Kinds.{Fielded, labels_in, fielded_key, stored_of}
use Rattle.norm_kinds.proofs.Stored.{stored_off, stored_on}

abbrev pub all_keys : List Fielded → List ℕ
all_keys l = map key_of (labels_in l)

abbrev pub stored_keys : List Fielded → List ℕ
stored_keys l = map key_of (stored_of l)

-- ---- in the same order
pub stored_asc : (floor : ℕ) (l : List Fielded) → Asc floor (all_keys l) → Asc floor (stored_keys l)
unfolding stored_of
stored_asc floor [] p = tt
stored_asc floor (m ∷ l) p =
    let rest = stored_asc (suc (fielded_key m)) l p.1 in
    by_cases (same m.field 2)
    (λ e. let up : floor ≤ suc (fielded_key m) = omega (arith, p.0) in
    subst (λ z. Asc floor (map key_of z)) (sym (stored_off m l e)) (asc_down floor (suc (fielded_key m)) (stored_keys l) up rest))
    (λ e. subst (λ z. Asc floor (map key_of z)) (sym (stored_on m l e)) (p.0, rest))

-- ---- some of them
pub stored_sub : (k : ℕ) (l : List Fielded) → has k (all_keys l) ≡ false → has k (stored_keys l) ≡ false
unfolding stored_of has
stored_sub k [] h = refl
stored_sub k (m ∷ l) h =
    let z = either_false (same (fielded_key m) k) (has k (all_keys l)) h in
    let rest = stored_sub k l z.1 in
    by_cases (same m.field 2)
    (λ e. ap (λ z. has k (map key_of z)) (stored_off m l e) ∙ rest)
    (λ e. ap (λ z. has k (map key_of z)) (stored_on m l e) ∙ either_none z.0 rest)

-- ---- keys of labels with their fields
pub keys_two : (l : List Fielded) → map fielded_key l ≡ all_keys l
keys_two [] = refl
keys_two (m ∷ l) = ap (λ t. fielded_key m ∷ t) (keys_two l)

pub asc_fielded : (floor : ℕ) (l : List Fielded) → ascend fielded_key floor l ≡ true → Asc floor (all_keys l)
asc_fielded floor l e = subst (Asc floor) (keys_two l) (asc_of fielded_key floor l e)

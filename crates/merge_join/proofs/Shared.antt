-- Numbers that two lists share: the union counts each of them once.
-- Assumes nothing.
use mathlib.Core.Path.{◌≡◌, refl, sym, ap, ◌∙◌}
use mathlib.Core.List.{List, [], ◌∷◌}
use mathlib.Core.Bool.{true, false}
use Prim.Native.Nat.{ℕ, suc, ◌+◌, ◌≤◌, ◌<◌, suc-le-suc}
use native.Mathlib.Nat.{add_comm, le_trans, le-suc}
use native.Mathlib.Omega.{arith}
use lib.ListN.{length}
use Rattle.num_whole.specs.Tests.{less, either}
use Rattle.num_whole.proofs.Cases.{is_less, not_less, less_true, less_false, not_same, by_cases}
use Rattle.norm_system.specs.System.{has}
use Rattle.norm_labels.specs.Seats.{ascending}
use Rattle.merge_join.specs.Join.{union, share}
use Rattle.norm_labels.proofs.Ascending.{Asc, asc_from, asc_down, has_below, has_head}
use Rattle.merge_join.proofs.Union.{by_order, some_union, union_comm}

pub union_long : (xs ys : List ℕ) → length (union xs ys) ≤ length xs + length ys
unfolding union
union_long [] ys = omega arith
union_long (x ∷ xs) [] = omega arith
union_long (x ∷ xs) (y ∷ ys) =
    by_order (λ l. length l ≤ suc (length xs) + suc (length ys)) x y xs ys
    (λ t. one (union_long xs (y ∷ ys))) (λ t. two (union_long (x ∷ xs) ys)) (λ e. once (union_long xs ys))
  where
    one : {n : ℕ} → n ≤ length xs + suc (length ys) → suc n ≤ suc (length xs) + suc (length ys)
    one h = omega arith

    two : {n : ℕ} → n ≤ suc (length xs) + length ys → suc n ≤ suc (length xs) + suc (length ys)
    two h = omega arith

    once : {n : ℕ} → n ≤ length xs + length ys → suc n ≤ suc (length xs) + suc (length ys)
    once h = omega arith

pub union_more : (xs ys : List ℕ) → length xs ≤ length (union xs ys)
unfolding union
union_more [] ys = omega arith
union_more (x ∷ xs) [] = omega arith
union_more (x ∷ xs) (y ∷ ys) =
    by_order (λ l. suc (length xs) ≤ length l) x y xs ys
    (λ t. suc-le-suc (union_more xs (y ∷ ys))) (λ t. le_trans (union_more (x ∷ xs) ys) (le-suc _)) (λ e. suc-le-suc (union_more xs ys))

-- ---- what the two share, number by number
has_skip : (x y : ℕ) (ys : List ℕ) → suc y ≤ x → has x (y ∷ ys) ≡ has x ys
unfolding has either
has_skip x y ys h = rw (not_same y x (λ e. differs e))
  where
    differs : y ≡ x → ⊥
    differs e = omega arith

share_skip : (y : ℕ) (zs ys : List ℕ) → Asc (suc y) zs → share zs (y ∷ ys) ≡ share zs ys
unfolding share
share_skip y [] ys p = refl
share_skip y (z ∷ zs) ys p = (λ i. either (has_skip z y ys p.0 i) (share_skip y zs ys (asc_down (suc y) (suc z) zs (more p.0) p.1) i))
  where
    more : suc y ≤ z → suc y ≤ suc z
    more h = omega arith

share_none : (ys : List ℕ) → share ys [] ≡ false
unfolding share has either
share_none [] = refl
share_none (y ∷ ys) = share_none ys

less_alike : (a b c d : ℕ) → (a < b → c < d) → (b ≤ a → d ≤ c) → less a b ≡ less c d
less_alike a b c d f g =
    by_cases (less a b)
    (λ e. e ∙ sym (is_less c d (f (less_true a b e))))
    (λ e. e ∙ sym (not_less c d (g (less_false a b e))))

counted : (floor : ℕ) (xs ys : List ℕ) → Asc floor xs → Asc floor ys → less (length (union xs ys)) (length xs + length ys) ≡ share xs ys
unfolding union share either
counted floor [] ys p q = not_less (length ys) (0 + length ys) (omega arith)
counted floor (x ∷ xs) [] p q = not_less (suc (length xs)) (suc (length xs) + 0) (omega arith) ∙ sym (share_none (x ∷ xs))
counted floor (x ∷ xs) (y ∷ ys) p q =
    by_order (λ l. less (length l) (suc (length xs) + suc (length ys)) ≡ either (has x (y ∷ ys)) (share xs (y ∷ ys))) x y xs ys
    (λ t. less_alike (suc (length (union xs (y ∷ ys)))) (suc (length xs) + suc (length ys)) (length (union xs (y ∷ ys))) (length xs + suc (length ys)) (λ h. omega arith) (λ h. omega arith)
    ∙ counted (suc x) xs (y ∷ ys) p.1 (t, q.1) ∙ sym (ap (λ b. either b (share xs (y ∷ ys))) (has_below x (y ∷ ys) (t, q.1))))
    (λ t. less_alike (suc (length (union (x ∷ xs) ys))) (suc (length xs) + suc (length ys)) (length (union (x ∷ xs) ys)) (suc (length xs) + length ys) (λ h. omega arith) (λ h. omega arith)
    ∙ counted (suc y) (x ∷ xs) ys (t, p.1) q.1 ∙ sym (share_skip y (x ∷ xs) ys (t, p.1)))
    (λ e. is_less (suc (length (union xs ys))) (suc (length xs) + suc (length ys)) (omega (arith, union_long xs ys))
    ∙ sym (ap (λ b. either b (share xs (y ∷ ys))) (ap (λ k. has x (k ∷ ys)) (sym e) ∙ has_head x ys)))

-- what a union shares with a third list
pub share_union : (xs ys zs : List ℕ) → share (union xs ys) zs ≡ either (share xs zs) (share ys zs)
unfolding share
share_union xs ys zs = some_union (λ x. has x zs) (λ l. share l zs) refl (λ x l. refl) xs ys

-- ---- the laws in the definitions' words
module _ (xs ys : List ℕ) (p : ascending xs ≡ true) (q : ascending ys ≡ true) where
  pub share_counted : less (length (union xs ys)) (length xs + length ys) ≡ share xs ys
  share_counted = counted 0 xs ys (asc_from xs p) (asc_from ys q)

  -- two lists that share nothing
  pub union_full : share xs ys ≡ false → length (union xs ys) ≡ length xs + length ys
  union_full e =
      let h : length xs + length ys ≤ length (union xs ys) = less_false _ _ (share_counted ∙ e) in
      let g : length (union xs ys) ≤ length xs + length ys = union_long xs ys in
      omega arith

pub share_comm : (xs ys : List ℕ) → ascending xs ≡ true → ascending ys ≡ true → share xs ys ≡ share ys xs
share_comm xs ys p q =
    sym (share_counted xs ys p q) ∙ (λ i. less (length (union_comm xs ys p q i)) (add_comm (length xs) (length ys) i)) ∙ share_counted ys xs q p

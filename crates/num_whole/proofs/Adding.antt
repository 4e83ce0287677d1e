-- Laws of sums over lists and of lists added entry by entry.
-- Assumes nothing.
use mathlib.Core.Path.{◌≡◌, refl, sym, ap, ap₂, ◌∙◌}
use mathlib.Core.List.{List, [], ◌∷◌, ◌++◌}
use Prim.Native.Nat.{ℕ, zero, suc, ◌+◌, ◌*◌, ◌<◌, ◌≤◌}
use native.Mathlib.Nat.{not-suc-le-zero, le_of_suc-le-suc}
use native.Mathlib.Omega.{arith}
use lib.IntN.{ℤ, pos, nat_abs, ◌+ℤ◌, ◌*ℤ◌, +ℤ_assoc, +ℤ_idl, +ℤ_idr, *ℤ-zero}
use lib.ListN.{length, get_or, take, drop}
use Rattle.num_whole.specs.Sums.{total, plus, Within}
use Rattle.num_whole.proofs.Ints.{*-+, swap_last, +-within}

-- ---- sums over a list
module _ {A : Type 0} where
  pub total_ext : (f g : A → ℤ) → ((x : A) → f x ≡ g x) → (l : List A) → total f l ≡ total g l
  unfolding total
  total_ext f g e [] = refl
  total_ext f g e (x ∷ l) = ap₂ (λ a b. a +ℤ b) (e x) (total_ext f g e l)

  pub total_append : (f : A → ℤ) (l m : List A) → total f (l ++ m) ≡ total f l +ℤ total f m
  unfolding total
  total_append f [] m = sym (+ℤ_idl (total f m))
  total_append f (x ∷ l) m = ap (λ s. f x +ℤ s) (total_append f l m) ∙ sym (+ℤ_assoc (f x) (total f l) (total f m))

  pub total_plus : (f g : A → ℤ) (l : List A) → total (λ x. f x +ℤ g x) l ≡ total f l +ℤ total g l
  unfolding total
  total_plus f g [] = refl
  total_plus f g (x ∷ l) =
      ap (λ s. (f x +ℤ g x) +ℤ s) (total_plus f g l) ∙ sym (+ℤ_assoc (f x +ℤ g x) (total f l) (total g l))
      ∙ ap (λ s. s +ℤ total g l) (swap_last (f x) (g x) (total f l)) ∙ +ℤ_assoc (f x +ℤ total f l) (g x) (total g l)

  pub total_times : (c : ℤ) (f : A → ℤ) (l : List A) → total (λ x. c *ℤ f x) l ≡ c *ℤ total f l
  unfolding total
  total_times c f [] = sym (*ℤ-zero c)
  total_times c f (x ∷ l) = ap (λ s. c *ℤ f x +ℤ s) (total_times c f l) ∙ sym (*-+ c (f x) (total f l))

  -- a sum of numbers within m each is within m for each of them
  pub total_within : (m : ℕ) (f : A → ℤ) → ((x : A) → nat_abs (f x) ≤ m) → (l : List A) → nat_abs (total f l) ≤ length l * m
  unfolding total
  total_within m f h [] = omega arith
  total_within m f h (x ∷ l) =
      let more : nat_abs (f x +ℤ total f l) ≤ m + length l * m = +-within (f x) (total f l) (h x) (total_within m f h l) in
      let next : suc (length l) * m ≡ length l * m + m = native.Mathlib.Nat.suc-mul (length l) m in
      omega arith

-- ---- lists entry by entry
pub length_plus : (l p : List ℤ) → length (plus l p) ≡ length l
unfolding plus
length_plus [] p = refl
length_plus (x ∷ l) [] = refl
length_plus (x ∷ l) (y ∷ p) = ap suc (length_plus l p)

pub plus_nothing : (l : List ℤ) → plus l [] ≡ l
unfolding plus
plus_nothing [] = refl
plus_nothing (x ∷ l) = refl

-- two lists are added in either order
pub plus_comm : (l p q : List ℤ) → plus (plus l p) q ≡ plus (plus l q) p
unfolding plus
plus_comm [] p q = refl
plus_comm (x ∷ l) [] [] = refl
plus_comm (x ∷ l) [] (z ∷ q) = refl
plus_comm (x ∷ l) (y ∷ p) [] = refl
plus_comm (x ∷ l) (y ∷ p) (z ∷ q) = ap₂ (λ u v. u ∷ v) (swap_last x y z) (plus_comm l p q)

pub get_d_plus : (l p : List ℤ) (i : ℕ) → i < length l → get_or (plus l p) i (pos 0) ≡ get_or l i (pos 0) +ℤ get_or p i (pos 0)
unfolding plus
get_d_plus [] p i h = absurd (not-suc-le-zero h)
get_d_plus (x ∷ l) [] zero h = sym (+ℤ_idr x)
get_d_plus (x ∷ l) [] (suc i) h = sym (+ℤ_idr (get_or l i (pos 0)))
get_d_plus (x ∷ l) (y ∷ p) zero h = refl
get_d_plus (x ∷ l) (y ∷ p) (suc i) h = get_d_plus l p i (le_of_suc-le-suc h)

-- a list added in two parts, the first no longer than l
pub plus_split : (l p q : List ℤ) → length p ≤ length l → plus l (p ++ q) ≡ plus (take (length p) l) p ++ plus (drop (length p) l) q
unfolding plus
plus_split l [] q h = refl
plus_split [] (y ∷ p) q h = absurd (not-suc-le-zero h)
plus_split (x ∷ l) (y ∷ p) q h = ap (λ r. (x +ℤ y) ∷ r) (plus_split l p q (le_of_suc-le-suc h))

-- entries within m and within n add up to entries within m + n
pub plus_within : {m n : ℕ} (l p : List ℤ) → Within m l → Within n p → Within (m + n) (plus l p)
unfolding plus
plus_within [] p hl hp i = omega arith
plus_within (x ∷ l) [] hl hp i = omega (arith, hl i)
plus_within (x ∷ l) (y ∷ p) hl hp zero = +-within x y (hl 0) (hp 0)
plus_within (x ∷ l) (y ∷ p) hl hp (suc i) = plus_within l p (λ j. hl (suc j)) (λ j. hp (suc j)) i

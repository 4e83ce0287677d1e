-- The sums entry by entry, and their bounds.
-- Assumes nothing.
use mathlib.Core.Path.{◌≡◌, sym, ap, ◌∙◌, subst}
use mathlib.Core.List.{List, [], ◌∷◌, ◌++◌}
use Prim.Native.Nat.{ℕ, zero, suc, ◌+◌, ◌*◌, ◌^◌, ◌<◌, ◌≤◌, zero-le, suc-le-suc}
use native.Mathlib.Nat.{not-suc-le-zero, add-zero, zero-add}
use native.Mathlib.Omega.{arith}
use lib.IntN.{ℤ, pos, ◌*ℤ◌, nat_abs, *ℤ-zero}
use lib.ListN.{length, get_or, take, get_or-append, get_or-map, length-map}
use lib.Seq.{get_or-append-add, get_or-take, length-take-le}
use Rattle.num_whole.proofs.Ints.{*-within}
use Rattle.num_whole.specs.Sums.{Within}
use Rattle.num_packed.specs.Triangle.{times, columns, triangle_terms, tri}

pub times_at : (f : ℤ) (a : List ℤ) (i : ℕ) → get_or (times f a) i (pos 0) ≡ f *ℤ get_or a i (pos 0)
times_at f a i = ap (λ z. get_or (times f a) i z) (sym (*ℤ-zero f)) ∙ get_or-map (λ x. f *ℤ x) a i (pos 0)

-- how many numbers the d columns from the mth on have
far : ℕ → ℕ → ℕ
far m zero = 0
far m (suc d) = suc m + far (suc m) d

columns_at : (w : ℤ) (a : List ℤ) (n m d i : ℕ) → i ≤ m + d → d < n → m + n ≤ length a → get_or (columns w a m n) (far m d + i) (pos 0) ≡ (w *ℤ get_or a (m + d) (pos 0)) *ℤ get_or a i (pos 0)
unfolding columns far
columns_at w a zero m d i p q r = absurd (not-suc-le-zero q)
columns_at w a (suc n) m zero i p q r =
    let col = times (w *ℤ get_or a m (pos 0)) (take (suc m) a) in
    let len : length col ≡ suc m = length-map (take (suc m) a) (λ x. (w *ℤ get_or a m (pos 0)) *ℤ x) ∙ length-take-le (suc m) a (omega arith) in
    ap (λ e. get_or (col ++ columns w a (suc m) n) e (pos 0)) (zero-add i)
    ∙ get_or-append col (columns w a (suc m) n) (pos 0) i (omega arith)
    ∙ times_at (w *ℤ get_or a m (pos 0)) (take (suc m) a) i
    ∙ ap (λ z. (w *ℤ get_or a m (pos 0)) *ℤ z) (get_or-take (suc m) a i (pos 0) (omega arith))
    ∙ ap (λ e. (w *ℤ get_or a e (pos 0)) *ℤ get_or a i (pos 0)) (sym (add-zero m))
columns_at w a (suc n) m (suc d) i p q r =
    let col = times (w *ℤ get_or a m (pos 0)) (take (suc m) a) in
    let len : length col ≡ suc m = length-map (take (suc m) a) (λ x. (w *ℤ get_or a m (pos 0)) *ℤ x) ∙ length-take-le (suc m) a (omega arith) in
    let at : suc m + far (suc m) d + i ≡ length col + (far (suc m) d + i) = omega arith in
    let same : suc m + d ≡ m + suc d = omega arith in
    ap (λ e. get_or (col ++ columns w a (suc m) n) e (pos 0)) at
    ∙ get_or-append-add col (columns w a (suc m) n) (far (suc m) d + i) (pos 0)
    ∙ columns_at w a n (suc m) d i (omega arith) (omega arith) (omega arith)
    ∙ ap (λ e. (w *ℤ get_or a e (pos 0)) *ℤ get_or a i (pos 0)) same

tri_far : (m d : ℕ) → tri (m + d) ≡ tri m + far m d
unfolding tri far
tri_far m zero = ap tri (add-zero m) ∙ sym (add-zero (tri m))
tri_far m (suc d) =
    let same : m + suc d ≡ suc m + d = omega arith in
    let rest : tri (suc m + d) ≡ tri m + suc m + far (suc m) d = tri_far (suc m) d in
    ap tri same ∙ rest ∙ omega arith

-- the entry of row i and column j
pub triangle_at : (w : ℤ) (a : List ℤ) (i j : ℕ) → i ≤ j → j < length a → get_or (triangle_terms w a) (tri j + i) (pos 0) ≡ (w *ℤ get_or a j (pos 0)) *ℤ get_or a i (pos 0)
unfolding tri
triangle_at w a i j p q =
    let start : tri (0 + j) ≡ 0 + far 0 j = tri_far 0 j in
    let at : tri j + i ≡ far 0 j + i = omega (arith, start, ap tri (zero-add j)) in
    ap (λ e. get_or (triangle_terms w a) e (pos 0)) at ∙ columns_at w a (length a) 0 j i (omega arith) q (omega arith)
    ∙ ap (λ e. (w *ℤ get_or a e (pos 0)) *ℤ get_or a i (pos 0)) (zero-add j)

-- ---- bounds
-- what holds within the list holds past its end, where `get_or` is 0
pub all_within : (m : ℕ) (l : List ℤ) → ((k : ℕ) → k < length l → nat_abs (get_or l k (pos 0)) ≤ m) → Within m l
all_within m [] h k = zero-le
all_within m (x ∷ l) h zero = h 0 (suc-le-suc zero-le)
all_within m (x ∷ l) h (suc k) = all_within m l (λ i p. h (suc i) (suc-le-suc p)) k

pub times_within : (f : ℤ) (a : List ℤ) (m n : ℕ) → nat_abs f ≤ m → Within n a → Within (m * n) (times f a)
times_within f a m n p h k = subst (λ z. nat_abs z ≤ m * n) (sym (times_at f a k)) (*-within f (get_or a k (pos 0)) p (h k))

take_within : (n : ℕ) (l : List ℤ) (m : ℕ) → Within m l → Within m (take n l)
take_within zero l m h k = zero-le
take_within (suc n) [] m h k = zero-le
take_within (suc n) (x ∷ l) m h zero = h 0
take_within (suc n) (x ∷ l) m h (suc k) = take_within n l m (λ i. h (suc i)) k

append_within : (l r : List ℤ) (m : ℕ) → Within m l → Within m r → Within m (l ++ r)
append_within [] r m h g k = g k
append_within (x ∷ l) r m h g zero = h 0
append_within (x ∷ l) r m h g (suc k) = append_within l r m (λ i. h (suc i)) g k

pub columns_within : (w : ℤ) (a : List ℤ) (j n u v : ℕ) → nat_abs w ≤ u → Within v a → Within (u * v * v) (columns w a j n)
unfolding columns
columns_within w a j zero u v p h k = zero-le
columns_within w a j (suc n) u v p h k =
    append_within (times (w *ℤ get_or a j (pos 0)) (take (suc j) a)) (columns w a (suc j) n) (u * v * v)
    (times_within (w *ℤ get_or a j (pos 0)) (take (suc j) a) (u * v) v (*-within w (get_or a j (pos 0)) p (h j)) (take_within (suc j) a v h))
    (columns_within w a (suc j) n u v p h) k

-- the terms of one record: weights up to 2^16 and partials within 2^15 give matrix terms within 2^46
pub triangle_within : (w : ℤ) (a : List ℤ) → nat_abs w ≤ 2 ^ 16 → Within (2 ^ 15) a → Within (2 ^ 46) (triangle_terms w a)
triangle_within w a p h = columns_within w a 0 (length a) (2 ^ 16) (2 ^ 15) p h

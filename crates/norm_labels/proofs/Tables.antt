-- Packed triangles given by row and column, or by labels: their length, what stands where, and their sums; and sums that are all 0.
-- Assumes nothing.
use mathlib.Core.Path.{◌≡◌, refl, sym, ap, ap₂, ◌∙◌}
use mathlib.Core.Logic.{⊎_elim}
use mathlib.Core.List.{List, [], ◌∷◌, ◌++◌, map, append_assoc, append-nil}
use mathlib.Core.Bool.{Bool, true, false}
use Prim.Native.Nat.{ℕ, zero, suc, ◌+◌, ◌≤◌, ◌<◌}
use native.Mathlib.Nat.{not-suc-le-zero, le_of_suc-le-suc, add-zero, zero-add, eq-or-lt_of_le}
use native.Mathlib.Omega.{arith}
use lib.IntN.{ℤ, pos, ◌+ℤ◌, +ℤ_idl}
use lib.ListN.{length, get_or, replicate, length-append, get_or-append}
use lib.Seq.{get_or-append-add}
use Rattle.num_whole.specs.Tests.{less, up_to, pick}
use Rattle.num_whole.specs.Sums.{plus}
use Rattle.num_packed.specs.Triangle.{tri}
use Rattle.num_packed.specs.Sound.{entry}
use Rattle.num_packed.proofs.Places.{tri_within}
use Rattle.norm_system.specs.System.{has}
use Rattle.norm_labels.specs.Table.{rows_of, columns_of, sum_at}
use Rattle.norm_labels.specs.Labels.{table}
use Rattle.norm_labels.proofs.Seats.{has_at}

-- column j
abbrev down : (ℕ → ℕ → ℤ) → ℕ → List ℤ
down f j = rows_of (λ i. f i j) 0 (suc j)

-- ---- length
pub length_rows : {A : Type 0} (f : ℕ → A) (i m : ℕ) → length (rows_of f i m) ≡ m
unfolding rows_of
length_rows f i zero = refl
length_rows f i (suc m) = ap suc (length_rows f (suc i) m)

-- one column more at the end
columns_more : (f : ℕ → ℕ → ℤ) (n m : ℕ) → columns_of f m (suc n) ≡ columns_of f m n ++ down f (m + n)
unfolding columns_of
columns_more f zero m = append-nil (down f m) ∙ ap (down f) (sym (add-zero m))
columns_more f (suc n) m =
    let same : suc m + n ≡ m + suc n = omega arith in
    ap (λ t. down f m ++ t) (columns_more f n (suc m)) ∙ sym (append_assoc (down f m) (columns_of f (suc m) n) (down f (suc m + n)))
    ∙ ap (λ e. (down f m ++ columns_of f (suc m) n) ++ down f e) same

columns_last : (f : ℕ → ℕ → ℤ) (n : ℕ) → columns_of f 0 (suc n) ≡ columns_of f 0 n ++ down f n
columns_last f n = columns_more f n 0 ∙ ap (λ e. columns_of f 0 n ++ down f e) (zero-add n)

pub length_columns : (f : ℕ → ℕ → ℤ) (n : ℕ) → length (columns_of f 0 n) ≡ tri n
unfolding columns_of tri
length_columns f zero = refl
length_columns f (suc n) =
    ap length (columns_last f n) ∙ length-append (columns_of f 0 n) (down f n)
    ∙ ap₂ (λ a b. a + b) (length_columns f n) (length_rows (λ i. f i n) 0 (suc n))

-- ---- what stands where
pub rows_at : (f : ℕ → ℤ) (i n k : ℕ) → k < n → get_or (rows_of f i n) k (pos 0) ≡ f (i + k)
unfolding rows_of
rows_at f i zero k h = absurd (not-suc-le-zero h)
rows_at f i (suc n) zero h = ap f (sym (add-zero i))
rows_at f i (suc n) (suc k) h = rows_at f (suc i) n k (le_of_suc-le-suc h) ∙ ap f (next i k)
  where
    next : (i k : ℕ) → suc i + k ≡ i + suc k
    next i k = omega arith

pub columns_at : (f : ℕ → ℕ → ℤ) (n i j : ℕ) → i ≤ j → j < n → entry (columns_of f 0 n) i j ≡ f i j
columns_at f zero i j p q = absurd (not-suc-le-zero q)
columns_at f (suc n) i j p q =
    ap (λ l. get_or l (tri j + i) (pos 0)) (columns_last f n)
    ∙ ⊎_elim (λ e. last (sym e)) (λ l. before l (columns_at f n i j p l)) (eq-or-lt_of_le (le_of_suc-le-suc q))
  where
    long : length (columns_of f 0 n) ≡ tri n
    long = length_columns f n

    before : j < n → entry (columns_of f 0 n) i j ≡ f i j → get_or (columns_of f 0 n ++ down f n) (tri j + i) (pos 0) ≡ f i j
    before l e =
        let t : tri j + j + 1 ≤ tri n = tri_within j n l in
        let len : length (columns_of f 0 n) ≡ tri n = long in
        get_or-append (columns_of f 0 n) (down f n) (pos 0) (tri j + i) (omega arith) ∙ e

    last : n ≡ j → get_or (columns_of f 0 n ++ down f n) (tri j + i) (pos 0) ≡ f i j
    last e =
        ap (λ m. get_or (columns_of f 0 n ++ down f n) (m + i) (pos 0)) (sym (long ∙ ap tri e))
        ∙ get_or-append-add (columns_of f 0 n) (down f n) i (pos 0)
        ∙ rows_at (λ i. f i n) 0 (suc n) i (omega arith) ∙ ap₂ (λ a b. f a b) (zero-add i) e

-- ---- functions that agree on the rows and columns that count
pub rows_alike : {A : Type 0} (f g : ℕ → A) (m i : ℕ) → ((k : ℕ) → k < i + m → f k ≡ g k) → rows_of f i m ≡ rows_of g i m
unfolding rows_of
rows_alike f g zero i e = refl
rows_alike f g (suc m) i e = ap₂ (λ a l. a ∷ l) (e i (here i m)) (rows_alike f g m (suc i) (λ k h. e k (later k h)))
  where
    here : (i m : ℕ) → i < i + suc m
    here i m = omega arith

    later : (k : ℕ) → k < suc i + m → k < i + suc m
    later k h = omega arith

-- what a function gives for each number of a list
rows_from_lem : {A : Type 0} (f : ℕ → A) (u v : List ℕ) (o : ℕ) → ((i : ℕ) → i < length u → get_or v (o + i) 0 ≡ get_or u i 0)
    → rows_of (λ i. f (get_or v i 0)) o (length u) ≡ map f u
unfolding rows_of
rows_from_lem f [] v o e = refl
rows_from_lem f (x ∷ u) v o e =
    ap₂ (λ a l. a ∷ l) (ap f (ap (λ n. get_or v n 0) (sym (add-zero o)) ∙ e 0 (omega arith)))
    (rows_from_lem f u v (suc o) (λ i h. ap (λ n. get_or v n 0) (next o i) ∙ e (suc i) (omega arith)))
  where
    next : (o i : ℕ) → suc o + i ≡ o + suc i
    next o i = omega arith

pub rows_map : {A : Type 0} (f : ℕ → A) (u : List ℕ) → rows_of (λ i. f (get_or u i 0)) 0 (length u) ≡ map f u
rows_map f u = rows_from_lem f u u 0 (λ i h. ap (λ n. get_or u n 0) (zero-add i))

pub columns_alike : (f g : ℕ → ℕ → ℤ) (m j : ℕ) → ((u v : ℕ) → u ≤ v → v < j + m → f u v ≡ g u v) → columns_of f j m ≡ columns_of g j m
unfolding columns_of
columns_alike f g zero j e = refl
columns_alike f g (suc m) j e =
    ap₂ (λ a b. a ++ b) (rows_alike (λ i. f i j) (λ i. g i j) (suc j) 0 (λ k h. e k j (low k h) (here j m)))
    (columns_alike f g m (suc j) (λ u v p q. e u v p (later v q)))
  where
    here : (j m : ℕ) → j < j + suc m
    here j m = omega arith

    low : (k : ℕ) → k < 0 + suc j → k ≤ j
    low k h = omega arith

    later : (v : ℕ) → v < suc j + m → v < j + suc m
    later v h = omega arith

-- ---- sums
plus_append : (a b c d : List ℤ) → length a ≡ length c → plus (a ++ b) (c ++ d) ≡ plus a c ++ plus b d
unfolding plus
plus_append [] b [] d e = refl
plus_append [] b (z ∷ c) d e = absurd (off e)
  where
    off : 0 ≡ suc (length c) → ⊥
    off e = omega arith
plus_append (x ∷ a) b [] d e = absurd (off e)
  where
    off : suc (length a) ≡ 0 → ⊥
    off e = omega arith
plus_append (x ∷ a) b (z ∷ c) d e = ap (λ l. (x +ℤ z) ∷ l) (plus_append a b c d (one_less e))
  where
    one_less : suc (length a) ≡ suc (length c) → length a ≡ length c
    one_less e = omega arith

pub plus_rows : (f g : ℕ → ℤ) (i m : ℕ) → plus (rows_of f i m) (rows_of g i m) ≡ rows_of (λ a. f a +ℤ g a) i m
unfolding plus rows_of
plus_rows f g i zero = refl
plus_rows f g i (suc m) = ap (λ l. (f i +ℤ g i) ∷ l) (plus_rows f g (suc i) m)

pub plus_columns : (f g : ℕ → ℕ → ℤ) (j m : ℕ) → plus (columns_of f j m) (columns_of g j m) ≡ columns_of (λ a b. f a b +ℤ g a b) j m
unfolding plus columns_of
plus_columns f g j zero = refl
plus_columns f g j (suc m) =
    plus_append (down f j) (columns_of f (suc j) m) (down g j) (columns_of g (suc j) m)
    (length_rows (λ i. f i j) 0 (suc j) ∙ sym (length_rows (λ i. g i j) 0 (suc j)))
    ∙ ap₂ (λ a b. a ++ b) (plus_rows (λ i. f i j) (λ i. g i j) 0 (suc j)) (plus_columns f g (suc j) m)

-- ---- by labels
pub length_table : (f : ℕ → ℕ → ℤ) (u : List ℕ) → length (table f u) ≡ tri (length u)
unfolding table
length_table f u = length_columns _ (length u)

pub table_at : (f : ℕ → ℕ → ℤ) (u : List ℕ) (i j : ℕ) → i ≤ j → j < length u → entry (table f u) i j ≡ f (get_or u i 0) (get_or u j 0)
unfolding table
table_at f u i j p q = columns_at _ (length u) i j p q

-- triangles of functions that agree on the labels that count
pub table_alike : (f g : ℕ → ℕ → ℤ) (u : List ℕ) → ((k l : ℕ) → has k u ≡ true → has l u ≡ true → f k l ≡ g k l) → table f u ≡ table g u
unfolding table
table_alike f g u e =
    columns_alike (λ i j. f (get_or u i 0) (get_or u j 0)) (λ i j. g (get_or u i 0) (get_or u j 0)) (length u) 0
    (λ i j p q. let b : j < length u = omega arith in let a : i < length u = omega arith in
    e (get_or u i 0) (get_or u j 0) (has_at u i a) (has_at u j b))

pub plus_table : (f g : ℕ → ℕ → ℤ) (u : List ℕ) → plus (table f u) (table g u) ≡ table (λ k l. f k l +ℤ g k l) u
unfolding table
plus_table f g u = plus_columns _ _ 0 (length u)

-- ---- other sums of lists, and sums that are all 0
pub plus_map : {A : Type 0} (f g : A → ℤ) (u : List A) → plus (map f u) (map g u) ≡ map (λ k. f k +ℤ g k) u
unfolding plus
plus_map f g [] = refl
plus_map f g (x ∷ u) = ap (λ l. (f x +ℤ g x) ∷ l) (plus_map f g u)

pub plus_zeros : (n : ℕ) (l : List ℤ) → length l ≡ n → plus (replicate n (pos 0)) l ≡ l
unfolding plus
plus_zeros zero [] e = refl
plus_zeros zero (x ∷ l) e = absurd (off e)
  where
    off : suc (length l) ≡ 0 → ⊥
    off e = omega arith
plus_zeros (suc n) [] e = absurd (off e)
  where
    off : 0 ≡ suc n → ⊥
    off e = omega arith
plus_zeros (suc n) (x ∷ l) e = ap₂ (λ a b. a ∷ b) (+ℤ_idl x) (plus_zeros n l (one_less e))
  where
    one_less : suc (length l) ≡ suc n → length l ≡ n
    one_less e = omega arith

pub zeros_at : (n i : ℕ) → get_or (replicate n (pos 0)) i (pos 0) ≡ pos 0
zeros_at zero i = refl
zeros_at (suc n) zero = refl
zeros_at (suc n) (suc i) = zeros_at n i

nought : (t : Bool) {z : ℤ} → z ≡ pos 0 → pick t z (pos 0) ≡ pos 0
unfolding pick
nought true e = e
nought false e = refl

pub sum_zeros : (p n i j : ℕ) → sum_at (replicate p (pos 0)) n i j ≡ pos 0
unfolding sum_at
sum_zeros p n i j = nought (less j n) (nought (up_to i j) (zeros_at p (tri j + i)))

-- Laws of sums on lists.
-- Assumes nothing.
use mathlib.Core.Path.{◌≡◌, refl, sym, ap, ◌∙◌, subst}
use mathlib.Core.List.{List, [], ◌∷◌, ◌++◌, append_assoc}
use Prim.Native.Nat.{ℕ, zero, suc, ◌+◌, ◌-◌, ◌<◌, ◌≤◌, zero-le}
use native.Mathlib.Nat.{add-zero, sub-zero}
use native.Mathlib.Numerals.{add-one}
use native.Mathlib.Omega.{arith}
use lib.IntN.{ℤ, pos, ◌+ℤ◌, ◌*ℤ◌, nat_abs}
use lib.ListN.{length, get_or, take, drop, set, length-set, length-drop, length-append, length-map, take-append-drop, drop_of_length-le}
use lib.Seq.{take_at, length-take-le, drop-cons, drop-set-lt, take-suc-set, append_snoc, get_or-drop, drop-drop}
use borrow.Rule.Slice.PartMut.{mid_of, put_mid, same_len_mid, mid_len, drop_put}
use Rattle.num_whole.specs.Sums.{plus, Within}
use Rattle.num_whole.proofs.Adding.{length_plus, plus_split}
use Rattle.num_packed.specs.Triangle.{times, columns, triangle_terms}

-- Adding in progress: the numbers before k are done, those from k on are as they were, and with `rest` added to them the whole is `total`
abbrev pub Adding : List ℤ → List ℤ → List ℤ → ℕ → List ℤ → Type 0
Adding total s₀ s k rest = (length s ≡ length s₀) × ((drop k s ≡ drop k s₀) × (take k s ++ plus (drop k s) rest ≡ total))

pub adding_starts : (s rest : List ℤ) → Adding (plus s rest) s s 0 rest
adding_starts s rest = (refl, (refl, refl))

-- what stands at k is as it was
adding_at : (total s₀ s : List ℤ) (k : ℕ) (rest : List ℤ) → Adding total s₀ s k rest → get_or s k (pos 0) ≡ get_or s₀ k (pos 0)
adding_at total s₀ s k rest d = sym (front s) ∙ ap (λ l. get_or l 0 (pos 0)) d.1.0 ∙ front s₀
  where
    front : (l : List ℤ) → get_or (drop k l) 0 (pos 0) ≡ get_or l k (pos 0)
    front l = get_or-drop k l 0 (pos 0) ∙ ap (λ n. get_or l n (pos 0)) (add-zero k)

-- and as small as it was
pub adding_small : (m : ℕ) (total s₀ s : List ℤ) (k : ℕ) (rest : List ℤ) → Adding total s₀ s k rest → Within m s₀ → nat_abs (get_or s k (pos 0)) ≤ m
adding_small m total s₀ s k rest d h = subst (λ z. nat_abs z ≤ m) (sym (adding_at total s₀ s k rest d)) (h k)

pub adding_turn : (total s₀ s : List ℤ) (k : ℕ) (v : ℤ) (rest : List ℤ) → k < length s → Adding total s₀ s k (v ∷ rest) → Adding total s₀ (set s k (get_or s k (pos 0) +ℤ v)) (k + 1) rest
unfolding plus
adding_turn total s₀ s k v rest h d =
    let y = get_or s k (pos 0) +ℤ v in
    let tail : drop (k + 1) (set s k y) ≡ drop (k + 1) s = drop-set-lt (k + 1) s k y (omega arith) in
    let cut : drop k s ≡ get_or s k (pos 0) ∷ drop (k + 1) s = rw add-one (drop-cons s k (pos 0) h) in
    let head : take (k + 1) (set s k y) ≡ take k s ++ (y ∷ []) = rw add-one (take-suc-set s k y h) in (
      length-set s k y ∙ d.0,
      (
        tail ∙ sym (drop-drop 1 k s) ∙ ap (λ l. drop 1 l) d.1.0 ∙ drop-drop 1 k s₀,
        ap (λ l. take (k + 1) (set s k y) ++ plus l rest) tail
            ∙ ap (λ l. l ++ plus (drop (k + 1) s) rest) head
            ∙ append_snoc (take k s) y (plus (drop (k + 1) s) rest)
            ∙ ap (λ l. take k s ++ plus l (v ∷ rest)) (sym cut) ∙ d.1.1,
      ),
    )

-- nothing is left to add: the whole is there
pub adding_done : (total s₀ s : List ℤ) (k : ℕ) → Adding total s₀ s k [] → s ≡ total
unfolding plus
adding_done total s₀ s k d = sym (take-append-drop k s) ∙ ap (λ l. take k s ++ l) (sym (nothing (drop k s))) ∙ d.1.1
  where
    nothing : (l : List ℤ) → plus l [] ≡ l
    nothing [] = refl
    nothing (x ∷ l) = refl

-- or no place is left
pub adding_full : (total s₀ s : List ℤ) (k : ℕ) (rest : List ℤ) → length s ≤ k → Adding total s₀ s k rest → s ≡ total
unfolding plus
adding_full total s₀ s k rest h d =
    let out : drop k s ≡ [] = drop_of_length-le s h in
    sym (take-append-drop k s) ∙ ap (λ l. take k s ++ l) out ∙ sym (ap (λ l. take k s ++ plus l rest) out) ∙ d.1.1

-- the numbers of `times`, from the ith on
pub times_cut : (f : ℤ) (a : List ℤ) (i : ℕ) → i < length a → times f (drop i a) ≡ (f *ℤ get_or a i (pos 0)) ∷ times f (drop (i + 1) a)
times_cut f a i h =
    let cut : drop i a ≡ get_or a i (pos 0) ∷ drop (i + 1) a = rw add-one (drop-cons a i (pos 0) h) in
    ap (λ l. times f l) cut

-- one turn over `times`
pub times_turn : (f : ℤ) (a total s₀ s p : List ℤ) (i : ℕ) → i < length a → i < length s → p ≡ set s i (get_or s i (pos 0) +ℤ f *ℤ get_or a i (pos 0))
    → Adding total s₀ s i (times f (drop i a)) → Adding total s₀ p (i + 1) (times f (drop (i + 1) a))
times_turn f a total s₀ s p i h k e d =
    subst (λ l. Adding total s₀ l (i + 1) (times f (drop (i + 1) a))) (sym e)
    (adding_turn total s₀ s i (f *ℤ get_or a i (pos 0)) (times f (drop (i + 1) a)) k (subst (λ l. Adding total s₀ s i l) (times_cut f a i h) d))

-- ---- a part at a time
-- of a longer list the first numbers count
pub plus_long : (f : ℤ) (l a : List ℤ) → plus l (times f a) ≡ plus l (times f (take (length l) a))
unfolding plus
plus_long f [] a = refl
plus_long f (x ∷ l) [] = refl
plus_long f (x ∷ l) (y ∷ a) = ap (λ r. (x +ℤ f *ℤ y) ∷ r) (plus_long f l a)

pub adding_part : (total s₀ s : List ℤ) (k e : ℕ) (col rest ys : List ℤ) → k ≤ e → e ≤ length s → length col ≡ e - k → ys ≡ plus (mid_of k (e - k) s) col
    → Adding total s₀ s k (col ++ rest) → Adding total s₀ (put_mid k (e - k) s ys) e rest
adding_part total s₀ s k e col rest ys p q n g d =
    let size : length (mid_of k (e - k) s) ≡ e - k = mid_len k e s q in
    let size' : length ys ≡ e - k = ap length g ∙ length_plus (mid_of k (e - k) s) col ∙ size in
    let back : drop e (put_mid k (e - k) s ys) ≡ drop e s = drop_put k e s ys p q size' in
    let far : k + (e - k) ≡ e = omega arith in
    let cut : (l : List ℤ) → drop (e - k) (drop k l) ≡ drop e l = λ l. drop-drop (e - k) k l ∙ ap (λ m. drop m l) far in
    let front : take e (put_mid k (e - k) s ys) ≡ take k s ++ ys =
    ap (λ l. take e l) (sym (append_assoc (take k s) ys (drop (e - k) (drop k s))))
    ∙ take_at (take k s ++ ys) (drop (e - k) (drop k s)) e (length-append (take k s) ys ∙ ap (λ m. m + length ys) (length-take-le k s (omega arith)) ∙ omega arith) in (
      same_len_mid k (e - k) s ys (size' ∙ sym size) ∙ d.0,
      (
        back ∙ sym (cut s) ∙ ap (λ l. drop (e - k) l) d.1.0 ∙ cut s₀,
        ap (λ l. take e (put_mid k (e - k) s ys) ++ plus l rest) back
            ∙ ap (λ l. l ++ plus (drop e s) rest) front
            ∙ append_assoc (take k s) ys (plus (drop e s) rest)
            ∙ ap (λ l. take k s ++ (l ++ plus (drop e s) rest)) g
            ∙ ap (λ l. take k s ++ l) (sym (whole (cut s)))
            ∙ d.1.1,
      ),
    )
  where
    whole : drop (e - k) (drop k s) ≡ drop e s → plus (drop k s) (col ++ rest) ≡ plus (take (e - k) (drop k s)) col ++ plus (drop e s) rest
    whole c =
        plus_split (drop k s) col rest (rw (length-drop k s) (omega arith))
        ∙ ap (λ m. plus (take m (drop k s)) col ++ plus (drop m (drop k s)) rest) n
        ∙ ap (λ l. plus (take (e - k) (drop k s)) col ++ plus l rest) c

pub columns_start : (w : ℤ) (a s : List ℤ) → Adding (plus s (triangle_terms w a)) s s 0 (columns w a 0 (length a - 0))
columns_start w a s = (refl, (refl, rw sub-zero))

pub columns_end : (w : ℤ) (a total s₀ s : List ℤ) (j k : ℕ) → length a ≤ j → Adding total s₀ s k (columns w a j (length a - j)) → s ≡ total
unfolding columns
columns_end w a total s₀ s j k h d =
    let none : length a - j ≡ 0 = omega arith in
    adding_done total s₀ s k (subst (λ m. Adding total s₀ s k (columns w a j m)) none d)

pub columns_cut : (w : ℤ) (a : List ℤ) (j : ℕ) → j < length a → columns w a j (length a - j) ≡ times (w *ℤ get_or a j (pos 0)) (take (j + 1) a) ++ columns w a (j + 1) (length a - (j + 1))
unfolding columns
columns_cut w a j h =
    let more : length a - j ≡ suc (length a - (j + 1)) = omega arith in
    rw (more, add-one)

pub columns_turn : (w : ℤ) (a total s₀ s : List ℤ) (j k : ℕ) (f : ℤ) (ys : List ℤ) → j < length a → k + j + 1 ≤ length s → f ≡ w *ℤ get_or a j (pos 0)
    → ys ≡ plus (mid_of k (k + j + 1 - k) s) (times f a)
    → Adding total s₀ s k (columns w a j (length a - j)) → Adding total s₀ (put_mid k (k + j + 1 - k) s ys) (k + j + 1) (columns w a (j + 1) (length a - (j + 1)))
columns_turn w a total s₀ s j k f ys h q e g d =
    let n : k + j + 1 - k ≡ j + 1 = omega arith in
    let size : length (mid_of k (k + j + 1 - k) s) ≡ j + 1 = mid_len k (k + j + 1) s q ∙ n in
    let col = times (w *ℤ get_or a j (pos 0)) (take (j + 1) a) in
    let len : length col ≡ j + 1 = length-map (take (j + 1) a) (λ x. (w *ℤ get_or a j (pos 0)) *ℤ x) ∙ length-take-le (j + 1) a (omega arith) in
    adding_part total s₀ s k (k + j + 1) col (columns w a (j + 1) (length a - (j + 1))) ys (omega arith) q (len ∙ sym n)
    (g ∙ plus_long f (mid_of k (k + j + 1 - k) s) a ∙ ap (λ m. plus (mid_of k (k + j + 1 - k) s) (times f (take m a))) size ∙ ap (λ z. plus (mid_of k (k + j + 1 - k) s) (times z (take (j + 1) a))) e)
    (subst (λ l. Adding total s₀ s k l) (columns_cut w a j h) d)

-- a number of what is not done yet is within what the list was within
pub part_within : (total s₀ s : List ℤ) (k n m : ℕ) (rest : List ℤ) → Adding total s₀ s k rest → Within m s₀ → Within m (take n (drop k s))
part_within total s₀ s k n m rest d h i = small n (drop k s) i (λ v. subst (λ l. nat_abs (get_or l v (pos 0)) ≤ m) (sym d.1.0) (subst (λ z. nat_abs z ≤ m) (sym (get_or-drop k s₀ v (pos 0))) (h (k + v))))
  where
    small : (n : ℕ) (l : List ℤ) (i : ℕ) → Within m l → nat_abs (get_or (take n l) i (pos 0)) ≤ m
    small zero l i w = zero-le
    small (suc n) [] i w = zero-le
    small (suc n) (x ∷ l) zero w = w 0
    small (suc n) (x ∷ l) (suc i) w = small n l i (λ v. w (suc v))

-- Laws of words in bytes, over the width: reading, writing, and that each undoes the other.
-- Assumes nothing.
use mathlib.Core.Path.{◌≡◌, refl, sym, ap, ap₂, ◌∙◌}
use mathlib.Core.List.{List, [], ◌∷◌, ◌++◌}
use Prim.Native.Nat.{ℕ, zero, suc, ◌+◌, ◌*◌, ◌-◌, ◌/◌, ◌%◌, ◌^◌, ◌<◌, ◌≤◌, min}
use native.Mathlib.Nat.{pow-suc, pow-zero, pow-le-pow_right, add-suc, suc-add, add-zero, zero-add, sub_self, mul_assoc, le_refl, mul_comm, one-mul, div-one, div-div-eq-div-mul, div-add-mod'}
use native.Mathlib.Numerals.{add-one}
use native.Mathlib.Omega.{arith}
use lib.Dec.{lit<}
use lib.ListN.{length, get_or, set, drop, get_or-append, length-set}
use lib.Seq.{sets, sets-eq, length-sets, set_out, set-get_or, get_or-append-add, get_or-set_same, get_or-set_other}
use Rattle.num_whole.specs.Tests.{less}
use Rattle.num_whole.proofs.Cases.{by_cases, less_true, less_false}
use Rattle.byte_words.specs.Words.{word, bytes_of, lay}

-- every element is a byte
abbrev pub Bytes : List ℕ → Type 0
Bytes s = (i : ℕ) → get_or s i 0 < 256

-- ---- reading
-- a word is its first j bytes and, above them, the others
pub word_join : (j k : ℕ) (s : List ℕ) (at : ℕ) → word (j + k) s at ≡ word j s at + 256 ^ j * word k s (at + j)
unfolding word
word_join zero k s at = rw (zero-add k, add-zero at, pow-zero 256, one-mul) (sym (zero-add _))
word_join (suc j) k s at =
    rw (suc-add j k)
    (let ih : word (j + k) s (suc at) ≡ word j s (suc at) + 256 ^ j * word k s (suc at + j) = word_join j k s (suc at) in
    let up : 256 ^ suc j * word k s (at + suc j) ≡ 256 * (256 ^ j * word k s (suc at + j)) =
    ap₂ (λ a b. a * word k s b) (pow-suc 256 j ∙ mul_comm (256 ^ j) 256) (add-suc at j ∙ sym (suc-add at j)) ∙ mul_assoc 256 (256 ^ j) (word k s (suc at + j)) in
    omega arith)

-- two bytes, as the code adds them
pub word_two : (s : List ℕ) (at : ℕ) → word 2 s at ≡ get_or s at 0 + 256 * get_or s (at + 1) 0
unfolding word
word_two s at = rw add-one (omega arith)

-- a word of k bytes is below the kth power of 256
pub word_small : (k : ℕ) (s : List ℕ) (at : ℕ) → Bytes s → word k s at < 256 ^ k
unfolding word
word_small zero s at h = rw pow-zero (lit< tt)
word_small (suc k) s at h = omega (arith, pow-suc 256 k, word_small k s (suc at) h, h at)

-- what stands after a list stands at its own place there
pub word_after : (k : ℕ) (p s : List ℕ) (j : ℕ) → word k (p ++ s) (length p + j) ≡ word k s j
unfolding word
word_after zero p s j = refl
word_after (suc k) p s j =
    ap₂ (λ a b. a + 256 * b) (get_or-append-add p s j 0) (ap (word k (p ++ s)) (sym (add-suc (length p) j)) ∙ word_after k p s (suc j))

-- and what stands within the first list is read from it alone
pub word_within : (k : ℕ) (p s : List ℕ) (at : ℕ) → at + k ≤ length p → word k (p ++ s) at ≡ word k p at
unfolding word
word_within zero p s at h = refl
word_within (suc k) p s at h =
    ap₂ (λ a b. a + 256 * b) (get_or-append p s 0 at (omega arith)) (word_within k p s (suc at) (omega arith))

-- words of lists that agree on the bytes read agree
pub word_same : (k : ℕ) (s t : List ℕ) (at : ℕ) → ((i : ℕ) → at ≤ i → i < at + k → get_or s i 0 ≡ get_or t i 0) → word k s at ≡ word k t at
unfolding word
word_same zero s t at h = refl
word_same (suc k) s t at h = ap₂ (λ a b. a + 256 * b) (h at (le_refl at) (omega arith)) (word_same k s t (suc at) (λ i p q. h i (omega arith) (omega arith)))

-- ---- the loop that reads, from the last byte to the first
pub read_none : (s : List ℕ) (at k : ℕ) → (k ≤ k) × ((0 ≡ word (k - k) s (at + k)) × (0 < 256 ^ (k - k)))
unfolding word
read_none s at k = (le_refl k, (rw sub_self, rw sub_self (lit< tt)))

pub read_turn : (s : List ℕ) (at k v i x : ℕ) → 0 < i → i ≤ k → v ≡ word (k - i) s (at + i) → v < 256 ^ (k - i) → x ≡ get_or s (at + (i - 1)) 0 → x < 256
    → (i - 1 ≤ k) × ((v * 256 + x ≡ word (k - (i - 1)) s (at + (i - 1))) × (v * 256 + x < 256 ^ (k - (i - 1))))
unfolding word
read_turn s at k v i x p q e f g h =
    let more : k - (i - 1) ≡ suc (k - i) = omega arith in
    let next : at + i ≡ suc (at + (i - 1)) = omega arith in
    let e₁ : v ≡ word (k - i) s (suc (at + (i - 1))) = rw next at e in
    let top : 256 ^ suc (k - i) ≡ 256 ^ (k - i) * 256 = pow-suc 256 (k - i) in
    (omega arith, (rw more (omega arith), rw more (omega arith)))

pub read_all : (s : List ℕ) (at k v i : ℕ) → i ≤ 0 → v ≡ word (k - i) s (at + i) → v < 256 ^ (k - i) → (v ≡ word k s at) × (v < 256 ^ k)
read_all s at k v i z e f =
    let n : k - i ≡ k = omega arith in
    let m : at + i ≡ at = omega arith in
    (rw (n, m) at e, rw n at f)

-- the powers of 256 ascend
pub pow_256 : (n m : ℕ) → n ≤ m → 256 ^ n ≤ 256 ^ m
pow_256 n m h = pow-le-pow_right (lit< tt) h

-- ---- the bytes of a number
pub length_bytes_of : (k n : ℕ) → length (bytes_of k n) ≡ k
unfolding bytes_of
length_bytes_of zero n = refl
length_bytes_of (suc k) n = ap suc (length_bytes_of k (n / 256))

pub bytes_of_small : (k n : ℕ) → Bytes (bytes_of k n)
unfolding bytes_of
bytes_of_small zero n i = lit< tt
bytes_of_small (suc k) n zero = omega arith
bytes_of_small (suc k) n (suc i) = bytes_of_small k (n / 256) i

-- a number that k bytes hold is read back
pub word_bytes_of : (k n : ℕ) (r : List ℕ) → n < 256 ^ k → word k (bytes_of k n ++ r) 0 ≡ n
unfolding word bytes_of
word_bytes_of zero n r h = omega (arith, pow-zero 256)
word_bytes_of (suc k) n r h =
    let rest : word k (n % 256 ∷ (bytes_of k (n / 256) ++ r)) 1 ≡ n / 256 =
    word_after k (n % 256 ∷ []) (bytes_of k (n / 256) ++ r) 0 ∙ word_bytes_of k (n / 256) r (omega (arith, pow-suc 256 k)) in
    rw rest (omega arith)

-- the bytes of a number are its first j bytes and those of what stands above them
pub bytes_of_join : (j k n : ℕ) → bytes_of (j + k) n ≡ bytes_of j n ++ bytes_of k (n / 256 ^ j)
unfolding bytes_of
bytes_of_join zero k n = rw (zero-add, pow-zero, div-one)
bytes_of_join (suc j) k n =
    let up : n / 256 / 256 ^ j ≡ n / 256 ^ suc j = div-div-eq-div-mul n 256 (256 ^ j) ∙ ap (λ m. n / m) (mul_comm 256 (256 ^ j) ∙ sym (pow-suc 256 j)) in
    rw (suc-add j k, ← up) (ap (λ r. n % 256 ∷ r) (bytes_of_join j k (n / 256)))

-- the k bytes of a number are those of what is left of it below the kth power of 256
low_more : (k q r : ℕ) → bytes_of k (r + q * 256 ^ k) ≡ bytes_of k r
unfolding bytes_of
low_more zero q r = refl
low_more (suc k) q r =
    let up : q * 256 ^ suc k ≡ 256 * (q * 256 ^ k) = ap (λ m. q * m) (pow-suc 256 k) ∙ sym (mul_assoc q (256 ^ k) 256) ∙ mul_comm (q * 256 ^ k) 256 in
    let low : (r + q * 256 ^ suc k) % 256 ≡ r % 256 = omega arith in
    let high : (r + q * 256 ^ suc k) / 256 ≡ r / 256 + q * 256 ^ k = omega arith in
    rw (low, high) (ap (λ l. r % 256 ∷ l) (low_more k q (r / 256)))

pub low : (k n : ℕ) → bytes_of k (n % 256 ^ k) ≡ bytes_of k n
low k n =
    let m = 256 ^ k in
    let whole : n % m + n / m * m ≡ n = omega (arith, div-add-mod' n m) in
    sym (low_more k (n / m) (n % m)) ∙ ap (bytes_of k) whole

-- ---- laying bytes over a list
pub length_lay : (s : List ℕ) (at : ℕ) (bs : List ℕ) → length (lay s at bs) ≡ length s
unfolding lay
length_lay s at bs = length-sets s at bs

sets_out : (s : List ℕ) (at : ℕ) (bs : List ℕ) → length s ≤ at → sets s at bs ≡ s
sets_out s at [] h = refl
sets_out s at (b ∷ bs) h =
    let same : set s at b ≡ s = set_out s at b h in
    rw same (sets_out s (suc at) bs (omega arith))

-- past the end nothing is laid
pub lay_out : (s : List ℕ) (at : ℕ) (bs : List ℕ) → length s ≤ at → lay s at bs ≡ s
unfolding lay
lay_out = sets_out

sets_append : (xs ys s : List ℕ) (i : ℕ) → sets (sets s i xs) (i + length xs) ys ≡ sets s i (xs ++ ys)
sets_append [] ys s i = rw add-zero
sets_append (a ∷ xs) ys s i = rw (add-suc i (length xs), ← suc-add i (length xs)) (sets_append xs ys (set s i a) (suc i))

-- bytes laid one run after another
pub lay_append : (s : List ℕ) (at m : ℕ) (xs ys : List ℕ) → m ≡ at + length xs → lay (lay s at xs) m ys ≡ lay s at (xs ++ ys)
unfolding lay
lay_append s at m xs ys e = rw e (sets_append xs ys s at)

-- bytes laid from the start
pub lay_front : (s bs : List ℕ) → length bs ≤ length s → lay s 0 bs ≡ bs ++ drop (length bs) s
unfolding lay
lay_front s bs h =
    let z : 0 + length bs ≡ length bs = omega arith in
    let f : 0 + length bs ≤ length s = omega arith in
    rw (sets-eq bs s 0 f, z)

-- two words, one after the other, are one
pub lay_two : (j k : ℕ) (s : List ℕ) (at n : ℕ) → lay (lay s at (bytes_of j n)) (at + j) (bytes_of k (n / 256 ^ j)) ≡ lay s at (bytes_of (j + k) n)
lay_two j k s at n =
    lay_append s at (at + j) (bytes_of j n) (bytes_of k (n / 256 ^ j)) (rw length_bytes_of) ∙ ap (lay s at) (sym (bytes_of_join j k n))

-- a place outside the run keeps its byte
pub lay_beyond : (bs s : List ℕ) (at i : ℕ) → at + length bs ≤ i → get_or (lay s at bs) i 0 ≡ get_or s i 0
unfolding lay
lay_beyond [] s at i h = refl
lay_beyond (b ∷ bs) s at i h = lay_beyond bs (set s at b) (suc at) i (omega arith) ∙ get_or-set_other s at i b 0 (omega arith)

pub lay_before : (bs s : List ℕ) (at i : ℕ) → i < at → get_or (lay s at bs) i 0 ≡ get_or s i 0
unfolding lay
lay_before [] s at i h = refl
lay_before (b ∷ bs) s at i h = lay_before bs (set s at b) (suc at) i (omega arith) ∙ get_or-set_other s at i b 0 (omega arith)

-- ---- the loop that writes: what is laid and the bytes still to come are the whole
pub write_turn : (s : List ℕ) (at k x i : ℕ) → i < k
    → lay s (at + i) (bytes_of (k - i) x) ≡ lay (set s (at + i) (x % 256)) (at + (i + 1)) (bytes_of (k - (i + 1)) (x / 256))
unfolding bytes_of lay
write_turn s at k x i h =
    let more : k - i ≡ suc (k - (i + 1)) = omega arith in
    let next : at + (i + 1) ≡ suc (at + i) = omega arith in
    rw (more, next)

pub write_end : (s : List ℕ) (at k x i : ℕ) → min k (length s - at) ≤ i → lay s (at + i) (bytes_of (k - i) x) ≡ s
unfolding bytes_of lay
write_end s at k x i h =
    by_cases (less i k)
    (λ t. let more : i < k = less_true i k t in sets_out s (at + i) (bytes_of (k - i) x) (omega arith))
    (λ t. let none : k - i ≡ 0 = omega (arith, less_false i k t) in rw none)

-- ---- the round trips
-- what was written, where there is room for it, is read back
pub read_written : (k : ℕ) (s : List ℕ) (at n : ℕ) → at + k ≤ length s → n < 256 ^ k → word k (lay s at (bytes_of k n)) at ≡ n
unfolding word bytes_of lay
read_written zero s at n h f = omega (arith, pow-zero 256)
read_written (suc k) s at n h f =
    let first : get_or (sets (set s at (n % 256)) (suc at) (bytes_of k (n / 256))) at 0 ≡ n % 256 =
    lay_before (bytes_of k (n / 256)) (set s at (n % 256)) (suc at) at (omega arith) ∙ get_or-set_same s at (n % 256) 0 (omega arith) in
    let rest : word k (sets (set s at (n % 256)) (suc at) (bytes_of k (n / 256))) (suc at) ≡ n / 256 =
    read_written k (set s at (n % 256)) (suc at) (n / 256) (rw length-set (omega arith)) (omega (arith, pow-suc 256 k)) in
    rw (first, rest) (omega arith)

-- what was read, written to its place, changes nothing, wherever the place is
pub write_read : (k : ℕ) (s : List ℕ) (at : ℕ) → Bytes s → lay s at (bytes_of k (word k s at)) ≡ s
unfolding word bytes_of lay
write_read zero s at h = refl
write_read (suc k) s at h =
    let low : (get_or s at 0 + 256 * word k s (suc at)) % 256 ≡ get_or s at 0 = omega (arith, h at) in
    let high : (get_or s at 0 + 256 * word k s (suc at)) / 256 ≡ word k s (suc at) = omega (arith, h at) in
    rw (low, high, set-get_or s at 0) (write_read k s (suc at) h)

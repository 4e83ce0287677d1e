-- A whole number of units as a double: the cast and the division by 2 ^ k lose nothing. Assumes nothing.
use mathlib.Core.Path.{◌≡◌, refl, sym, ap, ap₂, ◌∙◌, subst}
use Prim.Native.Nat.{ℕ, suc, ◌+◌, ◌-◌, ◌*◌, ◌/◌, ◌^◌, ◌≤◌, ◌<◌}
use native.Mathlib.Nat.{lt_irrefl, le_of_lt, lt_of_lt_of_le, mul-one, zero-mul, mul_assoc, mul_comm, mul_right_comm, mul-pos, mul-div_cancel}
use native.Mathlib.Omega.{arith}
use mathlib.Core.Bool.{Bool, true, false, cond}
use lib.Dec.{T, eqb, le→leb, lt→ltb}
use lib.IntN.{ℤ, pos, negsuc, nat_abs, ◌*ℤ◌}
use lib.Pow.{pow-add, pow_pos, pow_mono, shl_lt}
use lib.Ieee.{Float, nan, inf, fin, binary64, up, down, round, div, unlike, of_int, in_float}
use lib.Ieee.Digits.{back}
use lib.Ieee.Fits.{down_pos}
use lib.Ieee.Exact.{HasValue, round_exact}
use lib.Ieee.Back.{round_whole}
use lib.Ieee.Scale.{round_same}
use borrow.Author.Tests.{ne_eqb}
use Rattle.unit_nearest.specs.Doubles.{signed, size, quotient, Exactly}
use Rattle.unit_nearest.proofs.Signs.{times}

-- ---- the division of two values
unlike_false : (s : Bool) → unlike s false ≡ s
unlike_false true = refl
unlike_false false = refl

swap : (n a b d : ℕ) → n * a * b * d ≡ n * (d * b * a)
swap n a b d = ap (λ (x : ℕ). x * d) (mul_assoc n a b) ∙ mul_assoc n (a * b) d ∙ ap (λ (x : ℕ). n * x) (ap (λ (x : ℕ). x * d) (mul_comm a b) ∙ mul_comm (b * a) d ∙ sym (mul_assoc d b a))

nonzero : (n u b d : ℕ) → 0 < b → 0 < d → n * u * 1 ≡ b * d → n ≡ 0 → ⊥
nonzero n u b d B D h e =
    lt_irrefl 0 (subst (λ (x : ℕ). 0 < x) (sym h ∙ ap (λ (x : ℕ). x * u * 1) e ∙ ap (λ (x : ℕ). x * 1) (zero-mul u) ∙ zero-mul 1) (mul-pos B D))

div_is : (X S : Float) (s : Bool) (n b : ℕ) → 0 < b → HasValue X s n 1 → HasValue S false b 1 → div binary64 X S ≡ round binary64 s n b
unfolding div
div_is nan S s n b B v w = elim v [ ]
div_is (inf _) S s n b B v w = elim v [ ]
div_is (fin t m e) nan s n b B v w = elim w [ ]
div_is (fin t m e) (inf _) s n b B v w = elim w [ ]
div_is (fin t m e) (fin u k d) s n b B v w =
    let A = m * up e * down d in
    let C = k * up d * down e in
    let kd : k * up d ≡ b * down d = sym (mul-one (k * up d)) ∙ w.1 in
    let me : m * up e ≡ n * down e = sym (mul-one (m * up e)) ∙ v.1 in
    ap (λ (z : Bool). cond z (cond (eqb m 0) nan (inf (unlike t u))) (round binary64 (unlike t u) A C)) (ne_eqb k 0 (nonzero k (up d) b (down d) B (down_pos d) w.1))
    ∙ ap₂ (λ (x y : Bool). round binary64 (unlike x y) A C) v.0 w.0
    ∙ ap (λ (x : Bool). round binary64 x A C) (unlike_false s)
    ∙ round_same binary64 s A C n b (subst (λ (x : ℕ). 0 < x * down e) (sym kd) (mul-pos (mul-pos B (down_pos d)) (down_pos e))) B
    (ap (λ (x : ℕ). x * down d * b) me ∙ swap n (down e) (down d) b ∙ ap (λ (x : ℕ). n * (x * down e)) (sym kd))

-- ---- n / 2 ^ k is a double
fine : (k : ℕ) → k ≤ 52 → k ≤ 1074
fine k h = omega arith

exact : (s : Bool) (n k : ℕ) → n < 2 ^ 53 → k ≤ 52 → HasValue (round binary64 s n (2 ^ k)) s n (2 ^ k)
exact s n k h g =
    let j = 1074 - k in
    round_exact binary64 s n (2 ^ k) n j (pow_pos k) h
    (lt_of_lt_of_le (shl_lt 53 j h) (pow_mono {i = 53 + j} {j = 2098} (room k)))
    (ap (λ (x : ℕ). n * 2 ^ x) (sym (back 1074 k (fine k g))) ∙ ap (λ (x : ℕ). n * x) (pow-add 2 j k) ∙ sym (mul_assoc n (2 ^ j) (2 ^ k)))
  where
    room : (k : ℕ) → 53 + (1074 - k) ≤ 2098
    room k = omega arith

-- ---- in units of 2 ^ -1074
exactly_of : (k : ℕ) (s : Bool) (n : ℕ) (x : Float) → k ≤ 52 → HasValue x s n (2 ^ k) → Exactly k (signed s n) x
unfolding size
exactly_of k s n nan g v = elim v [ ]
exactly_of k s n (inf _) g v = elim v [ ]
exactly_of k s n (fin t m e) g v =
    let j = 1074 - k in
    let p : 2 ^ 1074 ≡ 2 ^ k * 2 ^ j = ap (λ (x : ℕ). 2 ^ x) (sym (mid k g)) ∙ pow-add 2 k j in
    let c : m * up e * 2 ^ 1074 ≡ n * 2 ^ j * down e =
    ap (λ (x : ℕ). m * up e * x) p ∙ sym (mul_assoc (m * up e) (2 ^ k) (2 ^ j)) ∙ ap (λ (x : ℕ). x * 2 ^ j) v.1 ∙ mul_right_comm n (down e) (2 ^ j) in
    let z : m * up e * 2 ^ 1074 / down e ≡ n * 2 ^ j = ap (λ (x : ℕ). x / down e) c ∙ mul-div_cancel (n * 2 ^ j) (down_pos e) in
    let w : n * 2 ^ j * 2 ^ k ≡ n * 2 ^ 1074 = mul_assoc n (2 ^ j) (2 ^ k) ∙ ap (λ (x : ℕ). n * x) (mul_comm (2 ^ j) (2 ^ k) ∙ sym p) in
    record {
      number = tt;
      same = ap₂ (λ (b : Bool) (y : ℕ). signed b y *ℤ pos (2 ^ k)) v.0 z ∙ times s (n * 2 ^ j) (2 ^ k) ∙ ap (λ (y : ℕ). signed s y) w ∙ sym (times s n (2 ^ 1074));
    }
  where
    mid : (k : ℕ) → k ≤ 52 → k + (1074 - k) ≡ 1074
    mid k h = omega arith

-- ---- the two casts
pub in_float_lem : (q : ℤ) → nat_abs q < 2 ^ 53 → T (in_float binary64 q)
unfolding in_float
in_float_lem (pos n) h = le→leb n (2 ^ 53) (le_of_lt h)
in_float_lem (negsuc n) h = lt→ltb n (2 ^ 53) (le_of_lt h)

-- the division is the quotient of the definition
pub quotient_is : (k : ℕ) (q : ℤ) (S : Float) → nat_abs q < 2 ^ 53 → HasValue S false (2 ^ k) 1 → div binary64 (of_int binary64 q) S ≡ quotient k q
unfolding of_int quotient
quotient_is k (pos n) S h v = div_is (round binary64 false n 1) S false n (2 ^ k) (pow_pos k) (round_whole binary64 false n (le_of_lt h)) v
quotient_is k (negsuc n) S h v = div_is (round binary64 true (suc n) 1) S true (suc n) (2 ^ k) (pow_pos k) (round_whole binary64 true (suc n) (le_of_lt h)) v

-- "so q becomes a double, and q/2^k is exact"
pub quotient_exact : (k : ℕ) (q : ℤ) → nat_abs q < 2 ^ 53 → k ≤ 52 → Exactly k q (quotient k q)
unfolding quotient
quotient_exact k (pos n) h g = exactly_of k false n (round binary64 false n (2 ^ k)) g (exact false n k h g)
quotient_exact k (negsuc n) h g = exactly_of k true (suc n) (round binary64 true (suc n) (2 ^ k)) g (exact true (suc n) k h g)

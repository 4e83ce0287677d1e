-- The steps from the fields of a double to a unit: digits shifted right and rounded to even, and powers of two taken out of the fraction. Assumes nothing.
use mathlib.Core.Path.{◌≡◌, refl, sym, ap, ◌∙◌, subst}
use Prim.Native.Nat.{ℕ, zero, suc, ◌+◌, ◌-◌, ◌*◌, ◌/◌, ◌%◌, ◌^◌, ◌≤◌, ◌<◌, compare}
use native.Mathlib.Nat.{mod-lt, mod-eq_of_lt, div-eq_of_lt, div-add-mod', div-le_self, div-div-eq-div-mul, div-eq_of_lt-le, le_trans, le_of_eq, mul-one, mul_assoc, mul-le-mul_left, mul-le-mul_right, zero-lt-suc}
use native.Mathlib.Omega.{arith}
use mathlib.Core.Bool.{Bool, true, false, not, true≢false, false≢true}
use lib.Dec.{T, lit≤}
use lib.IntN.{ℤ}
use lib.Pow.{pow-add, pow_pos, pow_mono}
use lib.Ieee.{Float, nan, inf, fin, is_nan, lt}
use lib.Ieee.Fits.{nearest-le}
use lib.Ieee.Scale.{finite}
use lib.Ieee.Nearest.{closest, closest_same, closest_mono}
use Rattle.unit_nearest.specs.Doubles.{field_of, fraction_of, hidden, mant, unit_within}
use Rattle.num_whole.specs.Answer.{refused}
use Rattle.unit_nearest.proofs.Laws.{closest_lt, closest_gt, closest_eq}
use Rattle.unit_nearest.proofs.Near.{cases}

-- ---- half a unit added and the sum cut off, a grain less where the whole part is even; all of it doubled
module _ (d u q r : ℕ) (e : q * u + r ≡ d) (l : r < u) where
  cut : (n : ℕ) → n * (u * 2) ≤ 2 * d + u - 1 + q % 2 → 2 * d + u - 1 + q % 2 < (n + 1) * (u * 2) → (2 * d + u - 1 + q % 2) / u / 2 ≡ n
  cut n a b = div-div-eq-div-mul (2 * d + u - 1 + q % 2) u 2 ∙ div-eq_of_lt-le (u * 2) a b

  down : r * 2 < u → (2 * d + u - 1 + q % 2) / u / 2 ≡ q
  down h = cut q (omega arith) (omega arith)

  over : u < r * 2 → (2 * d + u - 1 + q % 2) / u / 2 ≡ suc q
  over h = cut (suc q) (omega arith) (omega arith)

  tied : r * 2 ≡ u → (p : ℕ) → q % 2 ≡ p → (2 * d + u - 1 + q % 2) / u / 2 ≡ q + p
  tied h zero o = cut (q + 0) (omega arith) (omega arith)
  tied h (suc zero) o = cut (q + 1) (omega arith) (omega arith)
  tied h (suc (suc p)) o = absurd (omega arith)

pub rounds : (d u : ℕ) → 0 < u → (2 * d + u - 1 + d / u % 2) / u / 2 ≡ closest d u
rounds d u U =
    let q = d / u in
    let r = d % u in
    let e : q * u + r ≡ d = div-add-mod' d u in
    let l : r < u = mod-lt d U in
    cases {X = (2 * d + u - 1 + d / u % 2) / u / 2 ≡ closest d u} (r * 2) u
    (λ h. down d u q r e l h ∙ sym (closest_lt d u h))
    (λ h. tied d u q r e l h (q % 2) refl ∙ sym (closest_eq d u h))
    (λ h. over d u q r e l h ∙ sym (closest_gt d u h))

-- less than a half is nearest to 0
twice : (a b : ℕ) → a * 2 < b → a < b
twice a b h = omega arith

closest_none : (a b : ℕ) → a * 2 < b → closest a b ≡ 0
closest_none a b h =
    let l : a < b = twice a b h in
    closest_lt a b (subst (λ (x : ℕ). x * 2 < b) (sym (mod-eq_of_lt l)) h) ∙ div-eq_of_lt l

pub shifted_out : (d s : ℕ) → d < 2 ^ 53 → 63 < s → 0 ≡ closest d (2 ^ s)
shifted_out d s h g = let m : 2 ^ 64 ≤ 2 ^ s = pow_mono g in sym (closest_none d (2 ^ s) (omega arith))

pub closest_small : (a b : ℕ) → a < 2 ^ 53 → closest a b ≤ 2 ^ 53
closest_small a b h = omega (arith, nearest-le (a / b) (compare (a % b * 2) b), div-le_self a b)

-- ---- powers of two taken out of a fraction
pub lowered : (a j s n : ℕ) → j + s ≡ n → closest a (2 ^ s) ≡ closest (a * 2 ^ j) (2 ^ n)
lowered a j s n h =
    closest_same a (2 ^ s) (a * 2 ^ j) (2 ^ n) (pow_pos s) (pow_pos n)
    (ap (λ (z : ℕ). a * 2 ^ z) (sym h) ∙ ap (λ (z : ℕ). a * z) (pow-add 2 j s) ∙ sym (mul_assoc a (2 ^ j) (2 ^ s)))

-- digits with their hidden bit, shifted to the left
pub too_large : (d j n : ℕ) → 2 ^ 52 ≤ d → n ≤ j → 2 ^ 52 ≤ closest (d * 2 ^ j) (2 ^ n)
too_large d j n h g =
    closest_mono (2 ^ 52) 1 (d * 2 ^ j) (2 ^ n) (zero-lt-suc 0) (pow_pos n)
    (le_trans (le_trans (mul-le-mul_left (2 ^ 52) (pow_mono {i = n} {j = j} g)) (mul-le-mul_right (2 ^ j) h)) (le_of_eq (sym (mul-one (d * 2 ^ j)))))

-- ---- the digits and the power of two of the fields
pub of_subnormal : (x t k : ℕ) → x ≡ 0 → k ≤ 52 → closest (hidden x + t) (2 ^ (1074 - k)) ≡ closest (mant x t * 2 ^ k) (2 ^ 1074)
of_subnormal zero t k e h = ap (λ (z : ℕ). closest z (2 ^ (1074 - k))) (none t) ∙ lowered t k (1074 - k) 1074 (omega arith)
  where
    none : (t : ℕ) → 0 + t ≡ t
    none t = omega arith
of_subnormal (suc x) t k e h = absurd (omega arith)

pub of_normal : (x t k : ℕ) → (x ≡ 0 → ⊥) → closest ((hidden x + t) * 2 ^ (x + k)) (2 ^ 1075) ≡ closest (mant x t * 2 ^ k) (2 ^ 1074)
of_normal zero t k n = absurd (n refl)
of_normal (suc x) t k n =
    let d = 2 ^ 52 + t in
    closest_same (d * 2 ^ (suc x + k)) (2 ^ 1075) (d * 2 ^ x * 2 ^ k) (2 ^ 1074) (pow_pos 1075) (pow_pos 1074)
    (mul_assoc d (2 ^ (suc x + k)) (2 ^ 1074)
    ∙ ap (λ (z : ℕ). d * z) (sym (pow-add 2 (suc x + k) 1074) ∙ ap (λ (z : ℕ). 2 ^ z) (moved x k) ∙ pow-add 2 (x + k) 1075)
    ∙ sym (mul_assoc d (2 ^ (x + k)) (2 ^ 1075))
    ∙ ap (λ (z : ℕ). z * 2 ^ 1075) (ap (λ (z : ℕ). d * z) (pow-add 2 x k) ∙ sym (mul_assoc d (2 ^ x) (2 ^ k))))
  where
    moved : (x k : ℕ) → suc x + k + 1074 ≡ x + k + 1075
    moved x k = omega arith

pub field_small : (p : ℕ) → field_of p < 2048
field_small p = omega arith

pub fraction_small : (p : ℕ) → fraction_of p < 2 ^ 52
fraction_small p = mod-lt p (pow_pos 52)

pub hidden_set : (x : ℕ) → (x ≡ 0 → ⊥) → hidden x ≡ 2 ^ 52
hidden_set zero n = absurd (n refl)
hidden_set (suc x) n = refl

pub hidden_most : (x : ℕ) → hidden x ≤ 2 ^ 52
hidden_most zero = lit≤ tt
hidden_most (suc x) = lit≤ tt

-- ---- which doubles are finite
pub between : (x : Float) (b : Bool) → lt x (inf false) ≡ true → lt (inf true) x ≡ b → b ≡ finite x
unfolding lt
between nan b h g = absurd (false≢true h)
between (inf true) b h g = sym g
between (inf false) b h g = absurd (false≢true h)
between (fin s m e) b h g = sym g

pub not_below : (x : Float) → lt x (inf false) ≡ false → false ≡ finite x
unfolding lt
not_below nan h = refl
not_below (inf s) h = refl
not_below (fin s m e) h = sym h

pub not_finite : (k : ℕ) (lo hi : ℤ) (x : Float) → finite x ≡ false → refused 15 ≡ unit_within k lo hi x
unfolding unit_within
not_finite k lo hi nan h = refl
not_finite k lo hi (inf s) h = refl
not_finite k lo hi (fin s m e) h = absurd (true≢false h)

pub a_number : (x : Float) → finite x ≡ true → T (not (is_nan x))
unfolding is_nan
a_number nan h = subst T (sym h) tt
a_number (inf s) h = tt
a_number (fin s m e) h = tt

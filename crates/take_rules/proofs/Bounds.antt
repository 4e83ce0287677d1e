-- What the rules leave possible: the bounds of a residual that passes the edit and of the terms it makes.
-- Assumes nothing.
use Prim.Native.Nat.{ℕ, ◌*◌, ◌≤◌, ◌^◌}
use mathlib.Core.Path.{◌≡◌, sym, ap, ◌∙◌, subst}
use mathlib.Core.Bool.{true}
use native.Mathlib.Nat.{mul-one, mul-le-mul, mul_assoc, mul_comm, le_trans, le_of_eq, mul-le-mul_left, mul-le-mul_right}
use native.Mathlib.Omega.{arith}
use lib.Dec.{T}
use lib.IntN.{ℤ, pos, negsuc, nat_abs, ◌*ℤ◌}
use lib.Signed.{non_neg}
use Rattle.num_whole.proofs.Cases.{up_to_true}
use Rattle.num_whole.proofs.Ints.{nat_abs_*}
use Rattle.take_rules.specs.Rules.{weight_of, in_window, passes_edit}
use Rattle.take_rules.proofs.Weights.{weight_square}

-- an edit that is passed bounds the residual: with K up to 100, |r| is at most ten times s steps
pub edit_bound : (level s step : ℕ) (r : ℤ) → level ≤ 100 → passes_edit level s step r ≡ true → nat_abs r ≤ 10 * (s * step)
unfolding passes_edit
edit_bound level s step r k e =
    let h : 10 * nat_abs r ≤ level * s * step = up_to_true _ _ e in
    let g : level * (s * step) ≤ 100 * (s * step) = mul-le-mul_right (s * step) k in
    omega (arith, mul_assoc level s step)

-- R = r·F: a step times F is 256 for every type, so that |R| is at most 2,560 s
pub scaled_bound : (level s step factor : ℕ) (r : ℤ) → level ≤ 100 → step * factor ≡ 256 → passes_edit level s step r ≡ true
    → nat_abs (r *ℤ pos factor) ≤ 2560 * s
scaled_bound level s step factor r k f e =
    let h : nat_abs r * factor ≤ 10 * (s * step) * factor = mul-le-mul_right factor (edit_bound level s step r k e) in
    let same : 10 * (s * step) * factor ≡ 10 * (s * 256) = mul_assoc 10 (s * step) factor ∙ ap (λ n. 10 * n) (mul_assoc s step factor ∙ ap (λ n. s * n) f) in
    omega (arith, nat_abs_* r (pos factor))

-- a number within 2,560 s, times the weight: within 2^28; times a partial within 2^15 it is a right side's term, within 2^43
pub weighted_bound : (s m : ℕ) → 1 ≤ s → s ≤ 256 → m ≤ 2560 * s → weight_of s * m ≤ 2 ^ 28
weighted_bound s m p few h =
    let a : weight_of s * m ≤ weight_of s * (2560 * s) = mul-le-mul_left (weight_of s) h in
    let b : weight_of s * s ≤ weight_of s * (s * s) = mul-le-mul_left (weight_of s) (grows s p) in
    let c : weight_of s * (2560 * s) ≡ 2560 * (weight_of s * s) = sym (mul_assoc (weight_of s) 2560 s) ∙ ap (λ n. n * s) (mul_comm (weight_of s) 2560) ∙ mul_assoc 2560 (weight_of s) s in
    omega (arith, weight_square s p few)
  where
    grows : (s : ℕ) → 1 ≤ s → s ≤ s * s
    grows s p = le_trans (le_of_eq (sym (mul-one s))) (mul-le-mul_left s p)

-- the square of such a number, times the weight: a square sum's term, within 2^40
pub square_bound : (s m : ℕ) → 1 ≤ s → s ≤ 256 → m ≤ 2560 * s → weight_of s * (m * m) ≤ 2 ^ 40
square_bound s m p few h =
    let a : weight_of s * (m * m) ≤ weight_of s * (2560 * s * (2560 * s)) = mul-le-mul_left (weight_of s) (mul-le-mul h h) in
    let b : 2560 * s * (2560 * s) ≡ 6553600 * (s * s) = squares s in
    let c : weight_of s * (6553600 * (s * s)) ≡ 6553600 * (weight_of s * (s * s)) =
    sym (mul_assoc (weight_of s) 6553600 (s * s)) ∙ ap (λ n. n * (s * s)) (mul_comm (weight_of s) 6553600) ∙ mul_assoc 6553600 (weight_of s) (s * s) in
    omega (arith, weight_square s p few, ap (λ n. weight_of s * n) b)
  where
    squares : (s : ℕ) → 2560 * s * (2560 * s) ≡ 6553600 * (s * s)
    squares s = mul_assoc 2560 s (2560 * s) ∙ ap (λ n. 2560 * n) (sym (mul_assoc s 2560 s) ∙ ap (λ n. n * s) (mul_comm s 2560) ∙ mul_assoc 2560 s s) ∙ sym (mul_assoc 2560 2560 (s * s))

-- a time in the window is not below 0
pub window_above : (first days : ℕ) (t : ℤ) → in_window first days t ≡ true → T (non_neg t)
unfolding in_window
window_above first days (pos n) e = tt
window_above first days (negsuc n) e = absurd (subst T (sym e) tt)

-- Document 02, #103: the corrected time of a clock's reading. It rises strictly with day and millisecond, whatever the correction, and where no
-- listed day lies before the reading's day it is document 01's.
-- Assumes nothing.
use Prim.Native.Nat.{ℕ, zero, suc, ◌+◌, ◌-◌, ◌*◌, ◌≤◌, ◌<◌}
use mathlib.Core.Path.{◌≡◌, sym, ap, ◌∙◌, subst}
use mathlib.Core.Bool.{true}
use native.Mathlib.Omega.{arith}
use lib.IntN.{ℤ, pos, negsuc, suc_ℤ, ◌+ℤ◌, +ℤ-suc_ℤ, +ℤ_one, +ℤ_comm, +ℤ_assoc, pos-+ℤ-pos}
use lib.Dec.{T, lt→ltb, le→leb}
use lib.Signed.{◌≤ℤ◌, ◌<ℤ◌, le_z, lt_z, le_z_yes, lt_z_yes, <ℤ-≤ℤ_trans}
use Rattle.days_leap.specs.Leap.{common_length, listed_before, last_ms}
use Rattle.days_leap.proofs.Days.{Earlier, time_rises, start_before}
use Rattle.num_whole.proofs.Cases.{both_second, up_to_true}
use Rattle.take_rules.specs.Rules.{clock_ok, time_of}

-- ---- a number, and more than it
next_above : (z : ℤ) → T (lt_z z (suc_ℤ z))
next_above (pos a) = lt→ltb a (suc a) (omega arith)
next_above (negsuc zero) = tt
next_above (negsuc (suc a)) = lt→ltb a (suc a) (omega arith)

next_not_below : (z : ℤ) → T (le_z z (suc_ℤ z))
next_not_below (pos a) = le→leb a (suc a) (omega arith)
next_not_below (negsuc zero) = tt
next_not_below (negsuc (suc a)) = le→leb a (suc a) (omega arith)

sum_above : (z : ℤ) (n : ℕ) → z <ℤ (z +ℤ pos (suc n))
sum_above z zero = subst (λ w. z <ℤ w) (sym (+ℤ_one z)) (lt_z_yes (next_above z))
sum_above z (suc n) =
    subst (λ w. z <ℤ w) (sym (+ℤ-suc_ℤ z (pos (suc n))))
    (<ℤ-≤ℤ_trans (sum_above z n) (le_z_yes (next_not_below (z +ℤ pos (suc n)))))

both_rise : (m n : ℕ) (k : ℤ) → m < n → (pos m +ℤ k) <ℤ (pos n +ℤ k)
both_rise m n k h = subst (λ w. (pos m +ℤ k) <ℤ w) more (sum_above (pos m +ℤ k) (n - m - 1))
  where
    whole : m + suc (n - m - 1) ≡ n
    whole = omega (arith, h)

    more : (pos m +ℤ k) +ℤ pos (suc (n - m - 1)) ≡ pos n +ℤ k
    more =
        +ℤ_assoc (pos m) k (pos (suc (n - m - 1))) ∙ ap (λ w. pos m +ℤ w) (+ℤ_comm k (pos (suc (n - m - 1))))
        ∙ sym (+ℤ_assoc (pos m) (pos (suc (n - m - 1))) k)
        ∙ ap (λ w. w +ℤ k) (pos-+ℤ-pos m (suc (n - m - 1)) ∙ ap pos whole)

-- ---- the corrected time
inside : (day ms : ℕ) → clock_ok day ms ≡ true → ms ≤ last_ms day
unfolding clock_ok
inside day ms e = up_to_true _ _ (both_second _ _ e)

-- of two readings that a clock may give, the earlier has the lower time, for one correction
pub rises : (d ms e ns : ℕ) (k : ℤ) → clock_ok d ms ≡ true → clock_ok e ns ≡ true → Earlier d ms e ns → time_of d ms k <ℤ time_of e ns k
unfolding time_of
rises d ms e ns k p q h = both_rise _ _ k (time_rises d ms e ns (inside d ms p) (inside e ns q) h)

-- "t = day·86,400,000 + ms + the station's correction", as long as no listed day is over
pub as_before : (day ms : ℕ) (k : ℤ) → listed_before day ≡ 0 → time_of day ms k ≡ pos (day * common_length + ms) +ℤ k
unfolding time_of
as_before day ms k e = ap (λ n. pos (n + ms) +ℤ k) (start_before day e)

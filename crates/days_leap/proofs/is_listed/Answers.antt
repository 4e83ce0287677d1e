-- `days_leap::is_listed` meets its contract: a listed day counts for the next day and not for its own.
use native.Mathlib.Omega.{arith}
use mathlib.Core.Path.{◌≡◌, refl, sym, ◌∙◌}
use Prim.Native.Nat.{ℕ, ◌+◌}
use Rattle.num_whole.specs.Tests.{less}
use Rattle.num_whole.proofs.Cases.{yes, no, by_cases, is_less, not_less, by_less}
use Rattle.days_leap.specs.Leap.{is_listed, listed_before}
use Rattle.days_leap.proofs.Counts.{one_if}
use Rattle.days_leap.proofs.Days.{listed_next}
use Rattle.days_leap.proofs.is_listed.Goals as goal

grows : (d n m : ℕ) → n ≡ listed_before d → m ≡ listed_before (d + 1) → less n m ≡ is_listed d
grows d n m p q =
    by_cases (is_listed d)
    (λ e. let one : ◌≡◌ {A = ℕ} 1 (one_if (is_listed d)) = yes _ _ _ e refl in is_less n m (omega (arith, listed_next d)) ∙ sym e)
    (λ e. let none : ◌≡◌ {A = ℕ} 0 (one_if (is_listed d)) = no _ _ _ e refl in not_less n m (omega (arith, listed_next d)) ∙ sym e)

pub returns : goal.returns
returns c = by_less _ _ ∙ grows _ _ _ c.listed_before.ensures.0 c.listed_before-2.ensures.0

-- `days_leap::listed_among` meets its contract: the six among which the day stands, and those before them.
use native.Mathlib.Omega.{arith}
use mathlib.Core.Path.{◌≡◌, sym, ap, ◌∙◌, subst}
use Prim.Native.Nat.{ℕ, ◌+◌, ◌≤◌}
use Rattle.days_leap.specs.Leap.{listed_before}
use Rattle.days_leap.specs.Parts.{listed_most}
use Rattle.days_leap.proofs.Days.{listed_most_lem}
use Rattle.days_leap.proofs.Sixes.{in_first, in_second, in_third, in_fourth}
use Rattle.days_leap.proofs.listed_among.Goals as goal

-- what is given is the number, and so at most all of them
so : (d r : ℕ) → r ≡ listed_before d → (r ≡ listed_before d) × (r ≤ listed_most)
so d r e = (e, subst (λ n. n ≤ listed_most) (sym e) (listed_most_lem d))

pub returns-then-day-le-DECEMBER_1977 : goal.returns-then-day-le-DECEMBER_1977
returns-then-day-le-DECEMBER_1977 c = so _ _ (c.of_six.ensures.0 ∙ in_first _ (omega arith))

pub returns-then-day-le-DECEMBER_1987 : goal.returns-then-day-le-DECEMBER_1987
returns-then-day-le-DECEMBER_1987 c = so _ _ (ap (λ n. 7 + n) c.of_six-then-day-le-DECEMBER_1987.ensures.0 ∙ in_second _ (omega arith) (omega arith))

pub returns-then-day-le-JUNE_1997 : goal.returns-then-day-le-JUNE_1997
returns-then-day-le-JUNE_1997 c = so _ _ (ap (λ n. 14 + n) c.of_six-then-day-le-JUNE_1997.ensures.0 ∙ in_third _ (omega arith) (omega arith))

pub returns : goal.returns
returns c = so _ _ (ap (λ n. 21 + n) c.of_six-2.ensures.0 ∙ in_fourth _ (omega arith))

-- `days_leap::listed_before` meets its contract: none lies before the first, all lie before a day after the last.
use native.Mathlib.Omega.{arith}
use mathlib.Core.Path.{sym}
use Rattle.days_leap.proofs.Days.{none_before}
use Rattle.days_leap.proofs.Sixes.{all_before}
use Rattle.days_leap.proofs.listed_before.Goals as goal

pub returns-then-day-le-JUNE_1972 : goal.returns-then-day-le-JUNE_1972
returns-then-day-le-JUNE_1972 c = (sym (none_before _ (omega arith)), omega arith)

pub returns-then-day-gt-DECEMBER_2016 : goal.returns-then-day-gt-DECEMBER_2016
returns-then-day-gt-DECEMBER_2016 c = (all_before _ (omega arith), omega arith)

pub returns : goal.returns
returns c = c.listed_among.ensures

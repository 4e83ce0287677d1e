-- `days::years_days` meets its contract: the law of the years in one form.
use mathlib.Core.Path.{sym}
use Rattle.days.proofs.Calendar.{years_closed}
use Rattle.days.proofs.years_days.Goals as goal

pub returns : goal.returns
returns c = sym (years_closed c.args.n c.requires)

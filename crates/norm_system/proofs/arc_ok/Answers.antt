-- `norm_system::arc_ok` meets its contract.
use mathlib.Core.Path.{ap, ◌∙◌}
use Rattle.num_whole.specs.Tests.{between}
use Rattle.norm_system.specs.System.{arc_ok}
use Rattle.norm_system.proofs.arc_ok.Goals as goal

pub returns : goal.returns
unfolding arc_ok
returns c = c.within.ensures ∙ ap (λ n. between 1 n 999999) c.from.ensures

-- `norm_kinds::field_ok` meets its contract.
use mathlib.Core.Path.{ap, ◌∙◌}
use Rattle.num_whole.specs.Tests.{between}
use Rattle.num_whole.proofs.Cases.{yes, no, by_same}
use Rattle.norm_kinds.specs.Kinds.{field_ok}
use Rattle.norm_kinds.proofs.field_ok.Goals as goal

pub returns-then-is_small : goal.returns-then-is_small
unfolding field_ok
returns-then-is_small c = yes _ _ _ c.if-is_small.true (c.within.ensures ∙ ap (λ n. between 1 n 2) c.from.ensures)

pub returns-else-is_small : goal.returns-else-is_small
unfolding field_ok
returns-else-is_small c = no _ _ _ c.if-is_small.false (by_same _ _)

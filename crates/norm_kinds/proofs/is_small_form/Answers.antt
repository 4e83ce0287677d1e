-- `norm_kinds::is_small_form` meets its contract.
use mathlib.Core.Path.{ap, ◌∙◌}
use mathlib.Core.Bool.{not}
use Rattle.num_whole.specs.Tests.{same}
use Rattle.num_whole.proofs.Cases.{by_not_same}
use Rattle.norm_kinds.specs.Kinds.{is_small_form}
use Rattle.norm_kinds.proofs.is_small_form.Goals as goal

pub returns : goal.returns
unfolding is_small_form
returns c = by_not_same _ _ ∙ ap (λ n. not (same n 0)) c.read_u32.ensures

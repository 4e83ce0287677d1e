-- `norm_walk::first_beyond` meets its contract: the right sides, then the totals.
use mathlib.Core.Path.{sym, ap, ◌∙◌}
use Rattle.norm_walk.proofs.Wheres.{beyond_right, beyond_totals}
use Rattle.num_packed.specs.Found.{told_walked}
use Rattle.norm_walk.proofs.first_beyond.Goals as goal

pub returns-in-Some : goal.returns-in-Some
returns-in-Some c = beyond_right _ _ _ _ _ _ _ c.bound_of-bound.ensures.0 _ (sym c.first_side.ensures ∙ ap told_walked c.in-Some.is)

pub returns-in-None : goal.returns-in-None
returns-in-None c =
    c.judge_totals.ensures ∙ beyond_totals _ _ _ _ _ _ _ c.bound_of-bound.ensures.0 (sym c.first_side.ensures ∙ ap told_walked c.in-None.is)

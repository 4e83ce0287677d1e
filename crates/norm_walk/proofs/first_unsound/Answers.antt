-- `norm_walk::first_unsound` meets its contract: the matrix sums, then what follows them.
use mathlib.Core.Path.{sym, ap, ◌∙◌}
use Rattle.norm_walk.proofs.Wheres.{unsound_matrix, unsound_beyond}
use Rattle.num_packed.specs.Found.{told_walked}
use Rattle.norm_walk.proofs.first_unsound.Goals as goal

pub returns-in-Some : goal.returns-in-Some
returns-in-Some c =
    let found = sym c.first_entry.ensures ∙ ap told_walked c.in-Some.is in
    unsound_matrix _ _ _ _ _ _ _ _ c.read_u64-square.result _ c.read_u64-accepted.ensures c.read_u64-square.ensures c.bound_of-bound.ensures.0 _ found

pub returns-in-None : goal.returns-in-None
returns-in-None c =
    let none = sym c.first_entry.ensures ∙ ap told_walked c.in-None.is in
    c.first_beyond.ensures ∙ unsound_beyond _ _ _ _ _ _ _ _ _ _ c.read_u64-accepted.ensures c.read_u64-square.ensures c.bound_of-bound.ensures.0 none

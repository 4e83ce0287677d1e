-- `take_state::matrix_sound` meets its contract: what the walk over the sums finds decides.
use Rattle.std.proofs.Common.{rules, ◌≡◌, ◌∙◌}
use lib.IntN.{pos}
use mir.Syntax.{w64}
use mir.Val.{to_z, of_z}
use mir.ValLaws.{to_z-of_z}
use Rattle.take_state.specs.State.{matrix_top}
use Rattle.num_packed.proofs.Tests.{not_below}
use Rattle.take_state.proofs.Judged.{matrix_found}
use Rattle.take_state.proofs.matrix_sound.Goals as goal

pub first_unsound-requires : goal.first_unsound-requires
first_unsound-requires c =
    let bound : to_z w64 (of_z w64 c.bound_of.result) ≡ pos (matrix_top c.args.n) = to_z-of_z w64 c.bound_of.result (search rules) ∙ c.bound_of.ensures in
    record {
      p_le_labels_most = search rules;
      pos_bound = rw bound (not_below _);
    }

pub returns : goal.returns
returns c =
    let bound : to_z w64 (of_z w64 c.bound_of.result) ≡ pos (matrix_top c.args.n) = to_z-of_z w64 c.bound_of.result (search rules) ∙ c.bound_of.ensures in
    matrix_found _ _ _ _ _ (rw bound at c.first_unsound.ensures) c.is_none.ensures

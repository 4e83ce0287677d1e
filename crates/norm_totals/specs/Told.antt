-- For the proofs of the code alone: no public promise and no law cites this, and an auditor may skip it.
-- What a search for the first unsound sum answers.
use Rattle.std.specs.Prelude.{Option, None, Some}
use Rattle.norm_system.specs.System.{Where, nowhere, in_matrix, in_rights, in_accepted, in_square}
use Rattle.norm_totals.specs.declared.Unsound.{Unsound}
use Rattle.norm_totals.specs.declared.Unsound.TheVariants.{Matrix, Right, Accepted, Square}

abbrev pub told_where : Option Unsound → Where
told_where None = nowhere
told_where (Some (Matrix k)) = in_matrix k
told_where (Some (Right k)) = in_rights k
told_where (Some Accepted) = in_accepted
told_where (Some Square) = in_square

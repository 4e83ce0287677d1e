-- `list_lines::put_parameter` meets its contract, piece by piece.
use mathlib.Core.Path.{ap}
use mathlib.Core.Bool.{not}
use mir.Syntax.{w64}
use mir.ValLaws.{to_z-of_z}
use Rattle.num_packed.proofs.Tests.{zero_bits}
use Rattle.list_lines.proofs.Laws.{parameter_laid}
use Rattle.list_lines.proofs.put_parameter.Goals as goal

pub returns : goal.returns
returns c =
    let a = c.args in
    let f = c.ranges in
    parameter_laid _ _ _ _ a.diagonal a.right _ (ap not (zero_bits a.diagonal f.diagonal)) (to_z-of_z w64 a.diagonal f.diagonal) (to_z-of_z w64 a.right f.right) c.count.ensures.0
    c.put_label-a.ensures c.put_seen-b.ensures c.put_sums.ensures

-- `wheloruka::whl_double_of` meets its contract: the double, or the refusal.
use mathlib.Core.Path.{ap, ◌∙◌}
use mir.Syntax.{w64}
use mir.ValLaws.{to_z-of_z}
use Rattle.call_rooms.specs.Result.{one}
use Rattle.unit_convert.specs.Units.{double_of}
use Rattle.wheloruka.specs.Numbers.{double_values}
use Rattle.wheloruka.proofs.Numbers.{as_told}
use Rattle.wheloruka.proofs.whl_double_of.Goals as goal

pub returns : goal.returns
unfolding double_values
returns c =
    let got = as_told one (c.double_of_unit.ensures ∙ ap (double_of c.args.kind) (to_z-of_z w64 c.args.unit c.ranges.unit)) _ (c.give_told.ensures.value, c.give_told.ensures.left) in record {
      value = got.0;
      left = got.1;
    }

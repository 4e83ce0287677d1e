-- `unit_turn::unit_in` meets its contract: the limits are handed on as words.
use mathlib.Core.Path.{ap₂, ◌∙◌}
use mir.Syntax.{w64}
use mir.Facts.{to_z-of_z}
use Rattle.num_whole.proofs.Ints.{within_fits}
use Rattle.unit_nearest.specs.Doubles.{unit_within}
use Rattle.unit_turn.proofs.unit_in.Goals as goal

pub returns : goal.returns
returns c =
    let low = to_z-of_z (within_fits w64 c.args.row.low c.requires.low tt) in
    let high = to_z-of_z (within_fits w64 c.args.row.high c.requires.high tt) in
    c.unit_within.ensures ∙ ap₂ (λ a b. unit_within c.args.row.k a b c.args.x) low high

-- `take_tally::is_seen` meets its contract.
use mathlib.Core.Path.{ap, ◌∙◌}
use mathlib.Core.Bool.{not}
use native.Mathlib.Omega.{arith}
use lib.IntN.{pos}
use lib.ListN.{get_or}
use Rattle.num_packed.specs.Sound.{is_zero}
use Rattle.num_packed.proofs.Places.{tri_next}
use Rattle.num_packed.proofs.Tests.{zero_bits}
use borrow.Author.Rules.{rules}
use Rattle.take_tally.proofs.is_seen.Goals as goal

pub offset_bounds-matrix-place : goal.offset_bounds-matrix-place
offset_bounds-matrix-place c = omega (arith, tri_next c.args.i)

pub bounds-matrix-place : goal.bounds-matrix-place
bounds-matrix-place c = omega (arith, c.place.ensures, tri_next c.args.i)

pub returns : goal.returns
returns c =
    let m = c.args.matrix.now in
    ap not (zero_bits (get_or m c.place.result (pos 0)) (search rules) ∙ ap (λ k. is_zero (get_or m k (pos 0))) c.place.ensures)

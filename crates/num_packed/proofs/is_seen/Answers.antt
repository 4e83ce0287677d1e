-- `num_packed::is_seen` meets its contract.
use mathlib.Core.Path.{ap, ◌∙◌}
use native.Mathlib.Omega.{arith}
use lib.IntN.{pos}
use lib.Signed.{lt_z}
use lib.ListN.{get_or}
use mir.Syntax.{w64}
use mir.ValLaws.{to_z-of_z}
use borrow.Author.Rules.{rules}
use Rattle.num_packed.specs.Plain.{seen_at}
use Rattle.num_packed.proofs.Places.{tri_next}
use Rattle.num_packed.proofs.is_seen.Goals as goal

pub offset_bounds-s-place : goal.offset_bounds-s-place
offset_bounds-s-place c = omega (arith, tri_next c.args.i)

pub bounds-s-place : goal.bounds-s-place
bounds-s-place c = omega (arith, tri_next c.args.i)

pub returns : goal.returns
unfolding seen_at
returns c =
    ap (lt_z (pos 0)) (to_z-of_z w64 (get_or c.args.s.now c.place.result (pos 0)) (search rules))
    ∙ ap (λ k. lt_z (pos 0) (get_or c.args.s.now k (pos 0))) c.place.ensures

-- `norm_sum::is_silent_at` meets its contract.
use native.Mathlib.Omega.{arith}
use mathlib.Core.Path.{ap, ◌∙◌}
use Rattle.num_packed.specs.Sound.{is_zero}
use Rattle.num_packed.proofs.Places.{tri_next}
use Rattle.norm_sum.proofs.Entries.{entry_read}
use Rattle.norm_sum.proofs.is_silent_at.Goals as goal

pub sum_at-requires : goal.sum_at-requires
sum_at-requires c = omega (arith, tri_next c.args.j, c.place.ensures)

pub returns : goal.returns
returns c =
    let a = c.args in
    λ n h. c.is_zero.ensures ∙ ap is_zero (entry_read _ _ n _ _ (record { sfits = c.sum_at.type_inv }) c.sum_at.ensures _ _ c.place.ensures (omega (arith, tri_next a.j)))

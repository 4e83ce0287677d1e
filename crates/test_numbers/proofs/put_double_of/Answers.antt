-- The double of a unit is finite, so its bits can be read.
use Rattle.std.proofs.Common.{not, T, sym, ap, ◌∙◌}
use Rattle.refusal.specs.Told.{told}
use lib.Ieee.{Float, nan, inf, fin, is_nan}
use lib.Ieee.Scale.{finite}
use Rattle.unit_convert.proofs.Trips.{back}
use Rattle.test_numbers.proofs.put_double_of.Goals as goal

a_number : (x : Float) → T (finite x) → T (not (is_nan x))
unfolding is_nan
a_number nan t = t
a_number (inf s) t = tt
a_number (fin s m e) t = tt

pub float_to_bits-x : goal.float_to_bits-x
float_to_bits-x g c =
    let d = c.double_of_unit in
    let x = c.in-Ok in
    a_number x.x (back _ _ x.x (sym d.ensures ∙ ap told x.is)).exact.number

-- "15, observed or computed not finite; 16, either one's q out of its limits": the refusal of a double that has no unit.
use Rattle.refusal.specs.declared.Refusal.{Refusal}
use Rattle.refusal.specs.declared.Refusal.TheVariants as Refusals
use Rattle.unit_nearest.specs.declared.NoUnit.{NoUnit}
use Rattle.unit_nearest.specs.declared.NoUnit.TheVariants.{NotFinite, OutOfLimits}

abbrev pub refusal_of : NoUnit → Refusal
refusal_of NotFinite = Refusals.NotFinite
refusal_of OutOfLimits = Refusals.UnitLimits

-- For the proofs of the code alone: no public promise and no law cites this, and an auditor may skip it.
-- What the steps from a double to a unit hand each other.
use Rattle.std.specs.Prelude.{ℕ, ◌*◌, ◌^◌, Bool, ℤ}
use Rattle.std.specs.Float.Ieee.Nearest.{closest}
use Rattle.num_whole.specs.Answer.{Answered}
use Rattle.unit_nearest.specs.Doubles.{signed, within, negative, field_of, fraction_of, mant}
use Rattle.unit_nearest.specs.declared.Fields.{Fields}

-- the three fields of a pattern
abbrev pub fields_of : ℕ → Fields
fields_of p = record { negative = negative p; exponent = field_of p; fraction = fraction_of p }

-- the unit nearest to a / b with a sign
abbrev pub ratio_unit : ℤ → ℤ → Bool → ℕ → ℕ → Answered ℤ
ratio_unit low high s a b = within low high (signed s (closest a b))

-- the unit of a finite double, by its fields
abbrev pub fields_unit : ℕ → ℤ → ℤ → Fields → Answered ℤ
fields_unit k low high f = ratio_unit low high f.negative (mant f.exponent f.fraction * 2 ^ k) (2 ^ 1074)

-- Document 01, 'Units': a measurement of each type with its two doubles, and its reading, the type's number with them.
use Rattle.std.specs.Prelude.{ℕ, Float, Result, Ok, Err}
use Rattle.num_whole.specs.Tests.{pick}
use Rattle.num_whole.specs.Answer.{Answered, given, refused}
use Rattle.refusal.specs.Number.{number_of}
use Rattle.refusal.specs.declared.Refusal.{Refusal}
use Rattle.unit_types.specs.Types.{is_type}
use Rattle.unit_measure.specs.declared.Reading.{Reading}
use Rattle.unit_measure.specs.declared.Measurement.{Measurement}
use Rattle.unit_measure.specs.declared.Measurement.TheVariants.{Range, RangeRate, CosineL, CosineM, AngleX, AngleY, Azimuth, Elevation, RightAscension, Declination}

-- "each kind of measurement carries its two doubles, observed and computed"
abbrev pub reading : ℕ → Float → Float → Reading
reading t o c = record { kind = t; observed = o; computed = c }

abbrev pub reading_of : Measurement → Reading
reading_of (Range o c) = reading 1 o c
reading_of (RangeRate o c) = reading 2 o c
reading_of (CosineL o c) = reading 3 o c
reading_of (CosineM o c) = reading 4 o c
reading_of (AngleX o c) = reading 5 o c
reading_of (AngleY o c) = reading 6 o c
reading_of (Azimuth o c) = reading 7 o c
reading_of (Elevation o c) = reading 8 o c
reading_of (RightAscension o c) = reading 9 o c
reading_of (Declination o c) = reading 10 o c

-- "refused types never become a case"
unfoldable pub measured_as : ℕ → Float → Float → Answered Reading
measured_as t o c = pick (is_type t) (given (reading t o c)) (refused 11)

-- what the answer says
abbrev pub told_measurement : Result Measurement Refusal → Answered Reading
told_measurement (Ok m) = given (reading_of m)
told_measurement (Err r) = refused (number_of r)

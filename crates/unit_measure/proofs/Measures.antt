-- "Refused types never become a case": a measurement's type is one of the ten, and its reading fixes it.
-- Assumes nothing.
use mathlib.Core.Path.{◌≡◌, refl, sym, ap, ◌∙◌}
use mathlib.Core.Bool.{true}
use Rattle.num_whole.specs.Answer.{given}
use Rattle.num_whole.specs.Tests.{up_to, same, pick, both, between}
use Rattle.num_whole.proofs.Cases.{yes}
use Rattle.unit_types.specs.Types.{is_type}
use Rattle.unit_measure.specs.Measures.{reading_of, measured_as}
use Rattle.unit_measure.specs.declared.Reading.{Reading}
use Rattle.unit_measure.specs.declared.Measurement.{Measurement}
use Rattle.unit_measure.specs.declared.Measurement.TheVariants.{Range, RangeRate, CosineL, CosineM, AngleX, AngleY, Azimuth, Elevation, RightAscension, Declination}

pub a_type : (m : Measurement) → is_type (reading_of m).kind ≡ true
unfolding is_type between both up_to
a_type (Range o c) = refl
a_type (RangeRate o c) = refl
a_type (CosineL o c) = refl
a_type (CosineM o c) = refl
a_type (AngleX o c) = refl
a_type (AngleY o c) = refl
a_type (Azimuth o c) = refl
a_type (Elevation o c) = refl
a_type (RightAscension o c) = refl
a_type (Declination o c) = refl

pub made_again : (m : Measurement) → measured_as (reading_of m).kind (reading_of m).observed (reading_of m).computed ≡ given (reading_of m)
unfolding measured_as
made_again m = sym (yes (is_type (reading_of m).kind) _ _ (a_type m) refl)

-- the measurement of a reading; of a type that is none of the ten it does not matter which
measurement_of : Reading → Measurement
measurement_of r =
    let record { kind = t; observed = o; computed = c } = r in
    pick (same t 1) (Range o c)
    (pick (same t 2) (RangeRate o c)
    (pick (same t 3) (CosineL o c)
    (pick (same t 4) (CosineM o c)
    (pick (same t 5) (AngleX o c)
    (pick (same t 6) (AngleY o c)
    (pick (same t 7) (Azimuth o c)
    (pick (same t 8) (Elevation o c)
    (pick (same t 9) (RightAscension o c)
    (Declination o c)))))))))

back : (m : Measurement) → measurement_of (reading_of m) ≡ m
unfolding same pick measurement_of
back (Range o c) = refl
back (RangeRate o c) = refl
back (CosineL o c) = refl
back (CosineM o c) = refl
back (AngleX o c) = refl
back (AngleY o c) = refl
back (Azimuth o c) = refl
back (Elevation o c) = refl
back (RightAscension o c) = refl
back (Declination o c) = refl

-- so what `measured` says of a reading fixes the case, its two doubles with it
pub one_reading : (m n : Measurement) → reading_of m ≡ reading_of n → m ≡ n
one_reading m n e = sym (back m) ∙ ap measurement_of e ∙ back n

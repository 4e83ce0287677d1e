-- `unit_measure::parts_of` meets its contract: in each arm the case is known.
use mathlib.Core.Path.{sym, ap, ◌∙◌}
use Rattle.unit_measure.specs.Measures.{reading_of}
use Rattle.unit_measure.proofs.parts_of.Goals as goal

pub returns-in-Range : goal.returns-in-Range
returns-in-Range c = c.reading_of.ensures ∙ sym (ap reading_of c.in-Range.is)

pub returns-in-RangeRate : goal.returns-in-RangeRate
returns-in-RangeRate c = c.reading_of-in-RangeRate.ensures ∙ sym (ap reading_of c.in-RangeRate.is)

pub returns-in-CosineL : goal.returns-in-CosineL
returns-in-CosineL c = c.reading_of-in-CosineL.ensures ∙ sym (ap reading_of c.in-CosineL.is)

pub returns-in-CosineM : goal.returns-in-CosineM
returns-in-CosineM c = c.reading_of-in-CosineM.ensures ∙ sym (ap reading_of c.in-CosineM.is)

pub returns-in-AngleX : goal.returns-in-AngleX
returns-in-AngleX c = c.reading_of-in-AngleX.ensures ∙ sym (ap reading_of c.in-AngleX.is)

pub returns-in-AngleY : goal.returns-in-AngleY
returns-in-AngleY c = c.reading_of-in-AngleY.ensures ∙ sym (ap reading_of c.in-AngleY.is)

pub returns-in-Azimuth : goal.returns-in-Azimuth
returns-in-Azimuth c = c.reading_of-in-Azimuth.ensures ∙ sym (ap reading_of c.in-Azimuth.is)

pub returns-in-Elevation : goal.returns-in-Elevation
returns-in-Elevation c = c.reading_of-in-Elevation.ensures ∙ sym (ap reading_of c.in-Elevation.is)

pub returns-in-RightAscension : goal.returns-in-RightAscension
returns-in-RightAscension c = c.reading_of-in-RightAscension.ensures ∙ sym (ap reading_of c.in-RightAscension.is)

pub returns-in-Declination : goal.returns-in-Declination
returns-in-Declination c = c.reading_of-in-Declination.ensures ∙ sym (ap reading_of c.in-Declination.is)

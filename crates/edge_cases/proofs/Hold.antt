-- Every case of the list holds, by computation.
-- Assumes nothing.
use mathlib.Core.Path.{refl}
use lib.Ieee.{of_bits, round}
use Rattle.num_whole.specs.Tests.{less, up_to, same, pick, both, either, between}
use Rattle.days.specs.Calendar.{leap, month_length, days_of_months, days_of_years, is_date, day_number, day_of_date}
use Rattle.unit_nearest.specs.Doubles.{size, nearest_unit, unit_within, quotient}
use Rattle.unit_types.specs.Types.{is_type, row_of_type}
use Rattle.unit_turn.specs.Turning.{is_turn, on_circle, brought, apart_by}
use Rattle.unit_convert.specs.Units.{turned, unit_of}
use Rattle.unit_residual.specs.Residuals.{fits_row, residual_by, residual_of}
use Rattle.byte_words.specs.Words.{word, bytes_of}
use Rattle.refusal.specs.First.{when, unless, number_in, first, value_or}
use Rattle.arc_heading.specs.Judge.{find_from}
use Rattle.days_leap.specs.Leap.{stands_in, days_before, listed_dates, numbers_of_dates, listed_days, is_listed, listed_before, day_length, last_ms, day_start}
use Rattle.take_rules.specs.Rules.{sigma_ok, weight_of, clock_ok, time_of, in_window, passes_edit}
use Rattle.arc_record.specs.Record.{record_in}
use Rattle.take_laws.specs.Taking.{station_in, station_row, moment_of, stamp, type_column, residual_in, residual, length_tests, record_tests, station_tests, judged_by}
use Rattle.edge_cases.specs.Edges.{edges, AllHold}

pub hold : AllHold edges
unfolding less up_to same pick both either between leap month_length days_of_months days_of_years is_date day_number day_of_date of_bits round size nearest_unit unit_within quotient is_type row_of_type is_turn on_circle turned unit_of brought apart_by fits_row residual_by residual_of word bytes_of when unless number_in first value_or find_from sigma_ok weight_of stands_in days_before listed_dates numbers_of_dates listed_days is_listed listed_before day_length last_ms day_start clock_ok time_of in_window passes_edit record_in station_in station_row moment_of stamp type_column residual_in residual length_tests record_tests station_tests judged_by
hold = (refl, (refl, (refl, (refl, (refl, (refl, (refl, (refl, (refl, (refl, (refl, (refl, (refl, (refl, (refl, (refl, (refl, (refl, (refl, (refl, (refl, (refl, (refl, (refl, (refl, (refl, (refl, (refl, tt))))))))))))))))))))))))))))

-- Edge 7, by computation.
-- Assumes nothing.
use mathlib.Core.Path.{refl}
use lib.Count.{ones_in, ones}
use lib.Ieee.{of_bits, round}
use Rattle.num_whole.specs.Tests.{less, up_to, same, pick, both, either, between}
use Rattle.num_whole.specs.Sums.{plus}
use Rattle.refusal.specs.First.{when, unless, number_in, first, value_or}
use Rattle.byte_words.specs.Words.{word, bytes_of, signed_word}
use Rattle.byte_section.specs.Section.{and_then, count_at, judged_at, records, section_at, closed}
use Rattle.arc_limits.specs.Limits.{window_ok, settings_ok, index_ok, label_ok, label_key, correction_ok, station_ok, station_key}
use Rattle.arc_heading.specs.Judge.{labels_of, stations_of, find_from, numbers_of}
use Rattle.arc_kinds.specs.Kinds.{settings_at, label_at, station_at, station_at_ok}
use Rattle.arc_read.specs.Arc.{heading_of, read_arc}
use Rattle.unit_nearest.specs.Doubles.{size, nearest_unit, unit_within}
use Rattle.unit_types.specs.Types.{is_type, row_of_type}
use Rattle.unit_turn.specs.Turning.{is_turn, on_circle, brought, apart_by}
use Rattle.unit_convert.specs.Units.{turned, unit_of}
use Rattle.unit_residual.specs.Residuals.{fits_row, residual_by, residual_of}
use Rattle.days.specs.Calendar.{leap, month_length, days_of_months, days_of_years, day_number}
use Rattle.days_leap.specs.Leap.{stands_in, days_before, listed_dates, numbers_of_dates, listed_days, is_listed, listed_before, day_length, last_ms, day_start}
use Rattle.take_rules.specs.Rules.{sigma_ok, weight_of, clock_ok, time_of, in_window, passes_edit}
use Rattle.num_packed.specs.Triangle.{columns, tri}
use Rattle.arc_record.specs.Record.{record_in, partials_from, partials_in}
use Rattle.take_marks.specs.Marks.{with_mark, mark_count, marks_with}
use Rattle.take_tally.specs.Tally.{tally_with}
use Rattle.take_state.specs.State.{seen_in}
use Rattle.take_laws.specs.Machine.{run, answers}
use Rattle.take_laws.specs.Mix.{keep}
use Rattle.take_laws.specs.Taking.{corrections_of, station_in, station_row, moment_of, stamp, type_column, residual_in, residual, scaled, weight_in, length_tests, record_tests, station_tests, judged_by, record_number, matrix_terms, right_terms, square_term, book, record_answer, record_step, cut, whole_records, records_in}
use Rattle.decimal.specs.Decimal.{digits_of, decimal, signed_decimal}
use Rattle.list_lines.specs.Lines.{one_line, two_line, label_text, sums_text, parameter_line, parameter_lines, tally_of, tallies_from, tally_line, tally_lines, refused_line, arc_lines}
use Rattle.list_run.specs.Runs.{no_sums, no_sides, told_of, state_after, run_lines, listing}
use Rattle.edge_listing.specs.Seven.{head_seven, record_seven, file_seven, silent_seven, text_seven, silent_text, empty_text, Seven}

pub seven : Seven
unfolding ones_in ones of_bits round head_seven record_seven file_seven silent_seven text_seven silent_text empty_text less up_to same pick both either between plus when unless number_in first value_or word bytes_of signed_word and_then count_at judged_at records section_at closed window_ok settings_ok index_ok label_ok label_key correction_ok station_ok station_key labels_of stations_of find_from numbers_of settings_at label_at station_at station_at_ok heading_of read_arc size nearest_unit unit_within is_type row_of_type is_turn on_circle turned unit_of brought apart_by fits_row residual_by residual_of sigma_ok weight_of leap month_length days_of_months days_of_years day_number stands_in days_before listed_dates numbers_of_dates listed_days is_listed listed_before day_length last_ms day_start clock_ok time_of in_window passes_edit columns tri record_in partials_from partials_in with_mark mark_count marks_with tally_with seen_in run answers keep corrections_of station_in station_row moment_of stamp type_column residual_in residual scaled weight_in length_tests record_tests station_tests judged_by record_number matrix_terms right_terms square_term book record_answer record_step cut whole_records records_in digits_of decimal signed_decimal one_line two_line label_text sums_text parameter_line parameter_lines tally_of tallies_from tally_line tally_lines refused_line arc_lines no_sums no_sides told_of state_after run_lines listing
seven = record { with_records = refl; without = refl; empty = refl }

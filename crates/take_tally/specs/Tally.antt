-- Document 01, 'Taking a record': "the square sum, a count for each station and a table of sixteen rows of ten last times, 0 for none."; 02,
-- #105: "The arc's state gains this table", a word of marks for each parameter. The tally of these, the empty one, and which tallies are
-- sound (6), with their sums' diagonals too.
use Rattle.std.specs.Prelude.{ℕ, ◌+◌, ◌*◌, ◌^◌, List, [], Bool, not, get_or, set, replicate, ℤ}
use Rattle.num_limits.specs.Capacities.{stations_most, types_most, parameters_most}
use Rattle.num_whole.specs.Tests.{less, up_to, same, pick, both, either, below}
use Rattle.num_whole.specs.Lists.{all}
use Rattle.num_packed.specs.Sound.{entry, is_zero}
use Rattle.take_marks.specs.Marks.{marks_with, marks_heard}
use Rattle.take_counts.specs.Counts.{sum_of, counts_sound}
use Rattle.take_tally.specs.declared.Row.{Row}
use Rattle.take_tally.specs.declared.Tally.{Tally}

-- what stands past the last row
abbrev pub no_row : Row
no_row = record { times = [] }

abbrev pub count_of : Tally → ℕ → ℕ
count_of t i = get_or t.counts i 0

abbrev pub last_times : Tally → ℕ → Row
last_times t i = get_or t.rows i no_row

abbrev pub row_with : Row → ℕ → ℕ → Row
row_with w k time = record { times = set w.times k time }

-- the marks of parameter i
abbrev pub mark_of : Tally → ℕ → ℕ
mark_of t i = get_or t.marks i 0

-- one record more of row i and column k with partials a: its square term added, its count one more, its time kept, its marks set
unfoldable pub tally_with : Tally → ℕ → ℕ → ℕ → ℕ → List ℤ → Tally
tally_with t i k time q a =
    record {
      square = t.square + q;
      counts = set t.counts i (count_of t i + 1);
      rows = set t.rows i (row_with (last_times t i) k time);
      marks = marks_with i a t.marks;
    }

-- the empty tally
abbrev pub empty_tally : Tally
empty_tally = record { square = 0; counts = replicate stations_most 0; rows = replicate stations_most (record { times = replicate types_most 0 }); marks = replicate parameters_most 0 }

-- ---- sound tallies
-- n of a tally
abbrev pub accepted : Tally → ℕ
accepted t = sum_of t.counts

-- 02, #101: "The square sum's bounds grow to n·2^40"
abbrev pub square_unit : ℕ
square_unit = 2 ^ 40

abbrev pub square_top : ℕ → ℕ
square_top n = n * square_unit

-- "anything but 0 in a slot past the parameters or stations": the table has slots past the stations (docs/DECISIONS.md D21)
unfoldable pub rows_sound : ℕ → List Row → Bool
rows_sound stations rows = below (λ i. either (less i stations) (all (λ t. same t 0) (get_or rows i no_row).times)) stations_most

unfoldable pub tally_sound : ℕ → Tally → Bool
tally_sound stations t =
    both (counts_sound stations t.counts) (both (rows_sound stations t.rows) (up_to t.square (square_top (accepted t))))

-- ---- marks and sums
-- 02, #105: "a state whose marks disagree with its diagonal, or mark a station with count 0 or one not listed, is refused with 6"; a parameter
-- has no mark exactly where its diagonal is 0. "anything but 0 in a slot past the parameters": there is no parameter i
unfoldable pub mark_sound : ℕ → List ℤ → Tally → ℕ → Bool
mark_sound p m t i =
    pick (less i p)
    (pick (is_zero (entry m i i)) (same (mark_of t i) 0) (both (not (same (mark_of t i) 0)) (marks_heard t.counts (mark_of t i))))
    (same (mark_of t i) 0)

unfoldable pub marks_sound : ℕ → List ℤ → Tally → Bool
marks_sound p m t = below (mark_sound p m t) parameters_most

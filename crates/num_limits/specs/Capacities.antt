-- Documents 01 and 02: how many of each thing there may be. Each number stands here once, by the paper's words; `src/lib.rt` has them for code.
use Rattle.std.specs.Prelude.{ℕ, ◌+◌, ◌*◌}

-- ---- the arc file
-- "Parameters, 1 to 50"
abbrev pub parameters_most : ℕ
parameters_most = 50

-- "matrix sums (P(P+1)/2": those of so many parameters
abbrev pub arc_sums_most : ℕ
arc_sums_most = 1275

-- "Stations, 0 to 16"
abbrev pub stations_most : ℕ
stations_most = 16

-- "Records, 0 to 65,535"
abbrev pub records_most : ℕ
records_most = 65535

-- "each 32 + 2P bytes for P parameters"
abbrev pub record_fixed : ℕ
record_fixed = 32

abbrev pub partial_size : ℕ
partial_size = 2

-- "arc u32 (1 to 999,999)"
abbrev pub arc_most : ℕ
arc_most = 999999

-- "2099 Dec 31 is 54,787; nothing outside"; "First day plus days is at most 54,788"
abbrev pub last_day : ℕ
last_day = 54787

abbrev pub day_after_last : ℕ
day_after_last = last_day + 1

-- ---- the state
-- "s not 1 to 256": 12
abbrev pub sigma_most : ℕ
sigma_most = 256

-- "Weight w = 65,536 divided by s²": that of s = 1, the greatest
abbrev pub weight_top : ℕ
weight_top = 65536

-- "a table of sixteen rows of ten last times"
abbrev pub types_most : ℕ
types_most = 10

-- "station already has 256"
abbrev pub count_most : ℕ
count_most = 256

-- what the counts of all stations come to at the most
abbrev pub accepted_most : ℕ
accepted_most = stations_most * count_most

-- ---- the normal file
-- "arcs (1 to 16"
abbrev pub arcs_most : ℕ
arcs_most = 16

-- "parameters (1 to 500"
abbrev pub labels_most : ℕ
labels_most = 500

-- "matrix sums (P(P+1)/2": those of so many parameters
abbrev pub sums_most : ℕ
sums_most = 125250

-- Document 01: the length of an arc file by its counts.
use Rattle.std.specs.Prelude.{ℕ, ◌+◌, ◌*◌}

-- four counts of 4 bytes, the settings' 12, 16 a label, 8 a station, and the run
abbrev pub needed_for : ℕ → ℕ → ℕ → ℕ
needed_for p t n = 28 + 16 * p + 8 * t + n

-- The lengths of the rooms that a listing is made with; `src/lib.rt` has them for code.
use Rattle.std.specs.Prelude.{ℕ}

-- 02, #102: "files of all lengths with a 64 KiB buffer": the bytes that a part may have
abbrev pub part_most : ℕ
part_most = 65536

-- at least as many answers as such a part can have: 34 bytes a record at least, with 1,087 kept
abbrev pub told_most : ℕ
told_most = 2048

-- no listing is longer: `listing-length` (list/proofs/Listings.antt)
abbrev pub text_most : ℕ
text_most = 6646

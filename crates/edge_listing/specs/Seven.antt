-- Document 01, 'At the edges' 7: its arc file, with and without its records, and the text that the arc program prints of each, byte by byte.
use Rattle.std.specs.Prelude.{ℕ, ◌+◌, ◌*◌, ◌^◌, ◌≡◌, List, [], ◌++◌}
use Rattle.byte_words.specs.Words.{bytes_of}
use Rattle.decimal.specs.Text.{ascii}
use Rattle.list_run.specs.Runs.{listing}

-- "Arc 7, first day 8,036, days 1, K 30; parameter kind 3, index 0, prior weight 5, estimate 0; station 12, correction 0"; so many records
unfoldable pub head_seven : ℕ → List ℕ
head_seven n =
    bytes_of 4 1 ++ (bytes_of 4 7 ++ (bytes_of 4 8036 ++ (bytes_of 2 1 ++ (bytes_of 2 30
    ++ (bytes_of 4 1 ++ (bytes_of 2 3 ++ (bytes_of 2 0 ++ (bytes_of 4 5 ++ (bytes_of 8 0
    ++ (bytes_of 4 1 ++ (bytes_of 2 12 ++ (bytes_of 2 0 ++ (bytes_of 4 0
    ++ bytes_of 4 n)))))))))))))

-- the pattern of the double 512 + f/8
abbrev pub eighths : ℕ → ℕ
eighths f = 1032 * 2 ^ 52 + f * 2 ^ 40

-- "records of type 1, s 2, day 8,036, partial 3, computed 1000.25": its ms, and its observed double
unfoldable pub record_seven : ℕ → ℕ → List ℕ
record_seven ms observed =
    bytes_of 2 12 ++ (bytes_of 2 2 ++ (bytes_of 4 1 ++ (bytes_of 4 8036 ++ (bytes_of 4 ms ++ (bytes_of 8 observed ++ (bytes_of 8 (eighths 3906) ++ bytes_of 2 3))))))

-- "at 0 ms observed 1000.5, at 1,000 ms observed 1001.5"
unfoldable pub file_seven : List ℕ
file_seven = head_seven 2 ++ (record_seven 0 (eighths 3908) ++ record_seven 1000 (eighths 3916))

-- the same file with no records
unfoldable pub silent_seven : List ℕ
silent_seven = head_seven 0

-- "It prints, whole:"; 02, #105: "The listing adds the number after the right side: `3 0 seen 147456 50331648 1`."
unfoldable pub text_seven : List ℕ
text_seven =
    ascii "arc 7\nparameters 1\n3 0 seen 147456 50331648 1\nrecords 2 accepted 1\n18 1\nsquare sum 17179869184\n"

-- "With no records, line 3 is `3 0 unseen 0 0`", with the number of stations behind it
unfoldable pub silent_text : List ℕ
silent_text =
    ascii "arc 7\nparameters 1\n3 0 unseen 0 0 0\nrecords 0 accepted 0\nsquare sum 0\n"

-- "A refused file prints only `refused N at PLACE`": no bytes at all end before the first count
unfoldable pub empty_text : List ℕ
empty_text = ascii "refused 1 at 0\n"

pub record Seven : Type 0 where
  pub with_records : listing file_seven ≡ text_seven
  pub without : listing silent_seven ≡ silent_text
  pub empty : listing [] ≡ empty_text

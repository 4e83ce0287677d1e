-- Document 01, 'Normal file': "Sections, each after its count: arcs ..; parameters ..; matrix sums ..; right sides ..; totals". The bytes of a
-- whole file, for readers and writers alike: of either form by what it stores, and of the old form, 01's, by its system.
use Rattle.std.specs.Prelude.{ℕ, List, [], ◌∷◌, ◌++◌, length}
use Rattle.byte_words.specs.Words.{bytes_of}
use Rattle.byte_section.specs.Section.{encoded}
use Rattle.norm_system.specs.System.{System}
use Rattle.norm_kinds.specs.Kinds.{arc_number_bytes, normal_label_bytes, Fielded, fielded_bytes, sum_bytes, totals_bytes}

-- a section's bytes, and what follows it
abbrev pub sectioned : {A : Type 0} → (A → List ℕ) → List A → List ℕ → List ℕ
sectioned bytes l rest = bytes_of 4 (length l) ++ (encoded bytes l ++ rest)

unfoldable pub normal_bytes : System → List ℕ
normal_bytes x =
    sectioned arc_number_bytes x.arcs
    (sectioned normal_label_bytes x.labels
    (sectioned sum_bytes x.matrix
    (sectioned sum_bytes x.rights
    (sectioned totals_bytes (record { accepted = x.accepted; square = x.square } ∷ []) []))))

-- a file of either form: its labels with their fields, and the system that it stores
unfoldable pub file_bytes : List Fielded → System → List ℕ
file_bytes l x =
    sectioned arc_number_bytes x.arcs
    (sectioned fielded_bytes l
    (sectioned sum_bytes x.matrix
    (sectioned sum_bytes x.rights
    (sectioned totals_bytes (record { accepted = x.accepted; square = x.square } ∷ []) []))))

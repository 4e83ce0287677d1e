-- For the proofs of the code alone: no public promise and no law cites this, and an auditor may skip it.
-- A normal file in a form, from another one's bytes: the place of each label among the labels whose sums are stored there, the labels that the
-- form stores, and their sums gathered from where they stand.
use Rattle.std.specs.Prelude.{ℕ, suc, ◌+◌, ◌*◌, List, [], ◌∷◌, Bool, ℤ, length, get_or}
use Rattle.num_whole.specs.Tests.{same, pick}
use Rattle.num_packed.specs.Sound.{is_zero}
use Rattle.norm_kinds.specs.Kinds.{Fielded, normal_label_at, fielded_bytes, arc_number_bytes, sum_bytes, totals_at, totals_bytes}
use Rattle.norm_kinds.specs.Bytes.{sectioned}
use Rattle.norm_heads.specs.Heads.{arcs_at}
use Rattle.norm_labels.specs.Table.{rows_of, columns_of}
use Rattle.norm_add.specs.Add.{held_at, column_at}
use Rattle.norm_add.specs.declared.Column.{Column}
use Rattle.norm_read.specs.declared.NormalRead.{NormalRead}

-- ---- places
-- of each label among those that are stored, n where its sums are not; q of them stand before
unfoldable pub seats_from : ℕ → ℕ → List Fielded → List ℕ
seats_from n q [] = []
seats_from n q (m ∷ l) = pick (same m.field 2) (n ∷ seats_from n q l) (q ∷ seats_from n (suc q) l)

-- those whose field, by a function of the place, is not 2
unfoldable pub kept_seats : (ℕ → ℕ) → List ℕ → List ℕ
kept_seats f [] = []
kept_seats f (k ∷ l) = pick (same (f k) 2) (kept_seats f l) (k ∷ kept_seats f l)

-- ---- from a triangle of n columns that stands at a place
-- the field of a label in a form, by its place among the columns: by its diagonal, 0 where it has none
unfoldable pub field_by_seat : Bool → List ℕ → ℕ → ℕ → ℕ → ℕ
field_by_seat small s start n k = pick small (pick (is_zero (held_at s (column_at start n k) k)) 2 1) 0

-- the ith label of those that stand at a place, with its field in a form
unfoldable pub fielded_by_seat : Bool → List ℕ → ℕ → ℕ → ℕ → List ℕ → ℕ → Fielded
fielded_by_seat small s labels start n w i =
    record { label = normal_label_at s (labels + 24 * i); field = field_by_seat small s start n (get_or w i 0) }

-- the sum at the places of two labels
unfoldable pub gathered_at : List ℕ → ℕ → ℕ → List ℕ → ℕ → ℕ → ℤ
gathered_at s start n u i j = held_at s (column_at start n (get_or u j 0)) (get_or u i 0)

-- the sum at the place of a label, of sums that stand one after the other
unfoldable pub side_gathered : List ℕ → Column → List ℕ → ℕ → ℤ
side_gathered s c u i = held_at s c (get_or u i 0)

-- ---- the file in three parts
unfoldable pub heads_gathered : Bool → List ℕ → NormalRead → List ℕ → List ℕ
heads_gathered small s r w =
    sectioned arc_number_bytes (arcs_at s r.arcs)
    (sectioned fielded_bytes (rows_of (fielded_by_seat small s (8 + 4 * r.arcs) r.matrix r.stored w) 0 (length w)) [])

unfoldable pub sums_gathered : List ℕ → NormalRead → List ℕ → List ℕ
sums_gathered s r u =
    sectioned sum_bytes (columns_of (gathered_at s r.matrix r.stored u) 0 (length u))
    (sectioned sum_bytes (rows_of (side_gathered s (record { base = r.rights; rows = r.stored }) u) 0 (length u)) [])

unfoldable pub totals_copied : List ℕ → NormalRead → List ℕ
totals_copied s r = sectioned totals_bytes (totals_at s r.totals ∷ []) []

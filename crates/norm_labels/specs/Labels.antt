-- A system by its labels, each named by its key, so that no place matters: what it has at a label and at two, and the system that has the same
-- at other labels. Document 01 adds "sums of like labels"; document 02 has files that store sums "only for seen" parameters (#106) and files
-- "without their rows, columns and right sides" (#111): both are a system on other labels.
use Rattle.std.specs.Prelude.{List, map, ℕ, ℤ, pos, length, get_or}
use Rattle.norm_system.specs.System.{System, key_of}
use Rattle.norm_system.specs.declared.NormalLabel.{NormalLabel}
use Rattle.norm_labels.specs.Seats.{seat}
use Rattle.norm_labels.specs.Table.{columns_of, sum_at}

-- the keys of its labels, in their order
unfoldable pub keys_of : System → List ℕ
keys_of x = map key_of x.labels

-- what stands past the last label
abbrev pub no_normal_label : NormalLabel
no_normal_label = record { kind = 0; index = 0; arc = 0; weight = 0; estimate = pos 0 }

-- the label of a key
unfoldable pub label_by_key : System → ℕ → NormalLabel
label_by_key x k = get_or x.labels (seat (keys_of x) k) no_normal_label

-- the matrix sum of two labels' keys, the row's first: 0 where the system has none (the triangle has none where the row follows the column)
unfoldable pub value : System → ℕ → ℕ → ℤ
value x k l = sum_at x.matrix (length x.labels) (seat (keys_of x) k) (seat (keys_of x) l)

-- the right side of a label's key, 0 where the system has none
unfoldable pub side : System → ℕ → ℤ
side x k = get_or x.rights (seat (keys_of x) k) (pos 0)

-- the packed triangle of a function of two labels, for the labels of these keys
unfoldable pub table : (ℕ → ℕ → ℤ) → List ℕ → List ℤ
table f keys = columns_of (λ i j. f (get_or keys i 0) (get_or keys j 0)) 0 (length keys)

-- ---- on other labels: at each two of them what it has there, 0 where it has none
unfoldable pub on_labels : List NormalLabel → System → System
on_labels labels x =
    record {
      arcs = x.arcs;
      labels = labels;
      matrix = table (value x) (map key_of labels);
      rights = map (side x) (map key_of labels);
      accepted = x.accepted;
      square = x.square;
    }

-- Document 01, 'Normal file': the four kinds of record of a normal file, as kinds of the generic section. Each has its bytes beside it. Document
-- 02, #106, gives the labels a second form.
use Rattle.std.specs.Prelude.{ℕ, ◌+◌, List, [], ◌∷◌, ◌++◌, map, Bool, true, not, ℤ}
use Rattle.std.specs.Int.{w64}
use Rattle.num_whole.specs.Tests.{same, pick, both, between}
use Rattle.byte_words.specs.Words.{word, bytes_of, signed_word, signed_bytes}
use Rattle.byte_section.specs.Section.{Kind}
use Rattle.norm_system.specs.System.{arc_ok, normal_label_ok, key_of}
use Rattle.norm_system.specs.declared.NormalLabel.{NormalLabel}

-- "arcs (.., u32, strictly ascending, 1 to 999,999)"
unfoldable pub arc_number_bytes : ℕ → List ℕ
arc_number_bytes a = bytes_of 4 a

abbrev pub arc_kind : Kind ℕ
arc_kind = record { size = 4; decode = word 4; fields_ok = λ s at. arc_ok (word 4 s at); key = λ a. a; after = λ a. a + 1 }

-- "parameters (.., 24 bytes: kind u16, index u16, arc u32, prior weight u32, zero u32, estimate i64; arc 0 for kinds 1 and 2, else a listed
-- arc; strictly ascending by kind, arc, index)"
unfoldable pub normal_label_at : List ℕ → ℕ → NormalLabel
normal_label_at s at =
    record {
      kind = word 2 s at;
      index = word 2 s (at + 2);
      arc = word 4 s (at + 4);
      weight = word 4 s (at + 8);
      estimate = signed_word w64 s (at + 16);
    }

unfoldable pub normal_label_bytes : NormalLabel → List ℕ
normal_label_bytes l =
    bytes_of 2 l.kind
    ++ (bytes_of 2 l.index ++ (bytes_of 4 l.arc ++ (bytes_of 4 l.weight ++ (bytes_of 4 0 ++ signed_bytes w64 l.estimate))))

-- ---- "zero u32" is a field in 02, #106: "A new form sets the zero field of a parameter to 1 if seen and 2 if not, and stores matrix sums and
-- right sides only for seen ones, in the old order; the counts follow. The old form has 0 there throughout."
-- a label with its field
pub record Fielded : Type 0 where
  pub label : NormalLabel
  pub field : ℕ

abbrev pub labels_in : List Fielded → List NormalLabel
labels_in l = map (λ m. m.label) l

abbrev pub fielded_key : Fielded → ℕ
fielded_key m = key_of m.label

unfoldable pub fielded_at : List ℕ → ℕ → Fielded
fielded_at s at = record { label = normal_label_at s at; field = word 4 s (at + 12) }

-- "a file mixing 0 with 1 or 2, or a field above 2: 4": the field in a file of either form
unfoldable pub field_ok : Bool → ℕ → Bool
field_ok small field = pick small (between 1 field 2) (same field 0)

unfoldable pub fielded_at_ok : Bool → List ℕ → List ℕ → ℕ → Bool
fielded_at_ok small arcs s at = both (field_ok small (word 4 s (at + 12))) (normal_label_ok arcs (normal_label_at s at))

unfoldable pub fielded_bytes : Fielded → List ℕ
fielded_bytes m =
    bytes_of 2 m.label.kind
    ++ (bytes_of 2 m.label.index
    ++ (bytes_of 4 m.label.arc ++ (bytes_of 4 m.label.weight ++ (bytes_of 4 m.field ++ signed_bytes w64 m.label.estimate))))

abbrev pub fielded_kind : Bool → List ℕ → Kind Fielded
fielded_kind small arcs =
    record { size = 24; decode = fielded_at; fields_ok = fielded_at_ok small arcs; key = fielded_key; after = λ m. fielded_key m + 1 }

-- the first parameter's field fixes the form: 0 is the old one (the section begins at a place with its count of four bytes)
unfoldable pub is_small_form : List ℕ → ℕ → Bool
is_small_form s at = not (same (word 4 s (at + 16)) 0)

-- the labels whose sums are stored: all in the old form, "only .. seen ones" in the small one
unfoldable pub stored_of : List Fielded → List NormalLabel
stored_of [] = []
stored_of (m ∷ l) = pick (same m.field 2) (stored_of l) (m.label ∷ stored_of l)

-- "matrix sums (P(P+1)/2, i64); right sides (P, i64)"
unfoldable pub sum_bytes : ℤ → List ℕ
sum_bytes x = signed_bytes w64 x

abbrev pub sum_kind : Kind ℤ
sum_kind = record { size = 8; decode = signed_word w64; fields_ok = λ s at. true; key = λ x. 0; after = λ x. 0 }

-- "totals (1, 16 bytes: accepted u64, square sum u64)"
pub record Totals : Type 0 where
  pub accepted : ℕ
  pub square : ℕ

abbrev pub no_totals : Totals
no_totals = record { accepted = 0; square = 0 }

unfoldable pub totals_at : List ℕ → ℕ → Totals
totals_at s at = record { accepted = word 8 s at; square = word 8 s (at + 8) }

unfoldable pub totals_bytes : Totals → List ℕ
totals_bytes t = bytes_of 8 t.accepted ++ bytes_of 8 t.square

abbrev pub totals_kind : Kind Totals
totals_kind = record { size = 16; decode = totals_at; fields_ok = λ s at. true; key = λ t. 0; after = λ t. 0 }

-- A normal file of either form that was read is rewritten to the same bytes.
-- Assumes nothing.
use mathlib.Core.Path.{◌≡◌, sym, ap, ◌∙◌}
use mathlib.Core.List.{List, [], ◌∷◌}
use lib.ListN.{length, get_or, drop, drop_of_length-le}
use Prim.Native.Nat.{ℕ}
use Rattle.num_whole.specs.Answer.{good}
use Rattle.byte_words.proofs.Words.{Bytes}
use Rattle.byte_section.proofs.Read.{section_forth}
use Rattle.num_packed.specs.Triangle.{tri}
use Rattle.byte_words.specs.Stands.{stands}
use Rattle.norm_kinds.specs.Kinds.{arc_number_bytes, arc_kind, fielded_bytes, fielded_kind, is_small_form, stored_of, sum_bytes, sum_kind, no_totals, totals_at, totals_bytes, totals_kind}
use Rattle.norm_kinds.specs.Bytes.{sectioned, file_bytes}
use Rattle.norm_kinds.proofs.Records.{arc_forth, fielded_forth, sum_forth, totals_forth}
use Rattle.norm_read.specs.Normal.{Normal, read_normal}
use Rattle.norm_read.proofs.Parts.{exactly_items}
use Rattle.norm_read.proofs.Sections.{Sections, read_sections}

module _ (s : List ℕ) (x : Normal) (q : Sections s x) (bounded : Bytes s) where
  -- the totals are one record
  alone : q.totals.items ≡ get_or q.totals.items 0 no_totals ∷ []
  unfolding stands
  alone =
      let one : q.totals.items ≡ totals_at s _ ∷ [] = exactly_items totals_kind s 1 q.rights.next q.totals q.fifth in
      one ∙ ap (λ l. get_or l 0 no_totals ∷ []) (sym one)

  totals_same : sectioned totals_bytes (get_or q.totals.items 0 no_totals ∷ []) [] ≡ drop q.rights.next s
  totals_same =
      ap (λ l. sectioned totals_bytes l []) (sym alone)
      ∙ ap (sectioned totals_bytes q.totals.items) (sym (drop_of_length-le s q.last))
      ∙ section_forth totals_kind s bounded totals_bytes (λ at room ok. totals_forth s bounded at room) 1 1 q.rights.next q.totals q.fifth

  abbrev many : ℕ
  many = length (stored_of q.labels.items)

  rights_same : sectioned sum_bytes q.rights.items (drop q.rights.next s) ≡ drop q.matrix.next s
  rights_same =
      section_forth sum_kind s bounded sum_bytes (λ at room ok. sum_forth s bounded at room) many many q.matrix.next q.rights q.fourth

  matrix_same : sectioned sum_bytes q.matrix.items (drop q.matrix.next s) ≡ drop q.labels.next s
  matrix_same =
      section_forth sum_kind s bounded sum_bytes (λ at room ok. sum_forth s bounded at room) (tri many) (tri many) q.labels.next q.matrix q.third

  labels_same : sectioned fielded_bytes q.labels.items (drop q.labels.next s) ≡ drop q.arcs.next s
  labels_same =
      section_forth (fielded_kind (is_small_form s q.arcs.next) q.arcs.items) s bounded fielded_bytes (λ at room ok. fielded_forth s bounded at room) 1 500 q.arcs.next q.labels q.second

  arcs_same : sectioned arc_number_bytes q.arcs.items (drop q.arcs.next s) ≡ s
  arcs_same = section_forth arc_kind s bounded arc_number_bytes (λ at room ok. arc_forth s bounded at room) 1 16 0 q.arcs q.first

  file_same : file_bytes x.fielded x.stored ≡ s
  unfolding file_bytes
  file_same =
      ap (λ y. file_bytes y.fielded y.stored) (sym q.is)
      ∙ ap (λ t. sectioned arc_number_bytes q.arcs.items (sectioned fielded_bytes q.labels.items (sectioned sum_bytes q.matrix.items (sectioned sum_bytes q.rights.items t)))) totals_same
      ∙ ap (λ t. sectioned arc_number_bytes q.arcs.items (sectioned fielded_bytes q.labels.items (sectioned sum_bytes q.matrix.items t))) rights_same
      ∙ ap (λ t. sectioned arc_number_bytes q.arcs.items (sectioned fielded_bytes q.labels.items t)) matrix_same
      ∙ ap (sectioned arc_number_bytes q.arcs.items) labels_same
      ∙ arcs_same

-- "the same bytes": read, then written
pub read_written : (s : List ℕ) (x : Normal) → Bytes s → read_normal s ≡ good x → file_bytes x.fielded x.stored ≡ s
read_written s x bounded e = file_same s x (read_sections s x e) bounded

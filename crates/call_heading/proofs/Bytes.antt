-- How long a heading's bytes are, and that its parts, each laid where the last one ends, are the whole.
-- Assumes nothing.
use Prim.Native.Nat.{ℕ, ◌+◌, ◌*◌, ◌≤◌}
use mathlib.Core.Path.{◌≡◌, ◌∙◌}
use mathlib.Core.List.{List}
use native.Mathlib.Omega.{arith}
use lib.ListN.{length, length-append}
use Rattle.byte_words.specs.Words.{bytes_of, lay}
use Rattle.byte_words.proofs.Words.{lay_append, length_bytes_of}
use Rattle.byte_section.specs.Section.{encoded}
use Rattle.arc_heading.specs.Judge.{labels_of, stations_of}
use Rattle.arc_heading.specs.declared.Heading.{Heading}
use Rattle.arc_kinds.specs.Kinds.{settings_bytes, label_bytes, station_bytes}
use Rattle.arc_kinds.proofs.Records.{length_settings}
use Rattle.arc_put.proofs.Laws.{labels_all, stations_all}
use Rattle.call_heading.specs.Lent.{heading_long, heading_bytes}

-- ---- a heading whose counts are within its arrays
module _ (h : Heading) (few : h.parameters ≤ length h.labels) (seats : h.stations ≤ length h.listed) where
  pub heading_long_lem : length (heading_bytes h) ≡ heading_long h.parameters h.stations
  unfolding heading_bytes
  heading_long_lem = simp (length-append, length_bytes_of, length_settings, labels_all h few, stations_all h seats) (omega arith)

  pub heading_laid : (out : List ℕ)
      → let a = lay (lay (lay out 0 (settings_bytes h.settings)) 12 (bytes_of 2 h.parameters)) 14 (bytes_of 2 h.stations) in
      lay (lay a 16 (encoded label_bytes (labels_of h))) (16 + 16 * h.parameters) (encoded station_bytes (stations_of h)) ≡ lay out 0 (heading_bytes h)
  unfolding heading_bytes
  heading_laid out =
      lay_append _ _ _ _ _ (simp (labels_all h few))
      ∙ lay_append _ _ _ _ _ (simp length_bytes_of)
      ∙ lay_append _ _ _ _ _ (simp length_bytes_of)
      ∙ lay_append _ _ _ _ _ (simp length_settings)

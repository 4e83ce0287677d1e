-- An arc file that was read is rewritten to the same bytes: a record's bytes are kept, whatever numbers they hold.
-- Assumes nothing.
use Prim.Native.Nat.{ℕ, ◌+◌, ◌%◌, ◌≤◌}
use mathlib.Core.Path.{◌≡◌, refl, sym, ap, ap₂, ◌∙◌}
use mathlib.Core.List.{List, [], ◌∷◌, ◌++◌, append-nil}
use native.Mathlib.Omega.{arith}
use native.Mathlib.Nat.{mul-div_left, mul-mod_left}
use lib.ListN.{length, get_or, drop, take-append-drop}
use lib.Seq.{drop-drop}
use Rattle.arc_limits.specs.Limits.{no_settings}
use Rattle.num_whole.specs.Answer.{good, given}
use Rattle.num_whole.proofs.Cases.{yes, no, holds, is_up_to, is_same, not_less}
use Rattle.byte_words.specs.Words.{bytes_of}
use Rattle.byte_words.proofs.Words.{Bytes, lay_front}
use Rattle.byte_words.proofs.Parts.{word_forth}
use Rattle.byte_section.specs.Section.{encoded}
use Rattle.byte_section.proofs.Read.{Section, section_read, section_forth}
use Rattle.arc_limits.specs.declared.Settings.{Settings}
use Rattle.arc_limits.specs.declared.Label.{Label}
use Rattle.arc_limits.specs.declared.Station.{Station}
use Rattle.arc_heading.specs.declared.Heading.{Heading}
use Rattle.arc_kinds.specs.Kinds.{settings_bytes, label_bytes, station_bytes, settings_kind, label_kind, station_kind, record_size}
use Rattle.arc_read.specs.Arc.{Arc, heading_of, read_arc}
use Rattle.arc_read.proofs.Accepted.{Parts, read_parts, records_section, long_run, run_few, labels_of_lem, stations_of_lem, single, Passed, heading_passed}
use Rattle.arc_put.specs.Bytes.{record_count, arc_bytes, allowed}
use Rattle.byte_section.proofs.Writing.{done_new}
use Rattle.arc_write.specs.Write.{write_arc, arc_left_in}
use Rattle.arc_kinds.proofs.Records.{settings_forth, label_forth, station_forth}
use Rattle.arc_write.proofs.Back.{records_on, stations_on, labels_on, file}

-- ---- what the writer accepts
module _ (h : Heading) (run : List ℕ) (passed : Passed h) (bound : record_count h run ≤ 65535) (whole : length run % record_size h.parameters ≡ 0) where
  pub written : (room : ℕ) → length (arc_bytes h run) ≤ room → write_arc h run room ≡ given (length (arc_bytes h run))
  unfolding write_arc allowed
  written room fits =
      sym
      (yes _ _ _ (sym (holds _ _ passed.counts (sym (is_up_to _ _ bound))))
      (yes _ _ _ passed.fields
      (yes _ _ _ passed.orders
      (yes _ _ _ (is_same _ _ whole)
      (no _ _ _ (not_less _ _ fits) refl)))))

  -- the file, and the rest of the buffer as it was
  pub left : (out : List ℕ) → length (arc_bytes h run) ≤ length out → arc_left_in h run out ≡ arc_bytes h run ++ drop (length (arc_bytes h run)) out
  unfolding arc_left_in
  left out fits = sym (done_new _ _ out (written (length out) fits)) ∙ lay_front out (arc_bytes h run) fits

-- ---- what was read
-- a heading of what was read, written
as_read : (x : Settings) (ls : List Label) (ts : List Station) (n : ℕ) (run : List ℕ) → record_count (heading_of x ls ts) run ≡ n
    → arc_bytes (heading_of x ls ts) run ≡ file x ls ts n run
unfolding arc_bytes heading_of
as_read x ls ts n run e = rw (e, labels_of_lem x ls ts, stations_of_lem x ls ts)

one_setting : (x : Settings) (t : List ℕ) → bytes_of 4 1 ++ (encoded settings_bytes (x ∷ []) ++ t) ≡ bytes_of 4 1 ++ (settings_bytes x ++ t)
unfolding encoded
one_setting x t = rw append-nil

module _ (s : List ℕ) (a : Arc) (p : Parts s a) where
  -- the settings, the number of records, where they stand
  abbrev x : Settings
  x = get_or p.settings.items 0 no_settings

  abbrev n : ℕ
  n = length p.records.items

  abbrev start : ℕ
  start = p.stations.next + 4

  abbrev heading : Heading
  heading = heading_of x p.labels.items p.stations.items

  settings_section : Section settings_kind s 1 1 0 p.settings
  settings_section = section_read settings_kind s 1 1 0 p.settings p.first

  alone : p.settings.items ≡ x ∷ []
  alone = single p.settings.items no_settings (omega (arith, settings_section.count.from, settings_section.count.to))

  as_many : record_count heading (drop start s) ≡ n
  unfolding record_count heading_of
  as_many = rw (long_run s a p) (mul-div_left n (omega arith))

  no_rest : length (drop start s) % record_size heading.parameters ≡ 0
  unfolding heading_of
  no_rest = rw (long_run s a p) (mul-mod_left n _)

  module _ (bounded : Bytes s) where
    records_same : records_on n (drop start s) ≡ drop p.stations.next s
    records_same =
        let c = (records_section s a p).count in
        let here : p.stations.next + 4 ≤ length s = omega (arith, c.whole) in
        ap₂ (λ u v. u ++ v) (ap (bytes_of 4) (sym c.is) ∙ word_forth s bounded 4 p.stations.next here) (sym (drop-drop 4 p.stations.next s))
        ∙ take-append-drop 4 (drop p.stations.next s)

    stations_same : stations_on p.stations.items n (drop start s) ≡ drop p.labels.next s
    stations_same =
        ap (λ t. bytes_of 4 (length p.stations.items) ++ (encoded station_bytes p.stations.items ++ t)) records_same
        ∙ section_forth station_kind s bounded station_bytes (station_forth s bounded) 0 16 p.labels.next p.stations p.third

    labels_same : labels_on p.labels.items p.stations.items n (drop start s) ≡ drop p.settings.next s
    labels_same =
        ap (λ t. bytes_of 4 (length p.labels.items) ++ (encoded label_bytes p.labels.items ++ t)) stations_same
        ∙ section_forth label_kind s bounded label_bytes (λ at room ok. label_forth s bounded at room) 1 50 p.settings.next p.labels p.second

    file_same : file x p.labels.items p.stations.items n (drop start s) ≡ s
    file_same =
        ap (λ t. bytes_of 4 1 ++ (settings_bytes x ++ t)) labels_same
        ∙ sym (one_setting x (drop p.settings.next s))
        ∙ ap (λ l. bytes_of 4 (length l) ++ (encoded settings_bytes l ++ drop p.settings.next s)) (sym alone)
        ∙ section_forth settings_kind s bounded settings_bytes (λ at room ok. settings_forth s bounded at room) 1 1 0 p.settings p.first

-- ---- read, then written
module _ (s : List ℕ) (a : Arc) (e : read_arc s ≡ good a) where
  parts : Parts s a
  parts = read_parts s a e

  heading_is : a.heading ≡ heading s a parts
  heading_is = ap (λ b. b.heading) parts.is

  start_is : a.start ≡ start s a parts
  start_is = ap (λ b. b.start) parts.is

  -- the records that were counted are those of the run
  pub run_count : record_count a.heading (drop a.start s) ≡ a.count
  run_count = ap₂ (λ h k. record_count h (drop k s)) heading_is start_is ∙ as_many s a parts ∙ sym (ap (λ b. b.count) parts.is)

  pub run_whole : length (drop a.start s) % record_size a.heading.parameters ≡ 0
  run_whole = ap₂ (λ h k. length (drop k s) % record_size h.parameters) heading_is start_is ∙ no_rest s a parts

  run_bound : record_count a.heading (drop a.start s) ≤ 65535
  run_bound = omega (arith, run_count, run_few s a e)

  module _ (bounded : Bytes s) where
    -- "files accepted are rewritten to the same bytes, those of a not-a-number too"
    pub read_written : arc_bytes a.heading (drop a.start s) ≡ s
    read_written =
        ap₂ (λ h k. arc_bytes h (drop k s)) heading_is start_is
        ∙ as_read (x s a parts) parts.labels.items parts.stations.items (n s a parts) (drop (start s a parts) s) (as_many s a parts)
        ∙ file_same s a parts bounded

    pub rewritten : (room : ℕ) → length s ≤ room → write_arc a.heading (drop a.start s) room ≡ given (length s)
    rewritten room fits =
        written a.heading (drop a.start s) (heading_passed s a e) run_bound run_whole room (omega (arith, ap length read_written))
        ∙ ap (λ l. given (length l)) read_written

    pub rewritten_left : (out : List ℕ) → length s ≤ length out → arc_left_in a.heading (drop a.start s) out ≡ s ++ drop (length s) out
    rewritten_left out fits =
        left a.heading (drop a.start s) (heading_passed s a e) run_bound run_whole out (omega (arith, ap length read_written))
        ∙ ap (λ l. l ++ drop (length l) out) read_written

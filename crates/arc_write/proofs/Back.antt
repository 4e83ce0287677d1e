-- An arc file that was written reads back: the heading that was written, the number of records, and the records' bytes.
-- Assumes nothing.
use Prim.Native.Nat.{ℕ, ◌+◌, ◌-◌, ◌*◌, ◌%◌, ◌^◌, ◌≤◌, ◌<◌, zero-le}
use mathlib.Core.Path.{◌≡◌, refl, sym, ap, ap₂, ◌∙◌}
use mathlib.Core.List.{List, [], ◌∷◌, ◌++◌, append_assoc, append-nil}
use mathlib.Core.Bool.{true}
use native.Mathlib.Omega.{arith}
use native.Mathlib.Nat.{div-add-mod', le_refl, add-zero}
use lib.ListN.{length, drop, length-append}
use lib.Seq.{length-take-le, drop_at}
use mir.Syntax.{w64}
use mir.Val.{SFits}
use Rattle.num_whole.specs.Answer.{given, good}
use Rattle.num_whole.proofs.Cases.{no, holds, is_up_to, is_between, not_less}
use Rattle.byte_words.specs.Words.{bytes_of}
use Rattle.byte_words.proofs.Words.{length_bytes_of}
use Rattle.byte_section.specs.Section.{Kind, Run, section_at, closed, encoded}
use Rattle.byte_section.proofs.Walk.{then_good}
use Rattle.byte_section.proofs.Trips.{Chain, length_encoded}
use Rattle.num_whole.specs.Lists.{Each}
use Rattle.byte_section.proofs.Read.{section_room}
use Rattle.byte_section.proofs.Written.{each_of, each_both, chain, section_at_lem}
use Rattle.arc_limits.specs.Limits.{settings_ok, label_ok, station_ok}
use Rattle.arc_heading.specs.Judge.{labels_of, stations_of, counts_ok, judged}
use Rattle.arc_limits.specs.declared.Settings.{Settings}
use Rattle.arc_limits.specs.declared.Label.{Label}
use Rattle.arc_limits.specs.declared.Station.{Station}
use Rattle.arc_heading.specs.declared.Heading.{Heading}
use Rattle.arc_heading.proofs.Sound.{sound, counts_fit_lem}
use Rattle.arc_kinds.specs.Kinds.{settings_bytes, label_bytes, station_bytes, settings_kind, label_kind, station_kind, record_kind, record_size}
use Rattle.arc_read.specs.Arc.{heading_of, read_arc}
use Rattle.arc_put.specs.Bytes.{record_count, arc_bytes}
use Rattle.arc_put.proofs.Laws.{arc_long}
use Rattle.arc_kinds.proofs.Records.{length_settings, length_label, length_station, settings_back, label_back, station_back}

-- ---- a run of whole records at a place of a list
room_at : {A : Type 0} (K : Kind A) → ((s : List ℕ) (at : ℕ) → K.fields_ok s at ≡ true) → ((a : A) → K.after a ≡ 0) → (p t s : List ℕ) (at n low high : ℕ)
    → s ≡ p ++ (bytes_of 4 n ++ t) → length p ≡ at → n < 256 ^ 4 → low ≤ n → n ≤ high → length t ≡ n * K.size
    → (r : Run A) × (section_at K s low high at ≡ good r) × (length r.items ≡ n) × (r.next ≡ length s)
room_at K free flat p t s at n low high e m small from to long = rw (e, ← m) (section_room p t n low high small from to K free flat long)

-- ---- a file of settings, labels, stations and a run of n records: each section with what follows it
abbrev Settled : Settings → Type 0
Settled x = settings_ok x ≡ true

abbrev Labelled : Label → Type 0
Labelled l = (label_ok l ≡ true) × SFits w64 l.estimate

abbrev Stationed : Station → Type 0
Stationed t = station_ok t ≡ true

abbrev pub records_on : ℕ → List ℕ → List ℕ
records_on n run = bytes_of 4 n ++ run

abbrev pub stations_on : List Station → ℕ → List ℕ → List ℕ
stations_on ts n run = bytes_of 4 (length ts) ++ (encoded station_bytes ts ++ records_on n run)

abbrev pub labels_on : List Label → List Station → ℕ → List ℕ → List ℕ
labels_on ls ts n run = bytes_of 4 (length ls) ++ (encoded label_bytes ls ++ stations_on ts n run)

abbrev pub file : Settings → List Label → List Station → ℕ → List ℕ → List ℕ
file x ls ts n run = bytes_of 4 1 ++ (settings_bytes x ++ labels_on ls ts n run)

-- what stands before the labels, the stations, the records
abbrev before_labels : Settings → List ℕ
before_labels x = bytes_of 4 1 ++ settings_bytes x

abbrev before_stations : Settings → List Label → List ℕ
before_stations x ls = before_labels x ++ (bytes_of 4 (length ls) ++ encoded label_bytes ls)

abbrev before_records : Settings → List Label → List Station → List ℕ
before_records x ls ts = before_stations x ls ++ (bytes_of 4 (length ts) ++ encoded station_bytes ts)

module _ (x : Settings) (ls : List Label) (ts : List Station) where
  long_labels : length (encoded label_bytes ls) ≡ length ls * 16
  long_labels = length_encoded label_bytes 16 length_label ls

  long_stations : length (encoded station_bytes ts) ≡ length ts * 8
  long_stations = length_encoded station_bytes 8 length_station ts

  length_first : length (before_labels x) ≡ 16
  length_first = simp (length-append, length_bytes_of, length_settings)

  length_second : length (before_stations x ls) ≡ 16 + 4 + length ls * 16
  length_second = simp (length-append, length_bytes_of, length_settings, long_labels) (omega arith)

  length_third : length (before_records x ls ts) ≡ 16 + 4 + length ls * 16 + 4 + length ts * 8
  length_third = simp (length-append, length_bytes_of, length_settings, long_labels, long_stations) (omega arith)

  module _ (n : ℕ) (run : List ℕ) where
    as_first : file x ls ts n run ≡ [] ++ (bytes_of 4 1 ++ (encoded settings_bytes (x ∷ []) ++ labels_on ls ts n run))
    unfolding encoded
    as_first = rw append-nil

    as_second : file x ls ts n run ≡ before_labels x ++ labels_on ls ts n run
    as_second = simp append_assoc

    as_third : file x ls ts n run ≡ before_stations x ls ++ stations_on ts n run
    as_third = simp append_assoc

    as_fourth : file x ls ts n run ≡ before_records x ls ts ++ records_on n run
    as_fourth = simp append_assoc

    pub length_file : length (file x ls ts n run) ≡ 16 + 4 + length ls * 16 + 4 + length ts * 8 + 4 + length run
    length_file = ap length as_fourth ∙ length-append (before_records x ls ts) (records_on n run) ∙ simp (length_third, length-append, length_bytes_of) (omega arith)

    pub drop_file : (at : ℕ) → at ≡ 16 + 4 + length ls * 16 + 4 + length ts * 8 + 4 → drop at (file x ls ts n run) ≡ run
    drop_file at e =
        ap (drop at) (as_fourth ∙ sym (append_assoc (before_records x ls ts) (bytes_of 4 n) run))
        ∙ drop_at (before_records x ls ts ++ bytes_of 4 n) run at (simp (length-append (before_records x ls ts) (bytes_of 4 n), length_third, length_bytes_of) (sym e))

    module _ (settled : settings_ok x ≡ true) (labelled : Chain label_kind label_bytes Labelled 0 ls) (stationed : Chain station_kind station_bytes Stationed 0 ts)
        (some : 1 ≤ length ls) (few : length ls ≤ 50) (seats : length ts ≤ 16) (bound : n ≤ 65535) (whole : length run ≡ n * record_size (length ls))
      where
        read_file : read_arc (file x ls ts n run) ≡ good (record { heading = heading_of x ls ts; count = n; start = 16 + 4 + length ls * 16 + 4 + length ts * 8 + 4 })
        unfolding read_arc closed
        read_file =
            let s = file x ls ts n run in
            let a : section_at settings_kind s 1 1 0 ≡ good (record { items = x ∷ []; next = 16 }) =
            section_at_lem settings_kind settings_bytes Settled length_settings settings_back (x ∷ []) [] (labels_on ls ts n run) s 0 1 1 as_first refl
            (settled, (zero-le, tt)) (le_refl 1) (le_refl 1) (omega arith) in
            let b : section_at label_kind s 1 50 16 ≡ good (record { items = ls; next = 16 + 4 + length ls * 16 }) =
            section_at_lem label_kind label_bytes Labelled length_label label_back ls (before_labels x) (stations_on ts n run) s 16 1 50 as_second length_first
            labelled some few (omega arith) in
            let c : section_at station_kind s 0 16 (16 + 4 + length ls * 16) ≡ good (record { items = ts; next = 16 + 4 + length ls * 16 + 4 + length ts * 8 }) =
            section_at_lem station_kind station_bytes Stationed length_station station_back ts (before_stations x ls) (records_on n run) s _ 0 16 as_third length_second
            stationed zero-le seats (omega arith) in
            let d = room_at (record_kind (length ls)) (λ s at. refl) (λ r. refl) (before_records x ls ts) run s _ n 0 65535 as_fourth length_third
            (omega arith) zero-le bound whole in
            then_good _ _ a ∙ then_good _ _ b ∙ then_good _ _ c ∙ then_good _ _ d.1
            ∙ sym (no _ _ _ (not_less _ _ (omega (arith, d.3))) refl)
            ∙ ap (λ k. good (record { heading = heading_of x ls ts; count = k; start = 16 + 4 + length ls * 16 + 4 + length ts * 8 + 4 })) d.2

-- ---- the file of a heading
module _ (h : Heading) (run : List ℕ) (places : length h.labels ≡ 50) (seats : length h.listed ≡ 16) where
  module _ (ok : counts_ok h ≡ true) where
    as_many_labels : length (labels_of h) ≡ h.parameters
    unfolding labels_of
    as_many_labels = length-take-le _ _ (omega (arith, (counts_fit_lem h ok).0))

    as_many_stations : length (stations_of h) ≡ h.stations
    unfolding stations_of
    as_many_stations = length-take-le _ _ (omega (arith, (counts_fit_lem h ok).1))

    as_file : arc_bytes h run ≡ file h.settings (labels_of h) (stations_of h) (record_count h run) run
    unfolding arc_bytes
    as_file = rw (as_many_labels, as_many_stations)

    -- how long the file is
    pub length_arc : length (arc_bytes h run) ≡ 28 + 16 * h.parameters + 8 * h.stations + length run
    length_arc = arc_long h (omega (arith, (counts_fit_lem h ok).0)) (omega (arith, (counts_fit_lem h ok).1)) run

  -- written, then read
  pub written_read : judged h ≡ given tt → Each (λ l. SFits w64 l.estimate) (labels_of h) → length run % record_size h.parameters ≡ 0 → record_count h run ≤ 65535
      → (read_arc (arc_bytes h run)
      ≡ good (record { heading = heading_of h.settings (labels_of h) (stations_of h); count = record_count h run; start = length (arc_bytes h run) - length run }))
      × (drop (length (arc_bytes h run) - length run) (arc_bytes h run) ≡ run)
  unfolding counts_ok record_count
  written_read judge held whole bound =
      let o = sound h judge in
      let ok : counts_ok h ≡ true = sym (holds _ _ (is_between _ _ _ o.some o.few) (sym (is_up_to _ _ o.seats))) in
      let ls = labels_of h in
      let ts = stations_of h in
      let n = record_count h run in
      let many = as_many_labels ok in
      let seated = as_many_stations ok in
      let start : length (arc_bytes h run) - length run ≡ 16 + 4 + length ls * 16 + 4 + length ts * 8 + 4 =
      omega (arith, ap length (as_file ok), length_file h.settings ls ts n run) in
      let size : length run ≡ n * record_size (length ls) =
      sym (div-add-mod' (length run) (record_size h.parameters))
      ∙ ap₂ (λ a b. a + b) (ap (λ p. n * record_size p) (sym many)) whole
      ∙ add-zero _ in
      let main = read_file h.settings ls ts n run o.settings
      (chain label_kind label_bytes Labelled (λ l. refl) 0 ls (each_both _ _ ls (each_of label_ok ls o.labels) held) o.labels_up)
      (chain station_kind station_bytes Stationed (λ t. refl) 0 ts (each_of station_ok ts o.stations) o.stations_up)
      (omega (arith, o.some)) (omega (arith, o.few)) (omega (arith, o.seats)) bound size in (
        ap read_arc (as_file ok) ∙ main
            ∙ ap (λ k. good (record { heading = heading_of h.settings ls ts; count = n; start = k })) (sym start),
        ap (drop (length (arc_bytes h run) - length run)) (as_file ok) ∙ drop_file h.settings ls ts n run _ start,
      )

-- Laws of the bytes of an arc file: their lengths, and that its parts laid one after the other are the whole.
-- Assumes nothing.
use Rattle.std.proofs.Common.{◌≡◌, ◌∙◌, sym, ap, ℕ, suc, ◌+◌, ◌*◌, ◌/◌, ◌≤◌, ◌<◌, List, ◌∷◌, length, length-append, length-take-le, drop, get_or, drop-cons, add-one, arith}
use Rattle.byte_words.specs.Words.{bytes_of, lay}
use Rattle.byte_words.proofs.Words.{lay_append, length_bytes_of}
use Rattle.byte_section.specs.Section.{encoded}
use Rattle.byte_section.proofs.Trips.{length_encoded}
use Rattle.arc_heading.specs.Judge.{labels_of, stations_of}
use Rattle.arc_heading.specs.declared.Heading.{Heading}
use Rattle.arc_kinds.specs.Kinds.{settings_bytes, label_bytes, station_bytes, record_size}
use Rattle.arc_kinds.proofs.Records.{length_settings, length_label, length_station}
use Rattle.arc_put.specs.Bytes.{record_count, arc_bytes}
use Rattle.arc_fields.specs.Sizes.{needed_for}

-- ---- records left to put: the next one and those after it
pub item_left : {A : Type 0} (l : List A) (i : ℕ) (a : A) → a ≡ get_or l i a → i < length l → drop i l ≡ a ∷ drop (i + 1) l
item_left l i a e h = rw add-one (drop-cons l i a h ∙ ap (λ x. x ∷ drop (suc i) l) (sym e))

pub long_left : {A : Type 0} (bytes : A → List ℕ) (k : ℕ) → ((a : A) → length (bytes a) ≡ k) → {l m : List A} {a : A} → l ≡ a ∷ m → length (encoded bytes l) ≡ k + length (encoded bytes m)
unfolding encoded
long_left bytes k long {m = m} {a = a} e = rw e (length-append (bytes a) (encoded bytes m) ∙ ap (λ n. n + length (encoded bytes m)) (long a))

-- ---- the whole file, of a heading whose counts are within its arrays
pub labels_all : (h : Heading) → h.parameters ≤ length h.labels → length (encoded label_bytes (labels_of h)) ≡ 16 * h.parameters
unfolding labels_of
labels_all h few = length_encoded label_bytes 16 length_label (labels_of h) ∙ ap (λ n. n * 16) (length-take-le _ _ few) ∙ omega arith

pub stations_all : (h : Heading) → h.stations ≤ length h.listed → length (encoded station_bytes (stations_of h)) ≡ 8 * h.stations
unfolding stations_of
stations_all h seats = length_encoded station_bytes 8 length_station (stations_of h) ∙ ap (λ n. n * 8) (length-take-le _ _ seats) ∙ omega arith

module _ (h : Heading) (few : h.parameters ≤ length h.labels) (seats : h.stations ≤ length h.listed) where
  module _ (run : List ℕ) where
    pub arc_long : length (arc_bytes h run) ≡ needed_for h.parameters h.stations (length run)
    unfolding arc_bytes
    arc_long = simp (length-append, length_bytes_of, length_settings, labels_all h few, stations_all h seats) (omega arith)

    -- its parts laid one after the other, each where the last one ends
    pub arc_laid : (out : List ℕ)
        → let stations-at = 20 + 16 * h.parameters in
        let records-at = stations-at + 4 + 8 * h.stations in
        let a = lay (lay out 0 (bytes_of 4 1)) 4 (settings_bytes h.settings) in
        let b = lay (lay a 16 (bytes_of 4 h.parameters)) 20 (encoded label_bytes (labels_of h)) in
        let c = lay (lay b stations-at (bytes_of 4 h.stations)) (stations-at + 4) (encoded station_bytes (stations_of h)) in
        lay (lay c records-at (bytes_of 4 (length run / record_size h.parameters))) (records-at + 4) run ≡ lay out 0 (arc_bytes h run)
    unfolding arc_bytes record_count
    arc_laid out =
        lay_append _ _ _ _ _ (simp length_bytes_of)
        ∙ lay_append _ _ _ _ _ (simp (stations_all h seats))
        ∙ lay_append _ _ _ _ _ (simp length_bytes_of)
        ∙ lay_append _ _ _ _ _ (simp (labels_all h few))
        ∙ lay_append _ _ _ _ _ (simp length_bytes_of)
        ∙ lay_append _ _ _ _ _ (simp length_settings)
        ∙ lay_append _ _ _ _ _ (simp length_bytes_of)

-- A heading that was read from an arc file, and a tally of numbers that fit, are read back from their bytes, whatever follows them.
-- Assumes nothing.
use Prim.Native.Nat.{ℕ, suc, ◌+◌, ◌*◌, ◌^◌, ◌≤◌, ◌<◌, min}
use mathlib.Core.Path.{◌≡◌, refl, ap, ap₂, ◌∙◌}
use mathlib.Core.List.{List, [], ◌∷◌, ◌++◌, append_assoc}
use mathlib.Core.Bool.{true}
use native.Mathlib.Omega.{arith}
use lib.ListN.{length, get_or, length-append}
use mir.Syntax.{w64}
use mir.Val.{SFits}
use Rattle.num_whole.specs.Answer.{good}
use Rattle.num_whole.proofs.Cases.{both_first, both_second}
use Rattle.byte_words.specs.Words.{word, bytes_of, lay}
use Rattle.byte_words.proofs.Words.{Bytes, length_bytes_of, word_bytes_of, lay_front}
use Rattle.byte_words.proofs.Parts.{word_past}
use Rattle.byte_words.proofs.Written.{word_first, word_beside}
use Rattle.byte_section.specs.Section.{encoded}
use Rattle.num_whole.specs.Lists.{Each}
use Rattle.byte_section.proofs.Trips.{length_encoded}
use Rattle.byte_section.proofs.Written.{each_of, each_both}
use Rattle.arc_limits.specs.Limits.{no_settings, settings_ok, label_ok, station_ok}
use Rattle.arc_limits.specs.declared.Settings.{Settings}
use Rattle.arc_limits.specs.declared.Label.{Label}
use Rattle.arc_limits.specs.declared.Station.{Station}
use Rattle.arc_kinds.specs.Kinds.{settings_at, settings_bytes, label_at, label_bytes, station_at, station_bytes}
use Rattle.arc_heading.specs.Judge.{fields_ok}
use Rattle.arc_heading.proofs.Sound.{counts_fit_lem}
use Rattle.arc_read.specs.Arc.{Arc, heading_of, read_arc}
use Rattle.arc_read.proofs.Accepted.{read_parts, labels_of_lem, stations_of_lem, heading_passed, heading_arrays, heading_estimates}
use Rattle.arc_kinds.proofs.Records.{length_settings, length_label, length_station, settings_back, label_back, station_back}
use Rattle.take_tally.specs.declared.Row.{Row}
use Rattle.take_tally.specs.declared.Tally.{Tally}
use Rattle.byte_words.specs.Stands.{stands}
use Rattle.call_heading.specs.Lent.{heading_long, heading_in, heading_bytes}
use Rattle.call_tally.specs.Tally.{times_row_at, row_bytes, tally_in, tally_bytes, tally_long}
use Rattle.call_heading.proofs.Bytes.{heading_long_lem}
use Rattle.call_tally.proofs.Bytes.{row_long}

-- ---- records one after the other, each of which is read back wherever it stands
module _ {A : Type 0} (read : List ℕ → ℕ → A) (bytes : A → List ℕ) (k : ℕ) (Held : A → Type 0)
    (long : (a : A) → Held a → length (bytes a) ≡ k)
    (back : (p : List ℕ) (a : A) (r : List ℕ) → Held a → read (p ++ (bytes a ++ r)) (length p) ≡ a)
  where
    all_back : (l : List A) (p r : List ℕ) → Each Held l → stands (read (p ++ (encoded bytes l ++ r))) k (length l) (length p) ≡ l
    unfolding stands encoded
    all_back [] p r e = refl
    all_back (a ∷ l) p r e =
        let s = p ++ (bytes a ++ (encoded bytes l ++ r)) in
        let m : length (p ++ bytes a) ≡ length p + k = length-append p (bytes a) ∙ ap (λ n. length p + n) (long a e.0) in
        let rest : stands (read s) k (length l) (length p + k) ≡ l =
        simp (m, append_assoc p (bytes a) (encoded bytes l ++ r)) at (all_back l (p ++ bytes a) r e.1) in
        ap (λ x. stands (read (p ++ x)) k (suc (length l)) (length p)) (append_assoc (bytes a) (encoded bytes l) r)
        ∙ ap₂ (λ x y. x ∷ y) (back p a (encoded bytes l ++ r) e.0) rest

    -- at a place of a list
    pub stands_back : (l : List A) (p r s : List ℕ) (at : ℕ) → s ≡ p ++ (encoded bytes l ++ r) → length p ≡ at → Each Held l → stands (read s) k (length l) at ≡ l
    stands_back l p r s at e m h = rw (e, ← m) (all_back l p r h)

-- ---- a heading
module _ (a : Settings) (ls : List Label) (ts : List Station) (r : List ℕ)
    (settings : settings_ok a ≡ true)
    (labels : Each (λ l. (label_ok l ≡ true) × SFits w64 l.estimate) ls)
    (stations : Each (λ t. station_ok t ≡ true) ts)
    (few : length ls ≤ 50) (seats : length ts ≤ 16)
  where
    -- the bytes in parts: the settings, the two numbers, the labels, the stations
    rest_bytes : List ℕ
    rest_bytes = bytes_of 2 (length ls) ++ (bytes_of 2 (length ts) ++ (encoded label_bytes ls ++ (encoded station_bytes ts ++ r)))

    all_bytes : List ℕ
    all_bytes = settings_bytes a ++ rest_bytes

    in_parts : heading_bytes (heading_of a ls ts) ++ r ≡ all_bytes
    unfolding heading_bytes heading_of all_bytes rest_bytes
    in_parts = simp (labels_of_lem a ls ts, stations_of_lem a ls ts, append_assoc)

    settings_here : settings_at all_bytes 0 ≡ a
    unfolding all_bytes
    settings_here = (settings_back [] a rest_bytes settings).0

    labels_number : word 2 all_bytes 12 ≡ length ls
    unfolding all_bytes rest_bytes
    labels_number = word_past 2 (settings_bytes a) rest_bytes 12 0 (length_settings a) ∙ word_bytes_of 2 (length ls) _ (omega arith)

    stations_number : word 2 all_bytes 14 ≡ length ts
    unfolding all_bytes rest_bytes
    stations_number =
        word_past 2 (settings_bytes a) rest_bytes 12 2 (length_settings a) ∙ word_beside 2 2 _ _ 0 ∙ word_bytes_of 2 (length ts) _ (omega arith)

    -- what stands before the labels, and what before the stations
    before_labels : List ℕ
    before_labels = settings_bytes a ++ (bytes_of 2 (length ls) ++ bytes_of 2 (length ts))

    labels_here : stands (label_at all_bytes) 16 (length ls) 16 ≡ ls
    unfolding all_bytes rest_bytes before_labels
    labels_here =
        stands_back label_at label_bytes 16 (λ l. (label_ok l ≡ true) × SFits w64 l.estimate) (λ l h. length_label l) (λ p l q h. (label_back p l q h).0)
        ls before_labels (encoded station_bytes ts ++ r) all_bytes 16 (simp append_assoc) (simp (length-append, length_bytes_of, length_settings)) labels

    stations_here : stands (station_at all_bytes) 8 (length ts) (16 + 16 * length ls) ≡ ts
    unfolding all_bytes rest_bytes before_labels
    stations_here =
        let long : length (encoded label_bytes ls) ≡ length ls * 16 = length_encoded label_bytes 16 length_label ls in
        stands_back station_at station_bytes 8 (λ t. station_ok t ≡ true) (λ t h. length_station t) (λ p t q h. (station_back p t q h).0)
        ts (before_labels ++ encoded label_bytes ls) r all_bytes (16 + 16 * length ls)
        (simp append_assoc) (simp (length-append, length_bytes_of, length_settings, long) (omega arith)) stations

    pub heading_back : heading_in (heading_bytes (heading_of a ls ts) ++ r) ≡ heading_of a ls ts
    unfolding heading_in heading_of
    heading_back =
        let p : min (length ls) 50 ≡ length ls = omega arith in
        let t : min (length ts) 16 ≡ length ts = omega arith in
        ap heading_in in_parts ∙ simp (labels_number, stations_number, p, t, settings_here, labels_here, stations_here)

-- the heading of an accepted file of bytes
module _ (s : List ℕ) (a : Arc) (accepted : read_arc s ≡ good a) (bounded : Bytes s) (r : List ℕ) where
  pub read_back : heading_in (heading_bytes a.heading ++ r) ≡ a.heading
  unfolding fields_ok heading_of
  read_back =
      let p = read_parts s a accepted in
      let x = get_or p.settings.items 0 no_settings in
      let ls = p.labels.items in
      let ts = p.stations.items in
      let is : a.heading ≡ heading_of x ls ts = ap (λ b. b.heading) p.is in
      let passed = heading_passed s a accepted in
      let fit = counts_fit_lem a.heading passed.counts in
      let fields = rw is at passed.fields in
      let labels = rw (labels_of_lem x ls ts) at (both_first _ _ (both_second _ _ fields)) in
      let stations = rw (stations_of_lem x ls ts) at (both_second _ _ (both_second _ _ fields)) in
      let estimates = rw (is, labels_of_lem x ls ts) at (heading_estimates s a accepted bounded) in
      rw is
      (heading_back x ls ts r (both_first _ _ fields) (each_both _ _ ls (each_of label_ok ls labels) estimates) (each_of station_ok ts stations)
      (rw is at fit.0) (rw is at fit.1))

-- ---- a tally
-- numbers within their widths, in arrays of their lengths
abbrev Within : ℕ → ℕ → Type 0
Within k n = n < 256 ^ k

word_back : (k : ℕ) (p : List ℕ) (n : ℕ) (r : List ℕ) → Within k n → word k (p ++ (bytes_of k n ++ r)) (length p) ≡ n
word_back k p n r h = word_first k p (bytes_of k n ++ r) ∙ word_bytes_of k n r h

pub record RowFits (w : Row) : Type 0 where
  pub long : length w.times ≡ 10
  pub times : Each (λ n. n < 256 ^ 8) w.times

pub record TallyFits (t : Tally) : Type 0 where
  pub square : t.square < 256 ^ 8
  pub counted : length t.counts ≡ 16
  pub counts : Each (λ n. n < 256 ^ 4) t.counts
  pub seats : length t.rows ≡ 16
  pub rows : Each RowFits t.rows
  pub words : length t.marks ≡ 50
  pub marks : Each (λ n. n < 256 ^ 2) t.marks

row_back : (p : List ℕ) (w : Row) (r : List ℕ) → RowFits w → times_row_at (p ++ (row_bytes w ++ r)) (length p) ≡ w
unfolding times_row_at row_bytes
row_back p w r h =
    let s = p ++ (encoded (bytes_of 8) w.times ++ r) in
    let here : stands (word 8 s) 8 10 (length p) ≡ w.times =
    rw h.long at (stands_back (word 8) (bytes_of 8) 8 (Within 8) (λ n f. length_bytes_of 8 n) (word_back 8) w.times p r s (length p) refl refl h.times) in
    ap (λ l. record { times = l }) here

rows_long : (l : List Row) → Each RowFits l → length (encoded row_bytes l) ≡ length l * 80
unfolding encoded
rows_long [] e = refl
rows_long (w ∷ l) e = length-append (row_bytes w) (encoded row_bytes l) ∙ omega (arith, row_long w e.0.long, rows_long l e.1)

module _ (t : Tally) (fits : TallyFits t) where
  counts_bytes : length (encoded (bytes_of 4) t.counts) ≡ 64
  counts_bytes = length_encoded (bytes_of 4) 4 (length_bytes_of 4) t.counts ∙ ap (λ n. n * 4) fits.counted

  rows_bytes : length (encoded row_bytes t.rows) ≡ 1280
  rows_bytes = rows_long t.rows fits.rows ∙ ap (λ n. n * 80) fits.seats

  marks_bytes : length (encoded (bytes_of 2) t.marks) ≡ 100
  marks_bytes = length_encoded (bytes_of 2) 2 (length_bytes_of 2) t.marks ∙ ap (λ n. n * 2) fits.words

module _ (t : Tally) (r : List ℕ) (fits : TallyFits t) where
  tally_bytes_lem : List ℕ
  tally_bytes_lem = bytes_of 8 t.square ++ (encoded (bytes_of 4) t.counts ++ (encoded row_bytes t.rows ++ (encoded (bytes_of 2) t.marks ++ r)))

  tally_parts : tally_bytes t ++ r ≡ tally_bytes_lem
  unfolding tally_bytes tally_bytes_lem
  tally_parts = simp append_assoc

  square_here : word 8 tally_bytes_lem 0 ≡ t.square
  unfolding tally_bytes_lem
  square_here = word_bytes_of 8 t.square _ fits.square

  counts_here : stands (word 4 tally_bytes_lem) 4 16 8 ≡ t.counts
  unfolding tally_bytes_lem
  counts_here =
      rw fits.counted at
      (stands_back (word 4) (bytes_of 4) 4 (Within 4) (λ n f. length_bytes_of 4 n) (word_back 4) t.counts
      (bytes_of 8 t.square) (encoded row_bytes t.rows ++ (encoded (bytes_of 2) t.marks ++ r)) tally_bytes_lem 8
      refl (length_bytes_of 8 t.square) fits.counts)

  rows_here : stands (times_row_at tally_bytes_lem) 80 16 72 ≡ t.rows
  unfolding tally_bytes_lem
  rows_here =
      rw fits.seats at
      (stands_back times_row_at row_bytes 80 RowFits (λ w f. row_long w f.long) row_back t.rows
      (bytes_of 8 t.square ++ encoded (bytes_of 4) t.counts) (encoded (bytes_of 2) t.marks ++ r) tally_bytes_lem 72
      (simp append_assoc) (simp (length-append, length_bytes_of, counts_bytes t fits)) fits.rows)

  marks_here : stands (word 2 tally_bytes_lem) 2 50 1352 ≡ t.marks
  unfolding tally_bytes_lem
  marks_here =
      rw fits.words at
      (stands_back (word 2) (bytes_of 2) 2 (Within 2) (λ n f. length_bytes_of 2 n) (word_back 2) t.marks
      (bytes_of 8 t.square ++ (encoded (bytes_of 4) t.counts ++ encoded row_bytes t.rows)) r tally_bytes_lem 1352
      (simp append_assoc) (simp (length-append, length_bytes_of, counts_bytes t fits, rows_bytes t fits)) fits.marks)

  pub tally_back : tally_in (tally_bytes t ++ r) ≡ t
  unfolding tally_in
  tally_back = ap tally_in tally_parts ∙ simp (square_here, counts_here, rows_here, marks_here)

-- ---- laid at the front of a room by one call, and read from it by the next
pub tally_stays : (t : Tally) (room : List ℕ) → TallyFits t → tally_long ≤ length room → tally_in (lay room 0 (tally_bytes t)) ≡ t
unfolding tally_bytes
tally_stays t room fits h =
    let long : length (tally_bytes t) ≡ tally_long = simp (length-append, length_bytes_of, counts_bytes t fits, rows_bytes t fits, marks_bytes t fits) in
    ap tally_in (lay_front room (tally_bytes t) (omega arith)) ∙ tally_back t _ fits

pub heading_stays : (s : List ℕ) (a : Arc) (room : List ℕ) → read_arc s ≡ good a → Bytes s → heading_long a.heading.parameters a.heading.stations ≤ length room
    → heading_in (lay room 0 (heading_bytes a.heading)) ≡ a.heading
heading_stays s a room accepted bounded h =
    let fit = counts_fit_lem a.heading (heading_passed s a accepted).counts in
    let arrays = heading_arrays s a accepted in
    let long = heading_long_lem a.heading (omega (arith, fit.0, arrays.0)) (omega (arith, fit.1, arrays.1)) in
    ap heading_in (lay_front room (heading_bytes a.heading) (omega arith)) ∙ read_back s a accepted bounded _

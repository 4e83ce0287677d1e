-- What an arc file that was read is, section by section; and that the heading read is sound.
-- Assumes nothing.
use Prim.Native.Nat.{ℕ, ◌+◌, ◌*◌, ◌≤◌}
use mathlib.Core.Path.{◌≡◌, refl, sym, ap, ◌∙◌}
use mathlib.Core.List.{List, [], ◌∷◌}
use mathlib.Core.Bool.{true}
use native.Mathlib.Omega.{arith}
use lib.ListN.{length, get_or, drop, length-drop}
use mir.Syntax.{w64}
use mir.Val.{SFits}
use mir.ValLaws.{to_z-Fits}
use lib.Seq.{take-append_seam}
use Rattle.num_whole.specs.Answer.{good, given}
use Rattle.num_whole.specs.Lists.{all, ascend, Each}
use Rattle.num_whole.proofs.Padded.{length_padded}
use Rattle.num_whole.proofs.Cases.{yes, holds, is_up_to, is_between, less_false, both_first, both_second}
use Rattle.byte_words.specs.Words.{signed_word}
use Rattle.byte_words.proofs.Words.{Bytes, word_small}
use Rattle.byte_section.specs.Section.{Run, section_at, closed}
use Rattle.byte_section.proofs.Walk.{good_same, pick_read, then_read}
use Rattle.byte_section.proofs.Read.{Section, section_read, records_each, records_all, records_ascend}
use Rattle.arc_limits.specs.Limits.{settings_ok, label_ok, label_key, station_ok, station_key, no_settings, no_label, no_station}
use Rattle.arc_heading.specs.Judge.{labels_of, stations_of, counts_ok, fields_ok, orders_ok, judged}
use Rattle.arc_limits.specs.declared.Settings.{Settings}
use Rattle.arc_limits.specs.declared.Label.{Label}
use Rattle.arc_limits.specs.declared.Station.{Station}
use Rattle.arc_heading.specs.declared.Heading.{Heading}
use Rattle.arc_kinds.specs.Kinds.{label_at, station_at_ok, settings_kind, label_kind, station_kind, record_kind, record_size}
use Rattle.arc_read.specs.Arc.{heading_of, Arc, read_arc}

-- ---- its four sections
pub record Parts (s : List ℕ) (a : Arc) : Type 0 where
  pub settings : Run Settings
  pub labels : Run Label
  pub stations : Run Station
  pub records : Run (List ℕ)
  pub first : section_at settings_kind s 1 1 0 ≡ good settings
  pub second : section_at label_kind s 1 50 settings.next ≡ good labels
  pub third : section_at station_kind s 0 16 labels.next ≡ good stations
  pub fourth : section_at (record_kind (length labels.items)) s 0 65535 stations.next ≡ good records
  pub last : length s ≤ records.next
  pub is : a ≡ record {
    heading = heading_of (get_or settings.items 0 no_settings) labels.items stations.items;
    count = length records.items;
    start = stations.next + 4;
  }

pub read_parts : (s : List ℕ) (a : Arc) → read_arc s ≡ good a → Parts s a
unfolding read_arc closed
read_parts s a e =
    let p = then_read _ _ _ e in
    let q = then_read _ _ _ p.2 in
    let r = then_read _ _ _ q.2 in
    let t = then_read _ _ _ r.2 in
    let c = pick_read _ _ _ _ _ t.2 in
    record {
      settings = p.0;
      labels = q.0;
      stations = r.0;
      records = t.0;
      first = p.1;
      second = q.1;
      third = r.1;
      fourth = t.1;
      last = less_false _ _ c.0;
      is = sym (good_same c.1);
    }

-- its records stand end to end, from their place to the end of the file
module _ (s : List ℕ) (a : Arc) (p : Parts s a) where
  pub records_section : Section (record_kind (length p.labels.items)) s 0 65535 p.stations.next p.records
  records_section = section_read (record_kind (length p.labels.items)) s 0 65535 p.stations.next p.records p.fourth

  pub long_run : length (drop (p.stations.next + 4) s) ≡ length p.records.items * record_size (length p.labels.items)
  long_run = length-drop (p.stations.next + 4) s ∙ omega (arith, records_section.next, records_section.within, p.last)

-- ---- a heading of what was read
module _ (x : Settings) (ls : List Label) (ts : List Station) where
  pub labels_of_lem : labels_of (heading_of x ls ts) ≡ ls
  unfolding labels_of heading_of
  labels_of_lem = take-append_seam ls _

  pub stations_of_lem : stations_of (heading_of x ls ts) ≡ ts
  unfolding stations_of heading_of
  stations_of_lem = take-append_seam ts _

-- a heading that passes each test
pub record Passed (h : Heading) : Type 0 where
  pub counts : counts_ok h ≡ true
  pub fields : fields_ok h ≡ true
  pub orders : orders_ok h ≡ true

pub passed_judged : (h : Heading) → Passed h → judged h ≡ given tt
unfolding judged
passed_judged h p = sym (yes _ _ _ p.counts (yes _ _ _ p.fields (yes _ _ _ p.orders refl)))

heading_passes : (x : Settings) (ls : List Label) (ts : List Station) → 1 ≤ length ls → length ls ≤ 50 → length ts ≤ 16 → settings_ok x ≡ true
    → all label_ok ls ≡ true → all station_ok ts ≡ true → ascend label_key 0 ls ≡ true → ascend station_key 0 ts ≡ true → Passed (heading_of x ls ts)
unfolding counts_ok fields_ok orders_ok heading_of
heading_passes x ls ts some few seats okx okl okt upl upt =
    let el = labels_of_lem x ls ts in
    let et = stations_of_lem x ls ts in
    record {
      counts = sym (holds _ _ (is_between _ _ _ some few) (sym (is_up_to _ _ seats)));
      fields = sym (holds _ _ okx (holds _ _ (ap (all label_ok) el ∙ okl) (sym (ap (all station_ok) et ∙ okt))));
      orders = sym (holds _ _ (ap (ascend label_key 0) el ∙ upl) (sym (ap (ascend station_key 0) et ∙ upt)));
    }

-- a list of one element
pub single : {A : Type 0} (l : List A) (d : A) → length l ≡ 1 → l ≡ get_or l 0 d ∷ []
single [] d e = absurd (omega arith)
single (x ∷ []) d e = refl
single (x ∷ (y ∷ l)) d e = absurd (omega arith)

-- ---- the heading that was read
module _ (s : List ℕ) (a : Arc) (e : read_arc s ≡ good a) where
  parts : Parts s a
  parts = read_parts s a e

  pub heading_passed : Passed a.heading
  unfolding all station_at_ok
  heading_passed =
      let one = section_read settings_kind s 1 1 0 parts.settings parts.first in
      let two = section_read label_kind s 1 50 parts.settings.next parts.labels parts.second in
      let three = section_read station_kind s 0 16 parts.labels.next parts.stations parts.third in
      let x = get_or parts.settings.items 0 no_settings in
      let alone : parts.settings.items ≡ x ∷ [] = single parts.settings.items no_settings (omega (arith, one.count.from, one.count.to)) in
      let okx = records_all settings_kind s settings_ok (λ at h. h) _ _ _ parts.settings one.run in
      let okl = records_all label_kind s label_ok (λ at h. h) _ _ _ parts.labels two.run in
      let okt = records_all station_kind s station_ok (λ at h. both_second _ _ h) _ _ _ parts.stations three.run in
      let upl = records_ascend label_kind s (λ l. refl) _ _ _ parts.labels two.run in
      let upt = records_ascend station_kind s (λ t. refl) _ _ _ parts.stations three.run in
      rw (ap (λ b. b.heading) parts.is)
      (heading_passes x parts.labels.items parts.stations.items two.count.from two.count.to three.count.to
      (both_first _ _ (sym (ap (all settings_ok) alone) ∙ okx)) okl okt upl upt)

  -- the heading that was read is sound
  pub heading_sound : judged a.heading ≡ given tt
  heading_sound = passed_judged a.heading heading_passed

  -- its arrays are whole, and of bytes its estimates are numbers of 64 bits
  pub heading_arrays : (length a.heading.labels ≡ 50) × (length a.heading.listed ≡ 16)
  unfolding heading_of
  heading_arrays =
      let two = section_read label_kind s 1 50 parts.settings.next parts.labels parts.second in
      let three = section_read station_kind s 0 16 parts.labels.next parts.stations parts.third in
      let h = ap (λ b. b.heading) parts.is in (
        ap (λ b. length b.labels) h ∙ length_padded 50 no_label parts.labels.items two.count.to,
        ap (λ b. length b.listed) h ∙ length_padded 16 no_station parts.stations.items three.count.to,
      )

  pub heading_estimates : Bytes s → Each (λ l. SFits w64 l.estimate) (labels_of a.heading)
  unfolding label_at signed_word
  heading_estimates bounded =
      let two = section_read label_kind s 1 50 parts.settings.next parts.labels parts.second in
      let same : labels_of a.heading ≡ parts.labels.items =
      ap (λ b. labels_of b.heading) parts.is ∙ labels_of_lem (get_or parts.settings.items 0 no_settings) parts.labels.items parts.stations.items in
      rw same
      (records_each label_kind s (λ l. SFits w64 l.estimate) (λ at. to_z-Fits w64 _ (record { fits = word_small 8 s (at + 8) bounded })) _ _ _ parts.labels two.run)

  -- its records: no more than a file may have, and how many bytes they are
  pub run_few : a.count ≤ 65535
  run_few = omega (arith, ap (λ b. b.count) parts.is, (records_section s a parts).count.to)

  pub run_start : a.start ≤ length s
  run_start = omega (arith, ap (λ b. b.start) parts.is, (records_section s a parts).next, (records_section s a parts).within)

  pub run_long : length (drop a.start s) ≡ a.count * record_size a.heading.parameters
  unfolding heading_of
  run_long =
      ap (λ b. length (drop b.start s)) parts.is ∙ long_run s a parts
      ∙ sym (ap (λ b. b.count * record_size b.heading.parameters) parts.is)

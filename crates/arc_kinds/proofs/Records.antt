-- One record of each kind: how long its bytes are, that they are read back, and that what was read is rewritten to the same bytes.
-- Assumes nothing.
use Prim.Native.Nat.{ℕ, ◌+◌, ◌-◌, ◌≤◌}
use mathlib.Core.Path.{◌≡◌, refl, sym, ap, ◌∙◌}
use mathlib.Core.List.{List, ◌++◌, append_assoc}
use mathlib.Core.Bool.{true}
use native.Mathlib.Omega.{arith}
use lib.ListN.{length, take, drop, length-append}
use mir.Syntax.{w32, w64}
use mir.Val.{SFits}
use Rattle.num_whole.proofs.Cases.{holds, is_same, same_true, both_first}
use Rattle.byte_words.specs.Words.{word, bytes_of, signed_word, signed_bytes}
use Rattle.byte_words.proofs.Words.{Bytes, length_bytes_of, word_after, word_bytes_of}
use Rattle.byte_words.proofs.Parts.{signed_back, word_forth, signed_forth, parts_join}
use Rattle.byte_words.proofs.Written.{length_signed, word_first, word_beside}
use Rattle.arc_limits.specs.Limits.{settings_ok, label_ok, station_ok}
use Rattle.arc_limits.specs.declared.Settings.{Settings}
use Rattle.arc_limits.specs.declared.Label.{Label}
use Rattle.arc_limits.specs.declared.Station.{Station}
use Rattle.arc_limits.proofs.Small.{settings_small, label_small, station_small}
use Rattle.arc_kinds.specs.Kinds.{settings_at, settings_bytes, label_at, label_bytes, station_at, station_at_ok, station_bytes}

-- ---- how long
pub length_settings : (a : Settings) → length (settings_bytes a) ≡ 12
unfolding settings_bytes
length_settings a = simp (length-append, length_bytes_of)

pub length_label : (l : Label) → length (label_bytes l) ≡ 16
unfolding label_bytes
length_label l = simp (length-append, length_bytes_of, length_signed)

pub length_station : (t : Station) → length (station_bytes t) ≡ 8
unfolding station_bytes
length_station t = simp (length-append, length_bytes_of, length_signed)

-- ---- written, then read: a record within its limits, an estimate of 64 bits
settings_here : (a : Settings) (r : List ℕ) → settings_ok a ≡ true → settings_at (settings_bytes a ++ r) 0 ≡ a
unfolding settings_at settings_bytes
settings_here a r ok =
    let h = settings_small a ok in
    let x4 = bytes_of 2 a.level ++ r in
    let x3 = bytes_of 2 a.days ++ x4 in
    let x2 = bytes_of 4 a.first ++ x3 in
    let s = bytes_of 4 a.arc ++ x2 in
    let e1 : word 4 s 0 ≡ a.arc = word_bytes_of 4 _ _ h.arc in
    let e2 : word 4 s 4 ≡ a.first = word_beside 4 4 _ x2 0 ∙ word_bytes_of 4 _ _ h.first in
    let e3 : word 2 s 8 ≡ a.days = word_beside 2 4 _ x2 4 ∙ word_beside 2 4 _ x3 0 ∙ word_bytes_of 2 _ _ h.days in
    let e4 : word 2 s 10 ≡ a.level = word_beside 2 4 _ x2 6 ∙ word_beside 2 4 _ x3 2 ∙ word_beside 2 2 _ x4 0 ∙ word_bytes_of 2 _ _ h.level in
    simp (append_assoc, e1, e2, e3, e4)

pub settings_back : (p : List ℕ) (a : Settings) (r : List ℕ) → settings_ok a ≡ true
    → (settings_at (p ++ (settings_bytes a ++ r)) (length p) ≡ a) × (settings_ok (settings_at (p ++ (settings_bytes a ++ r)) (length p)) ≡ true)
unfolding settings_at
settings_back p a r ok =
    let e : settings_at (p ++ (settings_bytes a ++ r)) (length p) ≡ a = simp (word_first, word_after) (settings_here a r ok) in
    (e, ap settings_ok e ∙ ok)

label_here : (l : Label) (r : List ℕ) → label_ok l ≡ true → SFits w64 l.estimate → label_at (label_bytes l ++ r) 0 ≡ l
unfolding label_at label_bytes signed_word
label_here l r ok f =
    let h = label_small l ok in
    let x4 = signed_bytes w64 l.estimate ++ r in
    let x3 = bytes_of 4 l.weight ++ x4 in
    let x2 = bytes_of 2 l.index ++ x3 in
    let s = bytes_of 2 l.kind ++ x2 in
    let e1 : word 2 s 0 ≡ l.kind = word_bytes_of 2 _ _ h.kind in
    let e2 : word 2 s 2 ≡ l.index = word_beside 2 2 _ x2 0 ∙ word_bytes_of 2 _ _ h.index in
    let e3 : word 4 s 4 ≡ l.weight = word_beside 4 2 _ x2 2 ∙ word_beside 4 2 _ x3 0 ∙ word_bytes_of 4 _ _ h.weight in
    let e4 : word 8 s 8 ≡ word 8 x4 0 = word_beside 8 2 _ x2 6 ∙ word_beside 8 2 _ x3 4 ∙ word_beside 8 4 _ x4 0 in
    simp (append_assoc, e1, e2, e3, e4, signed_back w64 l.estimate r f)

pub label_back : (p : List ℕ) (l : Label) (r : List ℕ) → (label_ok l ≡ true) × SFits w64 l.estimate
    → (label_at (p ++ (label_bytes l ++ r)) (length p) ≡ l) × (label_ok (label_at (p ++ (label_bytes l ++ r)) (length p)) ≡ true)
unfolding label_at signed_word
label_back p l r h =
    let e : label_at (p ++ (label_bytes l ++ r)) (length p) ≡ l = simp (word_first, word_after) (label_here l r h.0 h.1) in
    (e, ap label_ok e ∙ h.0)

station_here : (t : Station) (r : List ℕ) → station_ok t ≡ true → (station_at (station_bytes t ++ r) 0 ≡ t) × (word 2 (station_bytes t ++ r) 2 ≡ 0)
unfolding station_at station_bytes signed_word
station_here t r ok =
    let h = station_small t ok in
    let x3 = signed_bytes w32 t.correction ++ r in
    let x2 = bytes_of 2 0 ++ x3 in
    let s = bytes_of 2 t.number ++ x2 in
    let e1 : word 2 s 0 ≡ t.number = word_bytes_of 2 _ _ h.number in
    let e2 : word 2 s 2 ≡ 0 = word_beside 2 2 _ x2 0 ∙ word_bytes_of 2 0 x3 (omega arith) in
    let e3 : word 4 s 4 ≡ word 4 x3 0 = word_beside 4 2 _ x2 2 ∙ word_beside 4 2 _ x3 0 in
    (simp (append_assoc, e1, e3, signed_back w32 t.correction r h.correction), simp (append_assoc, e2))

pub station_back : (p : List ℕ) (t : Station) (r : List ℕ) → station_ok t ≡ true
    → (station_at (p ++ (station_bytes t ++ r)) (length p) ≡ t) × (station_at_ok (p ++ (station_bytes t ++ r)) (length p) ≡ true)
unfolding station_at station_at_ok signed_word
station_back p t r ok =
    let h = station_here t r ok in
    let e : station_at (p ++ (station_bytes t ++ r)) (length p) ≡ t = simp (word_first, word_after) h.0 in
    let z : word 2 (p ++ (station_bytes t ++ r)) (length p + 2) ≡ 0 = word_after 2 p (station_bytes t ++ r) 2 ∙ h.1 in
    (e, sym (holds _ _ (is_same _ _ z) (sym (ap station_ok e ∙ ok))))

-- ---- read, then written
module _ (s : List ℕ) (bounded : Bytes s) (at : ℕ) where
  pub settings_forth : 12 ≤ length s - at → settings_bytes (settings_at s at) ≡ take 12 (drop at s)
  unfolding settings_at settings_bytes
  settings_forth room =
      simp (
        word_forth s bounded 4 at (omega arith),
        word_forth s bounded 4 (at + 4) (omega arith),
        word_forth s bounded 2 (at + 8) (omega arith),
        word_forth s bounded 2 (at + 10) (omega arith),
        parts_join s (at + 8) 2 2 (at + 10) 4 (omega arith) refl,
        parts_join s (at + 4) 4 4 (at + 8) 8 (omega arith) refl,
        parts_join s at 4 8 (at + 4) 12 refl refl,
      )

  pub label_forth : 16 ≤ length s - at → label_bytes (label_at s at) ≡ take 16 (drop at s)
  unfolding label_at label_bytes
  label_forth room =
      simp (
        word_forth s bounded 2 at (omega arith),
        word_forth s bounded 2 (at + 2) (omega arith),
        word_forth s bounded 4 (at + 4) (omega arith),
        signed_forth s bounded w64 (at + 8) (omega arith),
        parts_join s (at + 4) 4 8 (at + 8) 12 (omega arith) refl,
        parts_join s (at + 2) 2 12 (at + 4) 14 (omega arith) refl,
        parts_join s at 2 14 (at + 2) 16 refl refl,
      )

  -- the two bytes between the number and the correction are 0 where the record is allowed
  pub station_forth : 8 ≤ length s - at → station_at_ok s at ≡ true → station_bytes (station_at s at) ≡ take 8 (drop at s)
  unfolding station_at station_at_ok station_bytes
  station_forth room ok =
      let zero : word 2 s (at + 2) ≡ 0 = same_true _ _ (both_first _ _ ok) in
      let gap : bytes_of 2 0 ≡ take 2 (drop (at + 2) s) = ap (bytes_of 2) (sym zero) ∙ word_forth s bounded 2 (at + 2) (omega arith) in
      simp (
        gap,
        word_forth s bounded 2 at (omega arith),
        signed_forth s bounded w32 (at + 4) (omega arith),
        parts_join s (at + 2) 2 4 (at + 4) 6 (omega arith) refl,
        parts_join s at 2 6 (at + 2) 8 refl refl,
      )

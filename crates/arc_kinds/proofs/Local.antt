-- Each kind of record reads of its own bytes alone.
-- Assumes nothing.
use Prim.Native.Nat.{ℕ, ◌+◌, ◌≤◌}
use mathlib.Core.Path.{◌≡◌, refl, ap}
use mathlib.Core.List.{List, ◌++◌}
use native.Mathlib.Omega.{arith}
use lib.Dec.{lit<}
use lib.ListN.{length, take, drop, length-drop}
use lib.Seq.{take-append-le, drop-append-le}
use Rattle.byte_words.specs.Words.{signed_word}
use Rattle.byte_words.proofs.Words.{word_within}
use Rattle.byte_section.proofs.Prefix.{Local}
use Rattle.arc_limits.specs.Limits.{settings_ok, label_ok}
use Rattle.arc_kinds.specs.Kinds.{settings_at, label_at, station_at, station_at_ok, settings_kind, label_kind, station_kind, record_kind, record_size}

module _ (s t : List ℕ) (at : ℕ) where
  settings_within : at + 12 ≤ length s → settings_at (s ++ t) at ≡ settings_at s at
  unfolding settings_at
  settings_within h =
      simp (
        word_within 4 s t at (omega arith),
        word_within 4 s t (at + 4) (omega arith),
        word_within 2 s t (at + 8) (omega arith),
        word_within 2 s t (at + 10) (omega arith),
      )

  label_within : at + 16 ≤ length s → label_at (s ++ t) at ≡ label_at s at
  unfolding label_at signed_word
  label_within h =
      simp (
        word_within 2 s t at (omega arith),
        word_within 2 s t (at + 2) (omega arith),
        word_within 4 s t (at + 4) (omega arith),
        word_within 8 s t (at + 8) (omega arith),
      )

  station_within : at + 8 ≤ length s → station_at (s ++ t) at ≡ station_at s at
  unfolding station_at signed_word
  station_within h = simp (word_within 2 s t at (omega arith), word_within 4 s t (at + 4) (omega arith))

  station_ok_within : at + 8 ≤ length s → station_at_ok (s ++ t) at ≡ station_at_ok s at
  unfolding station_at_ok
  station_ok_within h = simp (word_within 2 s t (at + 2) (omega arith), station_within h)

  record_within : (k : ℕ) → at + k ≤ length s → take k (drop at (s ++ t)) ≡ take k (drop at s)
  record_within k h =
      let here : at ≤ length s = omega arith in
      let room : k ≤ length (drop at s) = rw length-drop (omega arith) in
      rw (drop-append-le at s t here, take-append-le k (drop at s) t room)

pub settings_local : Local settings_kind
settings_local =
    record { some = lit< tt; decoded = settings_within; allowed = λ s t at h. ap settings_ok (settings_within s t at h) }

pub label_local : Local label_kind
label_local =
    record { some = lit< tt; decoded = label_within; allowed = λ s t at h. ap label_ok (label_within s t at h) }

pub station_local : Local station_kind
station_local = record { some = lit< tt; decoded = station_within; allowed = station_ok_within }

pub record_local : (p : ℕ) → Local (record_kind p)
record_local p =
    record { some = omega arith; decoded = λ s t at h. record_within s t at (record_size p) h; allowed = λ s t at h. refl }

-- Document 01, 'Arc file': the four kinds of record of an arc file, as kinds of the generic section.
use Rattle.std.specs.Prelude.{ℕ, ◌+◌, ◌*◌, List, ◌++◌, Bool, true, take, drop}
use Rattle.std.specs.Int.{w32, w64}
use Rattle.num_limits.specs.Capacities.{record_fixed, partial_size}
use Rattle.num_whole.specs.Tests.{same, both}
use Rattle.byte_words.specs.Words.{word, bytes_of, signed_word, signed_bytes}
use Rattle.byte_section.specs.Section.{Kind}
use Rattle.arc_limits.specs.Limits.{settings_ok, label_ok, label_key, station_ok, station_key}
use Rattle.arc_limits.specs.declared.Settings.{Settings}
use Rattle.arc_limits.specs.declared.Label.{Label}
use Rattle.arc_limits.specs.declared.Station.{Station}

-- "Settings, count 1, 12 bytes: arc u32, first day u32, days u16, edit level K u16"
unfoldable pub settings_at : List ℕ → ℕ → Settings
settings_at s at =
    record { arc = word 4 s at; first = word 4 s (at + 4); days = word 2 s (at + 8); level = word 2 s (at + 10) }

unfoldable pub settings_bytes : Settings → List ℕ
settings_bytes a = bytes_of 4 a.arc ++ (bytes_of 4 a.first ++ (bytes_of 2 a.days ++ bytes_of 2 a.level))

abbrev pub settings_kind : Kind Settings
settings_kind =
    record { size = 12; decode = settings_at; fields_ok = λ s at. settings_ok (settings_at s at); key = λ a. 0; after = λ a. 0 }

-- "Parameters, 16 bytes: kind u16, index u16, prior weight u32, estimate i64 .. Strictly ascending by kind, index."
unfoldable pub label_at : List ℕ → ℕ → Label
label_at s at =
    record { kind = word 2 s at; index = word 2 s (at + 2); weight = word 4 s (at + 4); estimate = signed_word w64 s (at + 8) }

unfoldable pub label_bytes : Label → List ℕ
label_bytes l = bytes_of 2 l.kind ++ (bytes_of 2 l.index ++ (bytes_of 4 l.weight ++ signed_bytes w64 l.estimate))

abbrev pub label_kind : Kind Label
label_kind =
    record { size = 16; decode = label_at; fields_ok = λ s at. label_ok (label_at s at); key = label_key; after = λ l. label_key l + 1 }

-- "Stations, 8 bytes: number u16, zero u16, clock correction i32. Strictly ascending by number."
unfoldable pub station_at : List ℕ → ℕ → Station
station_at s at = record { number = word 2 s at; correction = signed_word w32 s (at + 4) }

unfoldable pub station_at_ok : List ℕ → ℕ → Bool
station_at_ok s at = both (same (word 2 s (at + 2)) 0) (station_ok (station_at s at))

unfoldable pub station_bytes : Station → List ℕ
station_bytes t = bytes_of 2 t.number ++ (bytes_of 2 0 ++ signed_bytes w32 t.correction)

abbrev pub station_kind : Kind Station
station_kind =
    record { size = 8; decode = station_at; fields_ok = station_at_ok; key = station_key; after = λ t. station_key t + 1 }

-- "Records, each 32 + 2P bytes for P parameters"; "Contents of tracking records wait until taken": a record is its bytes
abbrev pub record_size : ℕ → ℕ
record_size p = record_fixed + partial_size * p

abbrev pub record_kind : ℕ → Kind (List ℕ)
record_kind p =
    record {
      size = record_size p;
      decode = λ s at. take (record_size p) (drop at s);
      fields_ok = λ s at. true;
      key = λ r. 0;
      after = λ r. 0;
    }

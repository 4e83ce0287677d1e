-- Demand 3, order: however the stations' records are mixed, each record gets the same answer as with the stations taken one after another, which
-- is the one that it gets where its station's records are taken alone, and the sums, counts and last times end the same. A mix keeps each station's
-- own order; records of no station stand anywhere.
use Rattle.std.specs.Prelude.{ℕ, ◌<◌, ◌≡◌, List, [], ◌∷◌, map, ◌↔◌, ℤ, length}
use Rattle.num_limits.specs.Capacities.{stations_most}
use Rattle.num_whole.specs.Tests.{up_to, same, pick}
use Rattle.num_whole.specs.Answer.{given}
use Rattle.refusal.specs.First.{first}
use Rattle.arc_heading.specs.declared.Heading.{Heading}
use Rattle.arc_kinds.specs.Kinds.{record_size}
use Rattle.take_laws.specs.Taking.{Frame, frame_of, station_in, station_row, length_tests}
use Rattle.take_laws.specs.Mix.{keep, only, in_order, Alike, told_to}
use Rattle.take_laws.specs.Arc.{end_of, told_in}

-- the row of a record's station; 16 for a record of no station: its length is wrong, or its station is not listed
unfoldable pub whose : Frame → List ℕ → ℕ
whose f b = pick (same (length b) (record_size f.parameters)) (station_row f b) stations_most

-- what a record of no station is answered: 1 or 3, else 10
unfoldable pub stray_answer : Frame → List ℕ → ℕ
stray_answer f b = first (first (length_tests f b) ∷ 10 ∷ [])

-- two mixes of the same: the same records of each station, in the same order
abbrev pub Mixes : Frame → List (List ℕ) → List (List ℕ) → Type 0
Mixes f bs cs = Alike (whose f) stations_most bs cs

pub record Order (h : Heading) (m r : List ℤ) : Type 0 where
  -- a record is of the station in row k exactly where its length is right and its station is listed there
  pub rows : (b : List ℕ) (k : ℕ) → k < stations_most
      → (whose (frame_of h) b ≡ k) ↔ ((length b ≡ record_size h.parameters) × (station_in (frame_of h) b ≡ given k))
  -- what the records of the station in row k are told, in order, is what they are told when they are taken alone from the start
  pub alone : (bs : List (List ℕ)) (k : ℕ) → told_to (whose (frame_of h)) k (told_in h m r bs) ≡ told_in h m r (only (whose (frame_of h)) k bs)
  -- what a record of no station is told is fixed by the record
  pub strays : (bs : List (List ℕ))
      → keep (λ x. up_to stations_most (whose (frame_of h) x.0)) (told_in h m r bs)
      ≡ map (λ b. (b, stray_answer (frame_of h) b)) (keep (λ b. up_to stations_most (whose (frame_of h) b)) bs)
  -- each station's records are told what they are told with the stations taken one after another. Records of no station are not in that order:
  -- what they are told is `strays`
  pub one_by_one : (bs : List (List ℕ)) (k : ℕ) → k < stations_most
      → told_to (whose (frame_of h)) k (told_in h m r bs) ≡ told_to (whose (frame_of h)) k (told_in h m r (in_order (whose (frame_of h)) stations_most bs))
  -- and the end is that of the stations taken one after another
  pub ends : (bs : List (List ℕ)) → end_of h m r bs ≡ end_of h m r (in_order (whose (frame_of h)) stations_most bs)
  -- hence two mixes give each record the same answer, and end in the same state
  pub same_answers : (bs cs : List (List ℕ)) → Mixes (frame_of h) bs cs → (k : ℕ) → k < stations_most
      → told_to (whose (frame_of h)) k (told_in h m r bs) ≡ told_to (whose (frame_of h)) k (told_in h m r cs)
  pub same_end : (bs cs : List (List ℕ)) → Mixes (frame_of h) bs cs → end_of h m r bs ≡ end_of h m r cs

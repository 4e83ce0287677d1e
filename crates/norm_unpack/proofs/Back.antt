-- What is unpacked is the system that stands in the rooms, and written again it is the same file where that is of the old form.
-- Assumes nothing.
use mathlib.Core.Path.{◌≡◌, refl, ap, ◌∙◌}
use mathlib.Core.List.{List}
use mathlib.Core.Bool.{false}
use Prim.Native.Nat.{ℕ}
use lib.IntN.{ℤ}
use lib.ListN.{length}
use Rattle.num_whole.specs.Answer.{good}
use Rattle.byte_words.proofs.Words.{Bytes}
use Rattle.byte_section.proofs.Walk.{pick_kept, then_read}
use Rattle.norm_kinds.specs.Bytes.{normal_bytes}
use Rattle.norm_read.specs.Normal.{Normal, read_normal}
use Rattle.norm_read.proofs.Accepted.{accepted_sound, accepted_estimates}
use Rattle.norm_read.proofs.Back.{old_written}
use Rattle.norm_room.specs.Room.{system_in_rooms, heads_of}
use Rattle.norm_room.proofs.Back.{room_back}
use Rattle.norm_unpack.specs.Unpack.{roomily, unpack_normal, filled, matrix_of, rights_of}

-- a file that is unpacked was read
pub unpack_read : (s : List ℕ) (heads matrix rights : ℕ) (x : Normal) → unpack_normal s heads matrix rights ≡ good x → read_normal s ≡ good x
unfolding unpack_normal roomily
unpack_read s heads matrix rights x e =
    let a = then_read _ _ _ e in
    a.1 ∙ (pick_kept _ _ _ _ _ a.2).1

module _ (s : List ℕ) (bounded : Bytes s) (h : List ℕ) (m r : List ℤ) (x : Normal) (e : unpack_normal s (length h) (length m) (length r) ≡ good x) where
  -- the rooms hold what the file holds
  pub unpack_back : system_in_rooms (length x.holds.arcs) (length x.holds.labels) (filled heads_of (good x) h) (filled matrix_of (good x) m) (filled rights_of (good x) r) ≡ x.holds
  unfolding filled
  unpack_back =
      let f = unpack_read s (length h) (length m) (length r) x e in
      let o = accepted_sound s x f in
      room_back x.holds _ _ refl refl (accepted_estimates s x f bounded) o.matrix o.rights h m r

  -- unpacked, then written by 01: the same bytes, of a file of the old form
  pub unpack_written : x.small ≡ false → normal_bytes (system_in_rooms (length x.holds.arcs) (length x.holds.labels) (filled heads_of (good x) h) (filled matrix_of (good x) m) (filled rights_of (good x) r)) ≡ s
  unpack_written old = ap normal_bytes unpack_back ∙ old_written s x (unpack_read s (length h) (length m) (length r) x e) old bounded

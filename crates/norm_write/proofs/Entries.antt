-- Both round trips of a normal file by what the entries answer and leave in lent room: unpacked and then written it is the same file, and a
-- system written and then unpacked stands in the rooms as it stood. `Bytes` and `Words` say only that elements are bytes and words of 64 bits, as
-- all that stands in memory.
-- Assumes nothing.
use Prim.Native.Nat.{ℕ, ◌≤◌, ◌<◌}
use mathlib.Core.Path.{◌≡◌, refl, sym, ap, ap₂, ◌∙◌, subst}
use mathlib.Core.Bool.{true, false}
use mathlib.Core.List.{List}
use native.Mathlib.Omega.{arith}
use lib.IntN.{ℤ}
use lib.ListN.{length, take, drop, length-append}
use lib.Seq.{take_at}
use Rattle.num_whole.specs.Answer.{Judged, good, given, refused}
use Rattle.num_whole.specs.Lists.{over}
use Rattle.num_whole.proofs.Cases.{yes, holds, is_up_to, less_false}
use Rattle.byte_words.specs.Words.{lay}
use Rattle.byte_words.proofs.Words.{Bytes, lay_front}
use Rattle.refusal.proofs.Firsts.{first_none, when_none, answered_is}
use Rattle.byte_section.proofs.Walk.{then_good}
use Rattle.byte_section.proofs.Writing.{on_short, left_new}
use Rattle.num_packed.specs.Triangle.{tri}
use Rattle.norm_system.proofs.Sound.{SoundSystem}
use Rattle.norm_kinds.specs.Bytes.{normal_bytes}
use Rattle.norm_read.specs.Normal.{Normal, read_normal}
use Rattle.norm_read.proofs.Accepted.{accepted_sound}
use Rattle.norm_read.proofs.Back.{placed}
use Rattle.num_packed.specs.Room.{sums_roomy}
use Rattle.norm_room.specs.Room.{heads_long, system_in_rooms, heads_of, heads_roomy, roomy_for, system_number}
use Rattle.norm_judge.specs.Judge.{Roomed}
use Rattle.norm_put.proofs.Laid.{arcs_in, labels_in_lem}
use Rattle.norm_unpack.specs.Unpack.{roomily, unpack_normal, filled, matrix_of, rights_of}
use Rattle.norm_unpack.proofs.Back.{unpack_read, unpack_back, unpack_written}
use Rattle.norm_write.specs.Write.{room_bytes, write_number, write_normal, normal_left_in}
use Rattle.norm_write.proofs.Sound.{Written, number_sound, sound_number}
use Rattle.norm_write.proofs.Laws.{Words, written_back, rewritten}
use Rattle.norm_write.proofs.Heads.{heads_long_lem, heads_in}

-- ---- unpacked, then written
-- new elements at the front of a room have their number
front_long : {A : Type 0} (new old : List A) (n : ℕ) → length new ≡ n → n ≤ length (over new old)
unfolding over
front_long new old n e = omega (arith, length-append new (drop (length new) old))

module _ (s : List ℕ) (bounded : Bytes s) (h : List ℕ) (m r : List ℤ) (x : Normal) (e : unpack_normal s (length h) (length m) (length r) ≡ good x) where
  -- what the unpacking answers, and the numbers of arcs and parameters that it tells
  abbrev unpacked : Judged Normal
  unpacked = unpack_normal s (length h) (length m) (length r)

  abbrev a : ℕ
  a = length x.holds.arcs

  abbrev p : ℕ
  p = length x.holds.labels

  read : read_normal s ≡ good x
  read = unpack_read s (length h) (length m) (length r) x e

  fit : Roomed a p (length (filled heads_of (good x) h)) (length (filled matrix_of (good x) m)) (length (filled rights_of (good x) r))
  unfolding filled
  fit =
      let o = accepted_sound s x read in
      record {
        arcs = o.few_arcs;
        parameters = o.few_labels;
        heads_fit = front_long (heads_of x.holds) h (heads_long a p) (heads_long_lem x.holds);
        matrix_fits = front_long x.holds.matrix m (tri p) o.matrix;
        rights_fit = front_long x.holds.rights r p o.rights;
      }

  -- of the old form, the file's own bytes again, at the front of the buffer, which keeps its rest
  pub unpacked_written : x.small ≡ false → (out : List ℕ) → length s ≤ length out
      → (write_normal a p (filled heads_of unpacked h) (filled matrix_of unpacked m) (filled rights_of unpacked r) (length out) ≡ given (length s))
      × (normal_left_in a p (filled heads_of unpacked h) (filled matrix_of unpacked m) (filled rights_of unpacked r) out ≡ lay out 0 s)
  unpacked_written old out room =
      subst
      (λ j. (write_normal a p (filled heads_of j h) (filled matrix_of j m) (filled rights_of j r) (length out) ≡ given (length s))
      × (normal_left_in a p (filled heads_of j h) (filled matrix_of j m) (filled rights_of j r) out ≡ lay out 0 s))
      (sym e)
      (rewritten a p (filled heads_of (good x) h) (filled matrix_of (good x) m) (filled rights_of (good x) r) s out x bounded read old (sym (unpack_back s bounded h m r x e)) fit room)

  -- or 20, where the buffer is shorter than the file
  pub unpacked_short : x.small ≡ false → (out : List ℕ) → length out < length s
      → (write_normal a p (filled heads_of unpacked h) (filled matrix_of unpacked m) (filled rights_of unpacked r) (length out) ≡ refused 20)
      × (normal_left_in a p (filled heads_of unpacked h) (filled matrix_of unpacked m) (filled rights_of unpacked r) out ≡ out)
  unfolding write_normal normal_left_in room_bytes
  unpacked_short old out short =
      let heads = filled heads_of (good x) h in
      let matrix = filled matrix_of (good x) m in
      let rights = filled rights_of (good x) r in
      let none = sound_number a p heads matrix rights fit (subst SoundSystem (sym (unpack_back s bounded h m r x e)) (accepted_sound s x read)) in
      let long : length out < length (normal_bytes (system_in_rooms a p heads matrix rights)) = omega (arith, ap length (unpack_written s bounded h m r x e old)) in
      let told = on_short (system_number a p heads matrix rights) (normal_bytes (system_in_rooms a p heads matrix rights)) out none long in
      subst
      (λ j. (write_normal a p (filled heads_of j h) (filled matrix_of j m) (filled rights_of j r) (length out) ≡ refused 20)
      × (normal_left_in a p (filled heads_of j h) (filled matrix_of j m) (filled rights_of j r) out ≡ out))
      (sym e) (sym told.0, sym told.1)

-- ---- written, then unpacked
module _ (a p : ℕ) (h : List ℕ) (m r : List ℤ) (fits : Words h) (out : List ℕ) (n : ℕ) (e : write_normal a p h m r (length out) ≡ given n) where
  told : (write_number a p h m r (length out) ≡ 0) × (length (room_bytes a p h m r) ≡ n)
  unfolding write_normal write_number
  told = answered_is _ _ _ e

  held : Written a p h m r
  unfolding write_number
  held = number_sound a p h m r (first_none _ _ told.0).0

  roomy_out : length (room_bytes a p h m r) ≤ length out
  unfolding write_number
  roomy_out = less_false _ _ (when_none 20 _ (λ z. omega arith) (first_none _ _ (first_none _ _ told.0).1).0)

  -- the file in the buffer
  file : take n (normal_left_in a p h m r out) ≡ room_bytes a p h m r
  unfolding normal_left_in write_number
  file =
      ap (take n) (sym (left_new (system_number a p h m r) (room_bytes a p h m r) out told.0) ∙ lay_front out (room_bytes a p h m r) roomy_out)
      ∙ take_at (room_bytes a p h m r) _ n told.1

  -- three rooms that are long enough, whatever they hold and however long they are
  module _ (heads : List ℕ) (matrix rights : List ℤ) (long : heads_long a p ≤ length heads) (many : tri p ≤ length matrix) (sides : p ≤ length rights) where
    abbrev again : Judged Normal
    again = unpack_normal (take n (normal_left_in a p h m r out)) (length heads) (length matrix) (length rights)

    pub written_unpacked : again ≡ good (placed (system_in_rooms a p h m r))
    unfolding unpack_normal roomily roomy_for heads_roomy sums_roomy
    written_unpacked =
        let arcs : length (system_in_rooms a p h m r).arcs ≡ a = arcs_in a p h m r (omega (arith, held.room.heads_fit)) in
        let labels : length (system_in_rooms a p h m r).labels ≡ p = labels_in_lem a p h m r in
        let room : roomy_for a p (length heads) (length matrix) (length rights) ≡ true =
        sym (holds _ _ (is_up_to _ _ long) (holds _ _ (is_up_to _ _ many) (sym (is_up_to _ _ sides)))) in
        then_good _ _ (ap read_normal file ∙ written_back a p h m r (length out) fits told.0)
        ∙ sym (yes _ _ _ (ap₂ (λ y z. roomy_for y z (length heads) (length matrix) (length rights)) arcs labels ∙ room) refl)

    -- the first elements of each room are those of the room that was written from; the rest is kept
    pub heads_again : filled heads_of again heads ≡ over (take (heads_long a p) h) heads
    unfolding filled
    heads_again =
        ap (λ j. filled heads_of j heads) written_unpacked
        ∙ ap (λ l. over l heads) (heads_in h fits a p m r held.room.heads_fit (arcs_in a p h m r (omega (arith, held.room.heads_fit))) (labels_in_lem a p h m r))

    pub matrix_again : filled matrix_of again matrix ≡ over (take (tri p) m) matrix
    unfolding filled system_in_rooms
    matrix_again = ap (λ j. filled matrix_of j matrix) written_unpacked

    pub rights_again : filled rights_of again rights ≡ over (take p r) rights
    unfolding filled system_in_rooms
    rights_again = ap (λ j. filled rights_of j rights) written_unpacked

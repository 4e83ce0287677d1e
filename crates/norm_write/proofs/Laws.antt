-- Both round trips of the normal file from lent room: what is written reads back the same, and a file of the old form that is accepted is
-- rewritten to the same bytes.
-- Assumes nothing.
use Prim.Native.Nat.{ℕ, zero, suc, ◌+◌, ◌^◌, ◌≤◌, ◌<◌}
use mathlib.Core.Path.{◌≡◌, sym, ap, ◌∙◌, subst}
use mathlib.Core.List.{List}
use mathlib.Core.Bool.{false}
use native.Mathlib.Omega.{arith}
use lib.IntN.{ℤ}
use lib.ListN.{length, get_or}
use mir.Syntax.{w64}
use mir.Val.{SFits}
use mir.ValLaws.{to_z-Fits}
use Rattle.num_whole.specs.Answer.{good, given}
use Rattle.byte_words.specs.Words.{lay}
use Rattle.byte_words.proofs.Words.{Bytes}
use Rattle.refusal.proofs.Firsts.{first_none}
use Rattle.num_whole.specs.Lists.{Each}
use Rattle.norm_system.proofs.Sound.{SoundSystem}
use Rattle.byte_words.specs.Stands.{stands}
use Rattle.norm_kinds.specs.Bytes.{normal_bytes}
use Rattle.norm_read.specs.Normal.{Normal, read_normal}
use Rattle.norm_read.proofs.Back.{placed, written_read, old_written}
use Rattle.norm_read.proofs.Accepted.{accepted_sound}
use Rattle.norm_room.specs.Room.{label_in_heads, system_in_rooms, system_number}
use Rattle.norm_judge.specs.Judge.{Roomed}
use Rattle.norm_write.specs.Write.{room_bytes, write_number, write_normal, normal_left_in}
use Rattle.byte_section.proofs.Writing.{on_written}
use Rattle.norm_write.proofs.Sound.{number_sound, sound_number}

-- every element is a word of 64 bits
abbrev pub Words : List ℕ → Type 0
Words h = (i : ℕ) → get_or h i 0 < 2 ^ 64

module _ (a p : ℕ) (h : List ℕ) (m r : List ℤ) where
  -- ---- written, then read: what is read holds exactly the system, at the places of its numbers of arcs and parameters
  estimates : Words h → (n place : ℕ) → Each (λ l. SFits w64 l.estimate) (stands (label_in_heads h) 5 n place)
  unfolding stands label_in_heads
  estimates u zero place = tt
  estimates u (suc n) place = (to_z-Fits w64 _ (record { fits = u (place + 4) }), estimates u n (place + 5))

  held : Words h → Each (λ l. SFits w64 l.estimate) (system_in_rooms a p h m r).labels
  unfolding system_in_rooms
  held u = estimates u p a

  pub written_back : (room : ℕ) → Words h → write_number a p h m r room ≡ 0 → read_normal (room_bytes a p h m r) ≡ good (placed (system_in_rooms a p h m r))
  unfolding write_number room_bytes
  written_back room u e = written_read (system_in_rooms a p h m r) (number_sound a p h m r (first_none _ _ e).0).sound (held u)

  -- ---- read, then written
  pub rewritten : (s out : List ℕ) (y : Normal) → Bytes s → read_normal s ≡ good y → y.small ≡ false → y.holds ≡ system_in_rooms a p h m r → Roomed a p (length h) (length m) (length r) → length s ≤ length out
      → (write_normal a p h m r (length out) ≡ given (length s)) × (normal_left_in a p h m r out ≡ lay out 0 s)
  unfolding write_normal write_number normal_left_in room_bytes
  rewritten s out y bounded e old same fit room =
      let bytes : normal_bytes (system_in_rooms a p h m r) ≡ s = ap normal_bytes (sym same) ∙ old_written s y e old bounded in
      let none = sound_number a p h m r fit (subst SoundSystem same (accepted_sound s y e)) in
      let told = on_written (system_number a p h m r) (normal_bytes (system_in_rooms a p h m r)) out none (omega (arith, ap length bytes)) in
      (sym told.0 ∙ ap (λ b. given (length b)) bytes, sym told.1 ∙ ap (lay out 0) bytes)

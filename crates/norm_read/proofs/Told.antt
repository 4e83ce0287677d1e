-- What a reader's answer says of a file: its numbers are those of an accepted file, and its refusal is the file's.
-- Assumes nothing.
use mathlib.Core.Path.{◌≡◌, refl, sym}
use Prim.Native.Nat.{ℕ}
use Rattle.num_whole.specs.Answer.{Judged, good, bad}
use Rattle.byte_section.proofs.Walk.{not_bad, good_same}
use Rattle.norm_read.specs.Normal.{Normal, numbers_in, numbers_of}
use Rattle.norm_read.specs.declared.NormalRead.{NormalRead}

pub told_good : (j : Judged Normal) (r : NormalRead) → numbers_of j ≡ good r → (x : Normal) × (j ≡ good x) × (r ≡ numbers_in x)
told_good (good x) r e = (x, refl, sym (good_same e))
told_good (bad number place) r e = absurd (not_bad (sym e))

pub told_bad : (j : Judged Normal) {number place : ℕ} → numbers_of j ≡ bad number place → j ≡ bad number place
told_bad (good x) e = absurd (not_bad e)
told_bad (bad n p) e = cc

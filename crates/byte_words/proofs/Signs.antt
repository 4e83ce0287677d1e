-- Signed numbers in two's complement, over the width: both round trips in bytes.
-- Assumes nothing.
use mathlib.Core.Path.{◌≡◌, refl, ap, ◌∙◌}
use mathlib.Core.List.{List}
use Prim.Native.Nat.{ℕ, ◌+◌, ◌^◌, ◌<◌, ◌≤◌}
use lib.IntN.{ℤ}
use lib.ListN.{length}
use mir.Syntax.{Width, w8, w16, w32, w64, w128}
use mir.Val.{SFits, to_z, of_z, bits, bytes}
use mir.ValLaws.{to_z-of_z, of_z-to_z, of_z_fits}
use Rattle.byte_words.specs.Words.{word, lay, signed_word, signed_bytes}
use Rattle.byte_words.proofs.Words.{Bytes, word_small, read_written, write_read}

pub full : (w : Width) → 256 ^ bytes w ≡ 2 ^ bits w
full w8 = refl
full w16 = refl
full w32 = refl
full w64 = refl
full w128 = refl

pub signed_read_written : (w : Width) (s : List ℕ) (at : ℕ) (z : ℤ) → at + bytes w ≤ length s → SFits w z → signed_word w (lay s at (signed_bytes w z)) at ≡ z
unfolding signed_word signed_bytes
signed_read_written w s at z h f =
    ap (to_z w) (read_written (bytes w) s at (of_z w z) h (rw (full w) (of_z_fits w z f).fits)) ∙ to_z-of_z w z f

pub signed_write_read : (w : Width) (s : List ℕ) (at : ℕ) → Bytes s → lay s at (signed_bytes w (signed_word w s at)) ≡ s
unfolding signed_word signed_bytes
signed_write_read w s at h =
    let small : word (bytes w) s at < 2 ^ bits w = rw (full w) at (word_small (bytes w) s at h) in
    let same : of_z w (to_z w (word (bytes w) s at)) ≡ word (bytes w) s at = of_z-to_z w (word (bytes w) s at) (record { fits = small }) in
    rw same (write_read (bytes w) s at h)

-- The bytes of a number in a part of a slice, put back, are laid over the slice from the part's place on.
use Rattle.std.proofs.Common.{◌≡◌, ℕ, ◌+◌, ◌-◌, ◌/◌, ◌^◌, ◌<◌, ◌≤◌, List, length, take, drop, length-drop, append_assoc, refl, sym, ◌∙◌, ap, arith}
use borrow.Rule.Slice.PartMut.{put_mid}
use lib.Seq.{sets-eq, length-take-le, drop-drop}
use Rattle.byte_words.specs.Words.{lay, bytes_of}
use Rattle.byte_words.proofs.Words.{length_bytes_of, bytes_of_join, lay_append, lay_out, length_lay}

-- the part has just their length
pub laid_whole : (n m : ℕ) (s r : List ℕ) (at v : ℕ) → m ≡ n → at + n ≤ length s → r ≡ bytes_of (length (take m (drop at s))) v → put_mid at m s r ≡ lay s at (bytes_of n v)
unfolding lay
laid_whole n m s r at v e h is =
    let size : length (take n (drop at s)) ≡ n = length-take-le n (drop at s) (omega (arith, length-drop at s)) in
    let put : r ≡ bytes_of n v = rw (e, size) at is in
    let bs : length (bytes_of n v) ≡ n = length_bytes_of n v in
    rw (e, put, drop-drop n at s) (sym (append_assoc (take at s) (bytes_of n v) (drop (at + n) s)) ∙ rw bs at (sym (sets-eq (bytes_of n v) s at (omega arith))))

-- the part ends with the slice, and the bytes past it are dropped
pub laid_short : (k m : ℕ) (s r : List ℕ) (at v : ℕ) → m ≡ length s - at → at < length s → m < k → r ≡ bytes_of (length (take m (drop at s))) v → put_mid at m s r ≡ lay s at (bytes_of k v)
laid_short k m s r at v e h f is =
    let more : k ≡ m + (k - m) = omega arith in
    let first = bytes_of m v in
    let others = bytes_of (k - m) (v / 256 ^ m) in
    let n : length first ≡ m = length_bytes_of m v in
    let out : lay (lay s at first) (at + m) others ≡ lay s at first = lay_out _ _ _ (omega (arith, length_lay s at first)) in
    laid_whole m m s r at v refl (omega arith) is ∙ sym out ∙ lay_append s at (at + m) first others (omega arith)
    ∙ ap (lay s at) (sym (bytes_of_join m (k - m) v)) ∙ ap (λ j. lay s at (bytes_of j v)) (sym more)

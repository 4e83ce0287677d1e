-- A position's bytes: its parts, each laid where the last one ends, are the whole; and what is put is read again, whatever follows it.
-- Assumes nothing.
use Prim.Native.Nat.{ℕ, ◌+◌, ◌≤◌, ◌<◌, ◌^◌, min}
use mathlib.Core.Path.{◌≡◌, refl, ap, ap₂, ◌∙◌}
use mathlib.Core.List.{List, ◌++◌, append_assoc, append-nil}
use mathlib.Core.Bool.{Bool, true, false}
use native.Mathlib.Omega.{arith}
use lib.ListN.{length, take, replicate, length-append}
use lib.Seq.{take_at, length-take-le}
use Rattle.num_whole.specs.Tests.{less, pick}
use Rattle.num_whole.specs.Lists.{padded}
use Rattle.num_whole.proofs.Cases.{is_less, not_less}
use Rattle.num_whole.proofs.Padded.{put_padded}
use Rattle.byte_words.specs.Words.{word, bytes_of, lay}
use Rattle.byte_words.proofs.Words.{lay_append, lay_front, length_bytes_of, word_bytes_of}
use Rattle.byte_words.proofs.Parts.{word_past}
use Rattle.byte_words.proofs.Written.{word_beside}
use Rattle.part_laws.specs.declared.Position.{Position}
use Rattle.part_place.proofs.Looks.{least_take}
use Rattle.call_position.specs.Position.{position_in, position_bytes, position_long}

-- ---- the room for the bytes kept
pub kept_laid : (a b : List ℕ) (n : ℕ) → n ≡ min 1088 (length b) → a ≡ lay (replicate 1088 0) 0 (take n b) → a ≡ padded 1088 0 (take 1088 b)
unfolding lay
kept_laid a b n m e =
    let is : take n b ≡ take 1088 b = ap (λ k. take k b) m ∙ least_take 1088 (length b) b refl in
    let few : length (take n b) ≤ 1088 = omega (arith, length-take-le n b (omega arith)) in
    e ∙ put_padded 1088 0 (take n b) few ∙ ap (padded 1088 0) is

-- ---- laid part by part
module _ (p : Position) (out : List ℕ) (long : length p.kept ≡ 1088) where
  pub position_laid : lay (lay (lay (lay out 0 p.kept) 1088 (bytes_of 8 p.length)) 1096 (bytes_of 8 p.taken)) 1104 (bytes_of 8 (pick p.over 1 0))
      ≡ lay out 0 (position_bytes p)
  unfolding position_bytes
  position_laid =
      lay_append _ _ _ _ _ (simp length_bytes_of) ∙ lay_append _ _ _ _ _ (simp length_bytes_of) ∙ lay_append _ _ _ _ _ (simp long)

  -- and by what each step leaves
  pub position_put : {a b c d : List ℕ} {f : ℕ} → a ≡ lay out 0 p.kept → b ≡ lay a 1088 (bytes_of 8 p.length) → c ≡ lay b 1096 (bytes_of 8 p.taken)
      → f ≡ pick p.over 1 0 → d ≡ lay c 1104 (bytes_of 8 f) → d ≡ lay out 0 (position_bytes p)
  position_put e₁ e₂ e₃ e₄ e₅ =
      let third = e₃ ∙ ap (λ z. lay z 1096 (bytes_of 8 p.taken)) (e₂ ∙ ap (λ z. lay z 1088 (bytes_of 8 p.length)) e₁) in
      e₅ ∙ ap₂ (λ z n. lay z 1104 (bytes_of 8 n)) third e₄ ∙ position_laid

-- ---- a position whose numbers are within their widths, in an array of its length
pub record PositionFits (p : Position) : Type 0 where
  pub long : length p.kept ≡ 1088
  pub length : p.length < 256 ^ 8
  pub taken : p.taken < 256 ^ 8

flag_back : (b : Bool) → less 0 (pick b 1 0) ≡ b
unfolding pick
flag_back true = is_less 0 1 (omega arith)
flag_back false = not_less 0 0 (omega arith)

flag_small : (b : Bool) → pick b 1 0 < 256 ^ 8
unfolding pick
flag_small true = omega arith
flag_small false = omega arith

module _ (p : Position) (r : List ℕ) (fits : PositionFits p) where
  words : List ℕ
  words = bytes_of 8 p.length ++ (bytes_of 8 p.taken ++ (bytes_of 8 (pick p.over 1 0) ++ r))

  all_bytes : List ℕ
  all_bytes = p.kept ++ words

  in_parts : position_bytes p ++ r ≡ all_bytes
  unfolding position_bytes all_bytes words
  in_parts = simp append_assoc

  kept_here : padded 1088 0 (take 1088 all_bytes) ≡ p.kept
  unfolding all_bytes
  kept_here =
      let is : take 1088 (p.kept ++ words) ≡ p.kept = take_at p.kept words 1088 fits.long in
      ap (padded 1088 0) is ∙ rw fits.long (append-nil p.kept)

  length_here : word 8 all_bytes 1088 ≡ p.length
  unfolding all_bytes words
  length_here = word_past 8 p.kept words 1088 0 fits.long ∙ word_bytes_of 8 p.length _ fits.length

  taken_here : word 8 all_bytes 1096 ≡ p.taken
  unfolding all_bytes words
  taken_here =
      word_past 8 p.kept words 1088 8 fits.long ∙ word_beside 8 8 _ _ 0 ∙ word_bytes_of 8 p.taken _ fits.taken

  over_here : word 8 all_bytes 1104 ≡ pick p.over 1 0
  unfolding all_bytes words
  over_here =
      word_past 8 p.kept words 1088 16 fits.long ∙ word_beside 8 8 _ _ 8 ∙ word_beside 8 8 _ _ 0 ∙ word_bytes_of 8 _ _ (flag_small p.over)

  pub position_back : position_in (position_bytes p ++ r) ≡ p
  unfolding position_in
  position_back =
      let flag = ap (less 0) over_here ∙ flag_back p.over in
      ap position_in in_parts ∙ λ i. record { kept = kept_here i; length = length_here i; taken = taken_here i; over = flag i }

-- laid at the front of a room by one call, and read from it by the next
pub position_stays : (p : Position) (room : List ℕ) → PositionFits p → position_long ≤ length room → position_in (lay room 0 (position_bytes p)) ≡ p
unfolding position_bytes
position_stays p room fits h =
    let long : length (position_bytes p) ≡ position_long = simp (length-append, length_bytes_of, fits.long) in
    ap position_in (lay_front room (position_bytes p) (omega arith)) ∙ position_back p _ fits

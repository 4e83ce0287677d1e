-- Room that is filled with a record's partials, one by one: what is left to fill makes the whole.
-- Assumes nothing.
use Prim.Native.Nat.{ℕ, zero, suc, ◌+◌, ◌-◌, ◌≤◌, ◌<◌}
use mathlib.Core.Path.{◌≡◌, refl, ap, ◌∙◌}
use mathlib.Core.List.{List, ◌++◌, append-nil}
use native.Mathlib.Omega.{arith}
use native.Mathlib.Nat.{sub-zero}
use lib.IntN.{ℤ}
use lib.ListN.{length, set, drop_of_length-le}
use lib.Seq.{sets, sets-eq}
use mir.Syntax.{w16}
use Rattle.byte_words.specs.Words.{signed_word}
use Rattle.arc_record.specs.Record.{partials_from, partials_in}

-- a list as long as the room takes its place
pub sets_all : {A : Type 0} (l vs : List A) → length vs ≡ length l → sets l 0 vs ≡ vs
sets_all l vs e =
    let none : length l ≤ 0 + length vs = omega arith in
    sets-eq vs l 0 (omega arith) ∙ ap (λ r. vs ++ r) (drop_of_length-le l none) ∙ append-nil vs

pub length_partials : (n : ℕ) (b : List ℕ) (at : ℕ) → length (partials_from n b at) ≡ n
unfolding partials_from
length_partials zero b at = refl
length_partials (suc n) b at = ap suc (length_partials n b (at + 2))

module _ (b : List ℕ) (n i at : ℕ) (out : List ℤ) where
  pub fill_start : n ≡ length out → sets out 0 (partials_from (n - 0) b 32) ≡ partials_in n b
  unfolding partials_in
  fill_start e = ap (λ m. sets out 0 (partials_from m b 32)) (sub-zero n) ∙ sets_all out (partials_from n b 32) (length_partials n b 32 ∙ e)

  pub fill_turn : i < n → sets out i (partials_from (n - i) b at) ≡ sets (set out i (signed_word w16 b at)) (i + 1) (partials_from (n - (i + 1)) b (at + 2))
  unfolding partials_from
  fill_turn more =
      let e : n - i ≡ suc (n - (i + 1)) = omega arith in
      let next : suc i ≡ i + 1 = omega arith in
      ap (λ m. sets out i (partials_from m b at)) e ∙ ap (λ k. sets (set out i (signed_word w16 b at)) k (partials_from (n - (i + 1)) b (at + 2))) next

  pub fill_end : n ≤ i → sets out i (partials_from (n - i) b at) ≡ out
  unfolding partials_from
  fill_end more = let e : n - i ≡ 0 = omega arith in ap (λ m. sets out i (partials_from m b at)) e

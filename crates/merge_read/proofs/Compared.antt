-- Labels read from a part of their bytes and compared field by field.
-- Assumes nothing.
use mathlib.Core.Path.{◌≡◌, refl, sym, ap, ◌∙◌}
use mathlib.Core.List.{List}
use mathlib.Core.Bool.{Bool, true, false, not}
use Prim.Native.Nat.{ℕ, ◌+◌, ◌*◌, ◌≤◌, ◌<◌}
use native.Mathlib.Omega.{arith}
use lib.Dec.{eqb}
use lib.IntN.{ℤ}
use lib.ListN.{take, drop}
use mir.Syntax.{w64}
use mir.Val.{SFits, of_z}
use Rattle.num_whole.proofs.Cases.{fails, holds, at_once, at_last, is_less, not_less, is_same, not_same}
use Rattle.byte_words.specs.Words.{word, signed_word}
use Rattle.byte_words.proofs.Parts.{word_part, signed_part}
use Rattle.norm_kinds.specs.Kinds.{normal_label_at}
use Rattle.merge_join.specs.Alike.{equal, alike}
use Rattle.merge_join.proofs.Alike.{equal_bits}
use Rattle.merge_read.specs.Read.{agree_in}

-- a label is read from a part that holds it
pub label_part : (s : List ℕ) (at n : ℕ) → 24 ≤ n → normal_label_at (take n (drop at s)) 0 ≡ normal_label_at s at
unfolding normal_label_at
label_part s at n h =
    let kind = word_part 2 s at n 0 at (omega arith) (omega arith) in
    let index = word_part 2 s at n 2 (at + 2) refl (omega arith) in
    let arc = word_part 4 s at n 4 (at + 4) refl (omega arith) in
    let weight = word_part 4 s at n 8 (at + 8) refl (omega arith) in
    let estimate = signed_part w64 s at n 16 (at + 16) refl (omega arith) in
    (λ i. record { kind = kind i; index = index i; arc = arc i; weight = weight i; estimate = estimate i })

-- ---- two labels
module _ (a : List ℕ) (p : ℕ) (b : List ℕ) (q : ℕ) where
  pub weights_differ : (word 4 a (p + 8) ≡ word 4 b (q + 8) → ⊥) → false ≡ alike (normal_label_at a p) (normal_label_at b q)
  unfolding alike normal_label_at
  weights_differ e = fails _ _ (not_same _ _ e)

  pub estimates_tell : (x y : ℤ) → word 4 a (p + 8) ≡ word 4 b (q + 8) → x ≡ signed_word w64 a (p + 16) → y ≡ signed_word w64 b (q + 16) → SFits w64 x → SFits w64 y
      → eqb (of_z w64 x) (of_z w64 y) ≡ alike (normal_label_at a p) (normal_label_at b q)
  unfolding alike normal_label_at
  estimates_tell x y e f g u v = holds _ _ (is_same _ _ e) (equal_bits x y u v ∙ (λ i. equal (f i) (g i)))

module _ (a : List ℕ) (start n : ℕ) (b : List ℕ) (begin m p q : ℕ) where
  pub agree_both : {t : Bool} → p < n → q < m → t ≡ alike (normal_label_at a (start + 24 * p)) (normal_label_at b (begin + 24 * q)) → t ≡ agree_in a start n b begin m p q
  unfolding agree_in
  agree_both h g e = at_last _ _ (ap not (sym (holds _ _ (is_less p n h) (sym (is_less q m g))))) e

  pub agree_left : p < n → m ≤ q → true ≡ agree_in a start n b begin m p q
  unfolding agree_in
  agree_left h g = at_once _ _ (ap not (sym (holds _ _ (is_less p n h) (sym (not_less q m g)))))

  pub agree_right : n ≤ p → true ≡ agree_in a start n b begin m p q
  unfolding agree_in
  agree_right h = at_once _ _ (ap not (sym (fails _ _ (not_less p n h))))

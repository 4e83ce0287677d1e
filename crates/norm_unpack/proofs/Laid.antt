-- Rooms filled part by part: a label's values, labels one after the other, the heads together; and a room long enough, by the code's tests.
-- Assumes nothing.
use Prim.Native.Nat.{ℕ, suc, ◌+◌, ◌-◌, ◌*◌, ◌≤◌, ◌<◌}
use mathlib.Core.Path.{◌≡◌, refl, sym, ap, ◌∙◌}
use mathlib.Core.List.{List, [], ◌∷◌, ◌++◌}
use mathlib.Core.Bool.{true}
use native.Mathlib.Omega.{arith}
use lib.ListN.{length, set, length-append}
use mir.Syntax.{w64}
use mir.Val.{Fits, to_z, of_z}
use mir.ValLaws.{of_z-to_z}
use Rattle.num_whole.proofs.Cases.{up_to_true, both_first, both_second}
use Rattle.byte_words.specs.Words.{word, signed_word, lay}
use Rattle.byte_words.proofs.Words.{lay_append}
use Rattle.byte_section.specs.Section.{encoded}
use Rattle.byte_section.proofs.Trips.{length_encoded}
use Rattle.num_packed.specs.Triangle.{tri}
use Rattle.byte_words.specs.Stands.{stands}
use Rattle.byte_words.proofs.Stands.{length_stands}
use Rattle.norm_kinds.specs.Kinds.{normal_label_at}
use Rattle.norm_heads.specs.Heads.{arcs_at}
use Rattle.num_packed.specs.Room.{sums_roomy}
use Rattle.norm_room.specs.Room.{heads_long, label_numbers, heads_roomy, roomy_for}
use Rattle.norm_unpack.specs.Parts.{label_numbers_from, heads_at}

-- ---- a label
-- five values put one by one
five_laid : (h : List ℕ) (k a b c d e : ℕ) → set (set (set (set (set h k a) (k + 1) b) (k + 2) c) (k + 3) d) (k + 4) e ≡ lay h k (a ∷ b ∷ c ∷ d ∷ e ∷ [])
unfolding lay
five_laid h k a b c d e =
    let one : k + 1 ≡ suc k = omega arith in
    let two : k + 2 ≡ suc (suc k) = omega arith in
    let three : k + 3 ≡ suc (suc (suc k)) = omega arith in
    let four : k + 4 ≡ suc (suc (suc (suc k))) = omega arith in
    rw (one, two, three, four)

-- the estimate is put as its bits
pub label_laid : (h : List ℕ) (k : ℕ) (s : List ℕ) (at a b c d e : ℕ) → a ≡ word 2 s at → b ≡ word 2 s (at + 2) → c ≡ word 4 s (at + 4) → d ≡ word 4 s (at + 8) → e ≡ word 8 s (at + 16) → Fits w64 e
    → set (set (set (set (set h k a) (k + 1) b) (k + 2) c) (k + 3) d) (k + 4) e ≡ lay h k (label_numbers (normal_label_at s at))
unfolding label_numbers normal_label_at signed_word
label_laid h k s at a b c d e p q r t u f =
    let back : of_z w64 (signed_word w64 s (at + 16)) ≡ e = ap (λ x. of_z w64 (to_z w64 x)) (sym u) ∙ of_z-to_z w64 e f in
    five_laid h k a b c d e ∙ rw (← p, ← q, ← r, ← t, back)

-- ---- labels, i of n done
module _ (s h : List ℕ) (n i at k : ℕ) where
  pub labels_end : n ≤ i → lay h k (label_numbers_from s (n - i) at) ≡ h
  unfolding label_numbers_from stands encoded lay
  labels_end e = let z : n - i ≡ 0 = omega arith in rw z

  pub labels_turn : i < n → lay h k (label_numbers_from s (n - i) at) ≡ lay (lay h k (label_numbers (normal_label_at s at))) (k + 5) (label_numbers_from s (n - (i + 1)) (at + 24))
  unfolding label_numbers_from stands encoded label_numbers
  labels_turn e =
      let z : n - i ≡ suc (n - (i + 1)) = omega arith in
      rw z (sym (lay_append h k (k + 5) (label_numbers (normal_label_at s at)) _ refl))

-- ---- the heads
long_labels : (s : List ℕ) (p at : ℕ) → length (label_numbers_from s p at) ≡ p * 5
unfolding label_numbers_from label_numbers
long_labels s p at = length_encoded label_numbers 5 (λ l. refl) (stands (normal_label_at s) 24 p at) ∙ ap (λ n. n * 5) (length_stands (normal_label_at s) 24 p at)

pub long_heads : (s : List ℕ) (a p totals : ℕ) → length (heads_at s a p totals) ≡ heads_long a p
unfolding heads_at
long_heads s a p totals = simp (length-append, long_labels, length_stands) (omega arith)

pub heads_laid : (h s : List ℕ) (a p totals x y : ℕ) → x ≡ word 8 s totals → y ≡ word 8 s (totals + 8)
    → set (set (lay (lay h 0 (arcs_at s a)) a (label_numbers_from s p (8 + 4 * a))) (a + 5 * p) x) (a + 5 * p + 1) y ≡ lay h 0 (heads_at s a p totals)
unfolding heads_at lay
heads_laid h s a p totals x y e f =
    let one : a + 5 * p + 1 ≡ suc (a + 5 * p) = omega arith in
    let arcs = arcs_at s a in
    let labels = label_numbers_from s p (8 + 4 * a) in
    let long : length arcs ≡ a = length_stands (word 4 s) 4 a 4 in
    let many : length labels ≡ p * 5 = long_labels s p (8 + 4 * a) in
    rw (e, f, one)
    (lay_append (lay h 0 arcs) a (a + 5 * p) labels (word 8 s totals ∷ word 8 s (totals + 8) ∷ []) (omega arith)
    ∙ lay_append h 0 a arcs (labels ++ (word 8 s totals ∷ word 8 s (totals + 8) ∷ [])) (omega arith))

-- ---- room
module _ (a p heads matrix rights : ℕ) where
  -- what room long enough is
  pub record Roomy : Type 0 where
    pub heads_fit : heads_long a p ≤ heads
    pub matrix_fits : tri p ≤ matrix
    pub rights_fit : p ≤ rights

  pub roomy : roomy_for a p heads matrix rights ≡ true → Roomy
  unfolding roomy_for heads_roomy sums_roomy
  roomy e =
      let u = both_second _ _ e in
      record {
        heads_fit = up_to_true _ _ (both_first _ _ e);
        matrix_fits = up_to_true _ _ (both_first _ _ u);
        rights_fit = up_to_true _ _ (both_second _ _ u);
      }

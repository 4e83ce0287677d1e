-- The heads of the system that stands in a room are the room's first elements.
-- Assumes nothing.
use Prim.Native.Nat.{ℕ, zero, suc, ◌+◌, ◌*◌, ◌≤◌}
use mathlib.Core.Path.{◌≡◌, refl, sym, ap, ap₂, ◌∙◌}
use mathlib.Core.List.{List, ◌∷◌, ◌++◌, append_assoc}
use native.Mathlib.Omega.{arith}
use lib.IntN.{ℤ}
use lib.ListN.{length, get_or, take, drop, length-append, take-append-drop}
use lib.Seq.{drop-cons, take_at}
use mir.Syntax.{w64}
use mir.Val.{to_z, of_z}
use mir.ValLaws.{of_z-to_z}
use Rattle.byte_section.specs.Section.{encoded}
use Rattle.byte_section.proofs.Trips.{length_encoded}
use Rattle.norm_system.specs.System.{System}
use Rattle.byte_words.specs.Stands.{stands}
use Rattle.norm_room.specs.Room.{heads_long, label_in_heads, system_in_rooms, label_numbers, heads_of}
use Rattle.norm_write.proofs.Laws.{Words}

-- how many elements the heads of a system have
pub heads_long_lem : (x : System) → length (heads_of x) ≡ heads_long (length x.arcs) (length x.labels)
unfolding heads_of label_numbers
heads_long_lem x =
    let many : length (encoded label_numbers x.labels) ≡ length x.labels * 5 = length_encoded label_numbers 5 (λ l. refl) x.labels in
    simp length-append (omega (arith, many))

-- the element at a place, and the rest
cut : (h : List ℕ) (at n : ℕ) → suc at ≡ n → n ≤ length h → get_or h at 0 ∷ drop n h ≡ drop at h
cut h at n e f = ap (λ k. get_or h at 0 ∷ drop k h) (sym e) ∙ sym (drop-cons h at 0 (omega arith))

module _ (h : List ℕ) (fits : Words h) where
  label_cut : (at : ℕ) → at + 5 ≤ length h → label_numbers (label_in_heads h at) ++ drop (at + 5) h ≡ drop at h
  unfolding label_numbers label_in_heads
  label_cut at f =
      let last : of_z w64 (to_z w64 (get_or h (at + 4) 0)) ≡ get_or h (at + 4) 0 = of_z-to_z w64 _ (record { fits = fits (at + 4) }) in
      let tail : (x : ℕ) → x ≡ get_or h (at + 4) 0 → x ∷ drop (at + 5) h ≡ drop (at + 4) h = λ x e. ap (λ y. y ∷ drop (at + 5) h) e ∙ cut h (at + 4) (at + 5) (omega arith) (omega arith) in
      ap (λ l. get_or h at 0 ∷ get_or h (at + 1) 0 ∷ get_or h (at + 2) 0 ∷ get_or h (at + 3) 0 ∷ l) (tail _ last)
      ∙ ap (λ l. get_or h at 0 ∷ get_or h (at + 1) 0 ∷ get_or h (at + 2) 0 ∷ l) (cut h (at + 3) (at + 4) (omega arith) (omega arith))
      ∙ ap (λ l. get_or h at 0 ∷ get_or h (at + 1) 0 ∷ l) (cut h (at + 2) (at + 3) (omega arith) (omega arith))
      ∙ ap (λ l. get_or h at 0 ∷ l) (cut h (at + 1) (at + 2) (omega arith) (omega arith))
      ∙ cut h at (at + 1) (omega arith) (omega arith)

  labels_cut : (n at : ℕ) → at + 5 * n ≤ length h → encoded label_numbers (stands (label_in_heads h) 5 n at) ++ drop (at + 5 * n) h ≡ drop at h
  unfolding stands encoded
  labels_cut zero at f = let z : at + 5 * 0 ≡ at = omega arith in ap (λ k. drop k h) z
  labels_cut (suc n) at f =
      let on : at + 5 * suc n ≡ at + 5 + 5 * n = omega arith in
      append_assoc (label_numbers (label_in_heads h at)) _ _
      ∙ ap (λ k. label_numbers (label_in_heads h at) ++ (encoded label_numbers (stands (label_in_heads h) 5 n (at + 5)) ++ drop k h)) on
      ∙ ap (λ l. label_numbers (label_in_heads h at) ++ l) (labels_cut n (at + 5) (omega arith))
      ∙ label_cut at (omega arith)

  module _ (a p : ℕ) (m r : List ℤ) (long : heads_long a p ≤ length h) where
    heads_cut : heads_of (system_in_rooms a p h m r) ++ drop (heads_long a p) h ≡ h
    unfolding heads_of system_in_rooms
    heads_cut =
        let labels = encoded label_numbers (stands (label_in_heads h) 5 p a) in
        let totals : get_or h (a + 5 * p) 0 ∷ get_or h (a + 5 * p + 1) 0 ∷ drop (heads_long a p) h ≡ drop (a + 5 * p) h =
        ap (λ l. get_or h (a + 5 * p) 0 ∷ l) (cut h (a + 5 * p + 1) (heads_long a p) (omega arith) (omega arith)) ∙ cut h (a + 5 * p) (a + 5 * p + 1) (omega arith) (omega arith) in
        simp append_assoc
        (ap (λ l. take a h ++ (labels ++ l)) totals
        ∙ ap (λ l. take a h ++ l) (labels_cut p a (omega arith))
        ∙ take-append-drop a h)

    pub heads_in : length (system_in_rooms a p h m r).arcs ≡ a → length (system_in_rooms a p h m r).labels ≡ p → heads_of (system_in_rooms a p h m r) ≡ take (heads_long a p) h
    heads_in arcs labels =
        let n : length (heads_of (system_in_rooms a p h m r)) ≡ heads_long a p = heads_long_lem (system_in_rooms a p h m r) ∙ ap₂ heads_long arcs labels in
        sym (ap (take (heads_long a p)) (sym heads_cut) ∙ take_at (heads_of (system_in_rooms a p h m r)) _ (heads_long a p) n)

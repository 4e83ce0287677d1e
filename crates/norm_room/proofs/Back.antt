-- A system put into three rooms is the system that stands in them, whatever the rooms held before and however long they are.
-- Assumes nothing.
use Prim.Native.Nat.{ℕ, ◌+◌, ◌*◌}
use mathlib.Core.Path.{◌≡◌, refl, sym, ap, ap₂, ◌∙◌}
use mathlib.Core.List.{List, [], ◌∷◌, ◌++◌, append_assoc}
use native.Mathlib.Omega.{arith}
use native.Mathlib.Nat.{add-zero}
use lib.IntN.{ℤ}
use lib.ListN.{length, get_or, take, drop, length-append}
use lib.Seq.{take_at, get_or-append-add}
use mir.Syntax.{w64}
use mir.Val.{SFits, to_z}
use mir.ValLaws.{to_z-of_z}
use Rattle.num_whole.specs.Lists.{over, Each}
use Rattle.byte_section.specs.Section.{encoded}
use Rattle.byte_section.proofs.Trips.{length_encoded}
use Rattle.num_packed.specs.Triangle.{tri}
use Rattle.norm_system.specs.System.{System}
use Rattle.norm_system.specs.declared.NormalLabel.{NormalLabel}
use Rattle.byte_words.specs.Stands.{stands}
use Rattle.norm_room.specs.Room.{label_in_heads, system_in_rooms, label_numbers, heads_of}

-- ---- one label
-- a number j places into what follows a list
after : (p l : List ℕ) (at j : ℕ) → length p ≡ at → get_or (p ++ l) (at + j) 0 ≡ get_or l j 0
after p l at j e = rw (← e) (get_or-append-add p l j 0)

label_back : (p : List ℕ) (at : ℕ) (l : NormalLabel) (t : List ℕ) → length p ≡ at → SFits w64 l.estimate → label_in_heads (p ++ (label_numbers l ++ t)) at ≡ l
unfolding label_in_heads label_numbers
label_back p at l t e f =
    let h = p ++ (label_numbers l ++ t) in
    let first : get_or h at 0 ≡ l.kind = ap (λ n. get_or h n 0) (sym (add-zero at)) ∙ after p (label_numbers l ++ t) at 0 e in
    let last : to_z w64 (get_or h (at + 4) 0) ≡ l.estimate = ap (to_z w64) (after p (label_numbers l ++ t) at 4 e) ∙ to_z-of_z w64 l.estimate f in
    (λ i. record {
      kind = first i;
      index = after p (label_numbers l ++ t) at 1 e i;
      arc = after p (label_numbers l ++ t) at 2 e i;
      weight = after p (label_numbers l ++ t) at 3 e i;
      estimate = last i;
    })

-- ---- labels one after the other
long_on : (p : List ℕ) (a : NormalLabel) (at : ℕ) → length p ≡ at → length (p ++ label_numbers a) ≡ at + 5
unfolding label_numbers
long_on p a at e = length-append p (label_numbers a) ∙ ap (λ n. n + 5) e

labels_back : (l : List NormalLabel) (p t : List ℕ) (at : ℕ) → length p ≡ at → Each (λ a. SFits w64 a.estimate) l
    → stands (label_in_heads (p ++ (encoded label_numbers l ++ t))) 5 (length l) at ≡ l
unfolding stands encoded
labels_back [] p t at e f = refl
labels_back (a ∷ l) p t at e f =
    let regroup : p ++ ((label_numbers a ++ encoded label_numbers l) ++ t) ≡ p ++ (label_numbers a ++ (encoded label_numbers l ++ t)) = ap (λ r. p ++ r) (append_assoc (label_numbers a) (encoded label_numbers l) t) in
    let on : p ++ (label_numbers a ++ (encoded label_numbers l ++ t)) ≡ (p ++ label_numbers a) ++ (encoded label_numbers l ++ t) = sym (append_assoc p (label_numbers a) (encoded label_numbers l ++ t)) in
    ap₂ (λ x y. x ∷ y)
    (ap (λ h. label_in_heads h at) regroup ∙ label_back p at a (encoded label_numbers l ++ t) e f.0)
    (ap (λ h. stands (label_in_heads h) 5 (length l) (at + 5)) (regroup ∙ on) ∙ labels_back l (p ++ label_numbers a) t (at + 5) (long_on p a at e) f.1)

-- ---- the system
module _ (x : System) (a p : ℕ) (arcs : length x.arcs ≡ a) (labels : length x.labels ≡ p) (estimates : Each (λ l. SFits w64 l.estimate) x.labels) where
  abbrev totals : List ℕ
  totals = x.accepted ∷ x.square ∷ []

  module _ (h : List ℕ) where
    abbrev rest : List ℕ
    rest = drop (length (heads_of x)) h

    -- the heads by their parts
    by_arcs : over (heads_of x) h ≡ x.arcs ++ (encoded label_numbers x.labels ++ (totals ++ rest))
    unfolding over heads_of
    by_arcs = simp append_assoc

    by_labels : over (heads_of x) h ≡ (x.arcs ++ encoded label_numbers x.labels) ++ (totals ++ rest)
    by_labels = by_arcs ∙ sym (append_assoc x.arcs (encoded label_numbers x.labels) (totals ++ rest))

    long : length (x.arcs ++ encoded label_numbers x.labels) ≡ a + 5 * p
    unfolding label_numbers
    long =
        let many : length (encoded label_numbers x.labels) ≡ length x.labels * 5 = length_encoded label_numbers 5 (λ l. refl) x.labels in
        length-append x.arcs (encoded label_numbers x.labels) ∙ omega arith

    total_at : (j : ℕ) → get_or (over (heads_of x) h) (a + 5 * p + j) 0 ≡ get_or (totals ++ rest) j 0
    total_at j = ap (λ l. get_or l (a + 5 * p + j) 0) by_labels ∙ after (x.arcs ++ encoded label_numbers x.labels) (totals ++ rest) (a + 5 * p) j long

  pub room_back : length x.matrix ≡ tri p → length x.rights ≡ p → (h : List ℕ) (m r : List ℤ)
      → system_in_rooms a p (over (heads_of x) h) (over x.matrix m) (over x.rights r) ≡ x
  unfolding system_in_rooms over
  room_back matrix rights h m r =
      let heads = over (heads_of x) h in
      let one : take a heads ≡ x.arcs = ap (take a) (by_arcs h) ∙ take_at x.arcs _ a arcs in
      let two : stands (label_in_heads heads) 5 p a ≡ x.labels =
      ap (λ l. stands (label_in_heads l) 5 p a) (by_arcs h) ∙ ap (λ n. stands (label_in_heads (x.arcs ++ (encoded label_numbers x.labels ++ (totals ++ rest h)))) 5 n a) (sym labels)
      ∙ labels_back x.labels x.arcs (totals ++ rest h) a arcs estimates in
      let three : take (tri p) (over x.matrix m) ≡ x.matrix = take_at x.matrix _ (tri p) matrix in
      let four : take p (over x.rights r) ≡ x.rights = take_at x.rights _ p rights in
      let five : get_or heads (a + 5 * p) 0 ≡ x.accepted = ap (λ n. get_or heads n 0) (sym (add-zero (a + 5 * p))) ∙ total_at h 0 in
      (λ i. record { arcs = one i; labels = two i; matrix = three i; rights = four i; accepted = five i; square = total_at h 1 i })

-- The limits of arcs and labels that stand in lent room: numbers that a file's bytes do not hold are past every limit, and what is within its
-- limits is small.
-- Assumes nothing.
use Prim.Native.Nat.{ℕ, ◌+◌, ◌*◌, ◌≤◌, ◌<◌}
use mathlib.Core.Path.{◌≡◌, refl, sym, ap, ◌∙◌}
use mathlib.Core.List.{List, [], ◌∷◌, ◌++◌}
use mathlib.Core.Bool.{true, false}
use native.Mathlib.Numerals.{add-one}
use native.Mathlib.Omega.{arith}
use lib.IntN.{ℤ}
use lib.ListN.{length, get_or, take, set}
use lib.Seq.{get_or-take, length-take-le, take-suc, take-suc-set}
use Rattle.num_whole.specs.Lists.{all}
use Rattle.num_whole.proofs.Cases.{apart, by_cases, both_first, both_second, holds, is_up_to, is_above, up_to_true, between_true}
use Rattle.num_whole.proofs.Walks.{all_at}
use Rattle.norm_system.specs.System.{arc_ok, arc_listed, normal_label_ok, key_of}
use Rattle.norm_system.proofs.Labels.{label_kind_lem, label_small}
use Rattle.byte_words.specs.Stands.{stands}
use Rattle.byte_words.proofs.Stands.{length_stands, stands_at}
use Rattle.norm_room.specs.Room.{label_in_heads, system_in_rooms, fields_fit, orders_fit}
use Rattle.norm_fields.specs.Fields.{bare_label, is_small, SmallFields, bare_system}

-- ---- an arc
pub arc_large : (a : ℕ) → 4294967296 ≤ a → false ≡ arc_ok a
unfolding arc_ok
arc_large a h = sym (is_above 1 a 999999 (omega arith))

pub arc_few : (a : ℕ) → arc_ok a ≡ true → a ≤ 999999
unfolding arc_ok
arc_few a e = (between_true _ _ _ e).1

-- the ith of n arcs
pub arc_at : (h : List ℕ) (n i : ℕ) → n ≤ length h → all arc_ok (take n h) ≡ true → i < n → get_or h i 0 ≤ 999999
arc_at h n i fits e more =
    let long : length (take n h) ≡ n = length-take-le n h fits in
    arc_few _ (sym (ap arc_ok (get_or-take n h i 0 more)) ∙ all_at arc_ok (take n h) 0 i e (omega arith))

-- arcs copied one by one
pub copied : (l h : List ℕ) (i : ℕ) → i < length l → i < length h → take i l ≡ take i h → take (i + 1) (set l i (get_or h i 0)) ≡ take (i + 1) h
copied l h i p q e = rw add-one (take-suc-set l i (get_or h i 0) p ∙ ap (λ t. t ++ (get_or h i 0 ∷ [])) e ∙ sym (take-suc h i 0 q))

-- ---- a label
module _ (h : List ℕ) (k : ℕ) where
  pub small : is_small (get_or h k 0) (get_or h (k + 1) 0) (get_or h (k + 2) 0) (get_or h (k + 3) 0) ≡ true → SmallFields h k
  unfolding is_small
  small e =
      let a = both_second _ _ e in
      let b = both_second _ _ a in
      record {
        kind = omega (arith, up_to_true _ _ (both_first _ _ e));
        index = omega (arith, up_to_true _ _ (both_first _ _ a));
        arc = omega (arith, up_to_true _ _ (both_first _ _ b));
        weight = omega (arith, up_to_true _ _ (both_second _ _ b));
      }

  is_small_lem : SmallFields h k → is_small (get_or h k 0) (get_or h (k + 1) 0) (get_or h (k + 2) 0) (get_or h (k + 3) 0) ≡ true
  unfolding is_small
  is_small_lem s =
      sym (holds _ _ (is_up_to _ _ (omega (arith, s.kind)))
      (holds _ _ (is_up_to _ _ (omega (arith, s.index)))
      (holds _ _ (is_up_to _ _ (omega (arith, s.arc))) (sym (is_up_to _ _ (omega (arith, s.weight)))))))

  -- the estimate plays no part
  pub bare_ok : (arcs : List ℕ) → normal_label_ok arcs (bare_label h k) ≡ normal_label_ok arcs (label_in_heads h k)
  unfolding normal_label_ok arc_listed bare_label label_in_heads
  bare_ok arcs = refl

  pub bare_key : key_of (bare_label h k) ≡ key_of (label_in_heads h k)
  unfolding key_of bare_label label_in_heads
  bare_key = refl

  module _ (arcs : List ℕ) (listed : all arc_ok arcs ≡ true) where
    pub ok_small : normal_label_ok arcs (label_in_heads h k) ≡ true → SmallFields h k
    unfolding label_in_heads
    ok_small e =
        let s = label_small arcs (label_in_heads h k) listed e in
        record { kind = s.kind; index = s.index; arc = s.arc; weight = s.weight }

    pub ok_kind : normal_label_ok arcs (label_in_heads h k) ≡ true → get_or h k 0 ≤ 4
    unfolding label_in_heads
    ok_kind e = label_kind_lem arcs (label_in_heads h k) e

    pub not_small : is_small (get_or h k 0) (get_or h (k + 1) 0) (get_or h (k + 2) 0) (get_or h (k + 3) 0) ≡ false → false ≡ normal_label_ok arcs (label_in_heads h k)
    not_small e = by_cases (normal_label_ok arcs (label_in_heads h k)) (λ t. absurd (apart (sym (is_small_lem (ok_small t)) ∙ e))) (λ t. sym t)

-- ---- of a arcs and p labels within their limits, the ith label
module _ (a p : ℕ) (h : List ℕ) (fit : fields_fit (bare_system a p h) ≡ true) (i k : ℕ) (more : i < p) (place : k ≡ a + 5 * i) where
  label_at : normal_label_ok (take a h) (label_in_heads h k) ≡ true
  unfolding fields_fit system_in_rooms
  label_at =
      let s = stands (label_in_heads h) 5 p a in
      let long : length s ≡ p = length_stands (label_in_heads h) 5 p a in
      let here = all_at (normal_label_ok (take a h)) s (label_in_heads h 0) i (both_second _ _ fit) (omega arith) in
      ap (λ n. normal_label_ok (take a h) (label_in_heads h n)) place ∙ sym (ap (normal_label_ok (take a h)) (stands_at (label_in_heads h) 5 p a i (label_in_heads h 0) more)) ∙ here

  arcs_listed : all arc_ok (take a h) ≡ true
  unfolding fields_fit system_in_rooms
  arcs_listed = both_first _ _ fit

  pub label_small_at : SmallFields h k
  label_small_at = ok_small h k (take a h) arcs_listed label_at

  pub label_kind_at : get_or h k 0 ≤ 4
  label_kind_at = ok_kind h k (take a h) arcs_listed label_at

-- ---- the system in three rooms
module _ (a p : ℕ) (h : List ℕ) (m r : List ℤ) where
  pub fields_in : fields_fit (system_in_rooms a p h m r) ≡ fields_fit (bare_system a p h)
  unfolding fields_fit system_in_rooms
  fields_in = refl

  pub orders_in : orders_fit (system_in_rooms a p h m r) ≡ orders_fit (bare_system a p h)
  unfolding orders_fit system_in_rooms
  orders_in = refl

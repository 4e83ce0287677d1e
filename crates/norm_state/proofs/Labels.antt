-- The labels of an arc's heading as those of a normal file: within their limits, and in the same order.
-- Assumes nothing.
use Prim.Native.Nat.{ℕ, ◌+◌, ◌≤◌, ◌<◌}
use mathlib.Core.Path.{◌≡◌, refl, sym, ap}
use mathlib.Core.List.{List, [], ◌∷◌, map}
use mathlib.Core.Bool.{true}
use native.Mathlib.Omega.{arith}
use mir.Syntax.{w64}
use mir.Val.{SFits}
use Rattle.num_whole.specs.Tests.{up_to, same}
use Rattle.num_whole.specs.Lists.{all, ascend, Each}
use Rattle.num_whole.proofs.Cases.{by_cases, yes, no, holds, at_once, is_same, is_up_to, same_true, same_false, up_to_true, both_first, both_second}
use Rattle.arc_limits.specs.Limits.{label_ok, label_key}
use Rattle.arc_limits.specs.declared.Label.{Label}
use Rattle.arc_limits.proofs.Small.{index_small}
use Rattle.norm_system.specs.System.{has, arc_listed, normal_label_ok, key_of}
use Rattle.norm_state.specs.OfState.{arc_for, label_of_arc}

module _ (arc : ℕ) where
  -- ---- limits
  arc_listed_lem : (l : Label) → arc_listed (arc ∷ []) (label_of_arc arc l) ≡ true
  unfolding arc_listed label_of_arc arc_for has
  arc_listed_lem l =
      by_cases (up_to l.kind 2)
      (λ t. sym (yes _ _ _ t (sym (is_same _ _ (sym (yes (up_to l.kind 2) 0 arc t refl))))))
      (λ t. sym (no _ _ _ t (at_once _ _ (is_same _ _ (no (up_to l.kind 2) 0 arc t refl)))))

  pub label_ok_lem : (l : Label) → label_ok l ≡ true → normal_label_ok (arc ∷ []) (label_of_arc arc l) ≡ true
  unfolding label_ok normal_label_ok label_of_arc
  label_ok_lem l e = sym (holds _ _ (both_first _ _ e) (holds _ _ (both_second _ _ e) (sym (arc_listed_lem l))))

  pub labels_ok : (ls : List Label) → all label_ok ls ≡ true → all (normal_label_ok (arc ∷ [])) (map (label_of_arc arc) ls) ≡ true
  unfolding all
  labels_ok [] e = refl
  labels_ok (l ∷ ls) e = sym (holds _ _ (label_ok_lem l (both_first _ _ e)) (sym (labels_ok ls (both_second _ _ e))))

  -- ---- estimates
  pub labels_held_lem : (ls : List Label) → Each (λ l. SFits w64 l.estimate) ls → Each (λ l. SFits w64 l.estimate) (map (label_of_arc arc) ls)
  unfolding label_of_arc
  labels_held_lem [] e = tt
  labels_held_lem (l ∷ ls) e = (e.0, labels_held_lem ls e.1)

  -- ---- order: among labels of one kind the arc is one and the same, and it is below 2^32
  module _ (few : arc ≤ 999999) where
    arc_few : (kind : ℕ) → arc_for arc kind ≤ 999999
    unfolding arc_for
    arc_few kind =
        by_cases (up_to kind 2)
        (λ t. omega (arith, yes (up_to kind 2) 0 arc t refl))
        (λ t. omega (arith, no (up_to kind 2) 0 arc t refl))

    key_up : (x y : Label) → label_ok x ≡ true → label_ok y ≡ true → label_key x < label_key y → key_of (label_of_arc arc x) < key_of (label_of_arc arc y)
    unfolding label_ok label_key key_of label_of_arc
    key_up x y p q h =
        let i = index_small x.kind x.index (both_second _ _ p) in
        let j = index_small y.kind y.index (both_second _ _ q) in
        by_cases (same x.kind y.kind)
        (λ t. let k = same_true _ _ t in omega (arith, i.1, j.1, ap (arc_for arc) k))
        (λ t. let k = same_false _ _ t in omega (arith, i.1, j.1, arc_few x.kind, arc_few y.kind))

    -- the labels that follow one
    keys_after : (x : Label) (ls : List Label) → label_ok x ≡ true → all label_ok ls ≡ true → ascend label_key (label_key x + 1) ls ≡ true
        → ascend key_of (key_of (label_of_arc arc x) + 1) (map (label_of_arc arc) ls) ≡ true
    unfolding all ascend
    keys_after x [] ok e up = refl
    keys_after x (y ∷ ls) ok e up =
        let here = up_to_true _ _ (both_first _ _ up) in
        let next = key_up x y ok (both_first _ _ e) (omega arith) in
        sym (holds _ _ (is_up_to _ _ (omega arith)) (sym (keys_after y ls (both_first _ _ e) (both_second _ _ e) (both_second _ _ up))))

    pub keys_ascend : (ls : List Label) → all label_ok ls ≡ true → ascend label_key 0 ls ≡ true → ascend key_of 0 (map (label_of_arc arc) ls) ≡ true
    unfolding all ascend
    keys_ascend [] e up = refl
    keys_ascend (x ∷ ls) e up =
        sym (holds _ _ (is_up_to _ _ (omega arith)) (sym (keys_after x ls (both_first _ _ e) (both_second _ _ e) (both_second _ _ up))))

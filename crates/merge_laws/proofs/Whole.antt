-- A merged system is again what the system of an accepted file is: its arcs and labels within their limits and in order, its sums sound.
-- Assumes nothing.
use mathlib.Core.Path.{◌≡◌, refl, sym, ap, ◌∙◌, subst}
use mathlib.Core.List.{List, [], ◌∷◌, map}
use mathlib.Core.Bool.{Bool, true, false}
use Prim.Native.Nat.{ℕ, ◌+◌, ◌≤◌}
use native.Mathlib.Omega.{arith}
use lib.ListN.{length, length-map}
use Rattle.num_whole.specs.Tests.{same, up_to, pick}
use Rattle.num_whole.specs.Lists.{all, ascend}
use Rattle.num_whole.proofs.Cases.{apart, yes, no, holds, at_once, both_first, both_second, by_cases}
use Rattle.norm_system.specs.System.{System, has, arc_ok, arc_listed, normal_label_ok, key_of}
use Rattle.norm_system.specs.declared.NormalLabel.{NormalLabel}
use Rattle.norm_system.proofs.Sound.{SoundSystem}
use Rattle.norm_labels.specs.Seats.{ascending}
use Rattle.merge_join.specs.Join.{union}
use Rattle.merge_join.proofs.Union.{by_order, union_ascends, has_union, either_none}
use Rattle.norm_labels.proofs.Ascending.{asc_from, asc_is, has_head, either_second}
use Rattle.merge_join.proofs.Shared.{union_more, union_full}
use Rattle.norm_labels.specs.Labels.{keys_of}
use Rattle.merge_laws.specs.Merge.{carried, merged_of, merge_number}
use Rattle.norm_labels.proofs.Values.{formed, keys_long, arcs_in_order}
use Rattle.merge_laws.proofs.Merged.{carried_first, carried_second, merged_labels, merged_arcs, merged_formed}
use Rattle.merge_laws.proofs.Numbers.{mergeable, label_ok_lem}
use Rattle.norm_labels.proofs.Soundness.{judged, judged_sound}
use Rattle.merge_laws.proofs.Soundness.{merged_judged}

-- ---- tests of each
all_union : (f : ℕ → Bool) (xs ys : List ℕ) → all f xs ≡ true → all f ys ≡ true → all f (union xs ys) ≡ true
unfolding all union
all_union f [] ys p q = q
all_union f (x ∷ xs) [] p q = p
all_union f (x ∷ xs) (y ∷ ys) p q =
    by_order (λ l. all f l ≡ true) x y xs ys
    (λ t. sym (holds _ _ (both_first _ _ p) (sym (all_union f xs (y ∷ ys) (both_second _ _ p) q))))
    (λ t. sym (holds _ _ (both_first _ _ q) (sym (all_union f (x ∷ xs) ys p (both_second _ _ q)))))
    (λ t. sym (holds _ _ (both_first _ _ p) (sym (all_union f xs ys (both_second _ _ p) (both_second _ _ q)))))

all_map : {A : Type 0} (f : A → Bool) (c : ℕ → A) (u : List ℕ) → ((k : ℕ) → has k u ≡ true → f (c k) ≡ true) → all f (map c u) ≡ true
unfolding all has
all_map f c [] h = refl
all_map f c (x ∷ u) h = sym (holds _ _ (h x (has_head x u)) (sym (all_map f c u (λ k g. h k (either_second (same x k) g)))))

-- a label of fewer arcs is one of more
ok_more : (few many : List ℕ) → ((a : ℕ) → has a few ≡ true → has a many ≡ true) → (l : NormalLabel) → normal_label_ok few l ≡ true
    → normal_label_ok many l ≡ true
unfolding normal_label_ok arc_listed
ok_more few many more l e =
    sym (holds _ _ (both_first _ _ e) (holds _ _ (both_first _ _ (both_second _ _ e)) (sym (listed (both_second _ _ (both_second _ _ e))))))
  where
    listed : pick (up_to l.kind 2) (same l.arc 0) (has l.arc few) ≡ true → pick (up_to l.kind 2) (same l.arc 0) (has l.arc many) ≡ true
    listed h =
        by_cases (up_to l.kind 2)
        (λ t. sym (yes _ _ _ t (sym (yes _ _ _ t refl ∙ h))))
        (λ t. sym (no _ _ _ t (sym (more l.arc (no _ _ _ t refl ∙ h)))))

ascends : (u : List ℕ) → ascending u ≡ true → ascend (λ a. a) 0 u ≡ true
unfolding ascending
ascends u e = e

labels_in_order : (x : System) → ascending (keys_of x) ≡ true → ascend key_of 0 x.labels ≡ true
unfolding keys_of
labels_in_order x e = asc_is key_of 0 x.labels (asc_from (map key_of x.labels) e)

module _ (x y : System) (p : SoundSystem x) (q : SoundSystem y) (accepted : merge_number x y ≡ 0) where
  arcs_sum : length (union x.arcs y.arcs) ≡ length x.arcs + length y.arcs
  arcs_sum = union_full x.arcs y.arcs (arcs_in_order p) (arcs_in_order q) (mergeable x y accepted).none_shared

  carried_ok : (k : ℕ) → has k (union (keys_of x) (keys_of y)) ≡ true → normal_label_ok (union x.arcs y.arcs) (carried x y k) ≡ true
  carried_ok k h =
      by_cases (has k (keys_of x))
      (λ a. subst (λ l. normal_label_ok (union x.arcs y.arcs) l ≡ true) (sym (carried_first x y k a))
      (ok_more x.arcs (union x.arcs y.arcs) (λ n g. has_union n x.arcs y.arcs ∙ sym (at_once _ _ g)) _ (label_ok_lem x p k a)))
      (λ a. subst (λ l. normal_label_ok (union x.arcs y.arcs) l ≡ true) (sym (carried_second x y k a))
      (ok_more y.arcs (union x.arcs y.arcs) (λ n g. has_union n x.arcs y.arcs ∙ either_second (has n x.arcs) g) _ (label_ok_lem y q k (in_second a))))
    where
      in_second : has k (keys_of x) ≡ false → has k (keys_of y) ≡ true
      in_second a =
          by_cases (has k (keys_of y)) (λ b. b) (λ b. absurd (apart (sym h ∙ has_union k (keys_of x) (keys_of y) ∙ either_none a b)))

  pub merged_sound : SoundSystem (merged_of x y)
  merged_sound =
      let f = merged_formed x y (formed x p) (formed y q) in
      let m = mergeable x y accepted in
      let arcs : (merged_of x y).arcs ≡ union x.arcs y.arcs = merged_arcs x y in
      let labels : (merged_of x y).labels ≡ map (carried x y) (union (keys_of x) (keys_of y)) = merged_labels x y in
      let long : length (merged_of x y).labels ≡ length (union (keys_of x) (keys_of y)) = ap length labels ∙ length-map (union (keys_of x) (keys_of y)) (carried x y) in
      record {
        some_arcs = subst (λ u. 1 ≤ length u) (sym arcs) (omega (arith, arcs_sum, p.some_arcs));
        few_arcs = subst (λ u. length u ≤ 16) (sym arcs) m.arcs_fit;
        arcs = subst (λ u. all arc_ok u ≡ true) (sym arcs) (all_union arc_ok x.arcs y.arcs p.arcs q.arcs);
        arcs_up = ascends (merged_of x y).arcs (subst (λ u. ascending u ≡ true) (sym arcs) (union_ascends x.arcs y.arcs (arcs_in_order p) (arcs_in_order q)));
        some_labels = omega (arith, long, union_more (keys_of x) (keys_of y), keys_long x, p.some_labels);
        few_labels = omega (arith, long, m.labels_fit);
        labels = subst (λ l. all (normal_label_ok (merged_of x y).arcs) l ≡ true) (sym labels)
            (all_map (normal_label_ok (merged_of x y).arcs) (carried x y) (union (keys_of x) (keys_of y)) (λ k h. subst (λ u. normal_label_ok u (carried x y k) ≡ true) (sym arcs) (carried_ok k h)));
        labels_up = labels_in_order (merged_of x y) f.ascend;
        matrix = f.matrix_long;
        rights = f.rights_long;
        sums = judged_sound (merged_of x y)
            (merged_judged x y (formed x p) (formed y q) (ap length arcs ∙ arcs_sum) (judged x p.sums) (judged y q.sums));
      }

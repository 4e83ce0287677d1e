-- Three systems that are accepted in one grouping are accepted in the other: no arc is listed twice, there are no more arcs and labels than
-- allowed, and each two agree where they share a label.
-- Assumes nothing.
use mathlib.Core.Path.{◌≡◌, refl, sym, ap, ◌∙◌, subst}
use mathlib.Core.List.{List, [], ◌∷◌}
use mathlib.Core.Bool.{Bool, true, false, not}
use Prim.Native.Nat.{ℕ, ◌≤◌}
use native.Mathlib.Nat.{le_trans}
use lib.ListN.{length}
use Rattle.num_whole.specs.Tests.{same, both, either}
use Rattle.num_whole.specs.Lists.{all}
use Rattle.num_whole.proofs.Cases.{apart, holds, not_less, by_cases}
use Rattle.norm_system.specs.System.{System, has}
use Rattle.norm_system.proofs.Sound.{SoundSystem}
use Rattle.norm_labels.specs.Seats.{ascending}
use Rattle.merge_join.specs.Join.{union, share}
use Rattle.merge_join.specs.Alike.{alike}
use Rattle.merge_join.proofs.Union.{union_ascends, union_comm, union_assoc, has_union, either_false, either_none}
use Rattle.norm_labels.proofs.Ascending.{has_head, either_second}
use Rattle.merge_join.proofs.Shared.{union_more, share_union, share_comm}
use Rattle.norm_labels.specs.Labels.{keys_of, label_by_key}
use Rattle.merge_laws.specs.Merge.{merged_of, agree, merge_number}
use Rattle.norm_labels.proofs.Values.{keys_ascend, arcs_in_order}
use Rattle.merge_laws.proofs.Merged.{merged_keys, merged_arcs, has_merged, in_merged_first, in_merged_second, label_first, label_second}
use Rattle.merge_laws.proofs.Numbers.{Mergeable, gives_none, all_has, label_same}

pub mergeable_is : (x y : System) → Mergeable x y → merge_number x y ≡ 0
mergeable_is x y m = gives_none x y m.none_shared (not_less 16 _ m.arcs_fit) (not_less 500 _ m.labels_fit) m.all_agree

pub all_each : (f : ℕ → Bool) (u : List ℕ) → ((k : ℕ) → has k u ≡ true → f k ≡ true) → all f u ≡ true
unfolding all has
all_each f [] h = refl
all_each f (x ∷ u) h = sym (holds _ _ (h x (has_head x u)) (sym (all_each f u (λ k g. h k (either_second (same x k) g)))))

-- ---- labels that agree
abbrev Agreed : System → System → ℕ → Type 0
Agreed x y k = has k (keys_of x) ≡ true → has k (keys_of y) ≡ true → alike (label_by_key x k) (label_by_key y k) ≡ true

agree_is : (x y : System) (k : ℕ) → Agreed x y k → agree x y k ≡ true
unfolding agree either both
agree_is x y k h =
    by_cases (has k (keys_of x))
    (λ a. by_cases (has k (keys_of y)) (λ b. rw (a, b) (h a b)) (λ b. rw (a, b)))
    (λ a. rw a)

agree_of : (x y : System) → all (agree x y) (union (keys_of x) (keys_of y)) ≡ true → (k : ℕ) → Agreed x y k
unfolding agree either both
agree_of x y e k a b =
    let h : has k (union (keys_of x) (keys_of y)) ≡ true = has_union k (keys_of x) (keys_of y) ∙ either_second (has k (keys_of x)) b in
    let g : either (not (both (has k (keys_of x)) (has k (keys_of y)))) (alike (label_by_key x k) (label_by_key y k)) ≡ true = all_has (agree x y) (union (keys_of x) (keys_of y)) k e h in
    rw (a, b) at g

-- ---- from the one grouping to the other
module _ (x y z : System) (p : SoundSystem x) (q : SoundSystem y) (r : SoundSystem z) (m : Mergeable x y) (n : Mergeable (merged_of x y) z) where
  abbrev xy : System
  xy = merged_of x y

  abbrev yz : System
  yz = merged_of y z

  agreed : (k : ℕ) → Agreed xy z k
  agreed = agree_of xy z n.all_agree

  agreed_second : (k : ℕ) → Agreed y z k
  agreed_second k b c =
      by_cases (has k (keys_of x))
      (λ a. subst (λ l. alike l (label_by_key z k) ≡ true) (label_first x y k a ∙ label_same x y p q m.all_agree k a b) (agreed k (in_merged_second x y k b) c))
      (λ a. subst (λ l. alike l (label_by_key z k) ≡ true) (label_second x y k a b) (agreed k (in_merged_second x y k b) c))

  agreed_first : (k : ℕ) → Agreed x yz k
  agreed_first k a bc =
      by_cases (has k (keys_of y))
      (λ b. subst (λ l. alike (label_by_key x k) l ≡ true) (sym (label_first y z k b)) (agree_of x y m.all_agree k a b))
      (λ b. let c : has k (keys_of z) ≡ true = third b in
      subst (λ l. alike (label_by_key x k) l ≡ true) (sym (label_second y z k b c))
      (subst (λ l. alike l (label_by_key z k) ≡ true) (label_first x y k a) (agreed k (in_merged_first x y k a) c)))
    where
      third : has k (keys_of y) ≡ false → has k (keys_of z) ≡ true
      third b = by_cases (has k (keys_of z)) (λ c. c) (λ c. absurd (apart (sym bc ∙ has_merged y z k ∙ either_none b c)))

  -- no arc twice
  shared : (share x.arcs z.arcs ≡ false) × (share y.arcs z.arcs ≡ false)
  shared =
      either_false _ _ (sym (share_union x.arcs y.arcs z.arcs) ∙ sym (ap (λ u. share u z.arcs) (merged_arcs x y)) ∙ n.none_shared)

  arcs_group : union xy.arcs z.arcs ≡ union x.arcs yz.arcs
  arcs_group =
      ap (λ u. union u z.arcs) (merged_arcs x y) ∙ union_assoc x.arcs y.arcs z.arcs (arcs_in_order p) (arcs_in_order q) (arcs_in_order r)
      ∙ ap (union x.arcs) (sym (merged_arcs y z))

  keys_group : union (keys_of xy) (keys_of z) ≡ union (keys_of x) (keys_of yz)
  keys_group =
      ap (λ u. union u (keys_of z)) (merged_keys x y)
      ∙ union_assoc (keys_of x) (keys_of y) (keys_of z) (keys_ascend x p.labels_up) (keys_ascend y q.labels_up) (keys_ascend z r.labels_up)
      ∙ ap (union (keys_of x)) (sym (merged_keys y z))

  second_long : (u v : List ℕ) → ascending u ≡ true → ascending v ≡ true → length v ≤ length (union u v)
  second_long u v a b = subst (λ w. length v ≤ length w) (union_comm v u b a) (union_more v u)

  pub second_accepted : Mergeable y z
  second_accepted =
      let arcs : ascending yz.arcs ≡ true = subst (λ u. ascending u ≡ true) (sym (merged_arcs y z)) (union_ascends y.arcs z.arcs (arcs_in_order q) (arcs_in_order r)) in
      let keys : ascending (union (keys_of y) (keys_of z)) ≡ true = union_ascends (keys_of y) (keys_of z) (keys_ascend y q.labels_up) (keys_ascend z r.labels_up) in
      record {
        none_shared = shared.1;
        arcs_fit = subst (λ u. length u ≤ 16) (merged_arcs y z)
            (le_trans (second_long x.arcs yz.arcs (arcs_in_order p) arcs) (subst (λ u. length u ≤ 16) arcs_group n.arcs_fit));
        labels_fit = le_trans (second_long (keys_of x) (union (keys_of y) (keys_of z)) (keys_ascend x p.labels_up) keys)
            (subst (λ u. length (union (keys_of x) u) ≤ 500) (merged_keys y z) (subst (λ u. length u ≤ 500) keys_group n.labels_fit));
        all_agree = all_each (agree y z) (union (keys_of y) (keys_of z)) (λ k h. agree_is y z k (agreed_second k));
      }

  pub first_accepted : Mergeable x yz
  first_accepted =
      record {
        none_shared = ap (share x.arcs) (merged_arcs y z)
            ∙ share_comm x.arcs (union y.arcs z.arcs) (arcs_in_order p) (union_ascends y.arcs z.arcs (arcs_in_order q) (arcs_in_order r))
            ∙ share_union y.arcs z.arcs x.arcs
            ∙ either_none (share_comm y.arcs x.arcs (arcs_in_order q) (arcs_in_order p) ∙ m.none_shared) (share_comm z.arcs x.arcs (arcs_in_order r) (arcs_in_order p) ∙ shared.0);
        arcs_fit = subst (λ u. length u ≤ 16) arcs_group n.arcs_fit;
        labels_fit = subst (λ u. length u ≤ 500) keys_group n.labels_fit;
        all_agree = all_each (agree x yz) (union (keys_of x) (keys_of yz)) (λ k h. agree_is x yz k (agreed_first k));
      }

-- The laws of merging, each in the definitions' words: sums of like labels are added, labels and arcs united, priors kept; order and grouping
-- don't matter; two systems of accepted files give one that is again what an accepted file has.
-- Assumes nothing.
use mathlib.Core.Path.{◌≡◌, sym, ap, ◌∙◌}
use mathlib.Core.Bool.{true}
use Prim.Native.Nat.{ℕ, ◌+◌}
use lib.IntN.{◌+ℤ◌}
use Rattle.num_whole.specs.Tests.{either}
use Rattle.num_whole.proofs.Cases.{by_cases}
use Rattle.norm_system.specs.System.{System, has}
use Rattle.norm_system.proofs.Sound.{SoundSystem}
use Rattle.merge_join.proofs.Union.{has_union}
use Rattle.norm_labels.specs.Labels.{keys_of, label_by_key, value, side}
use Rattle.merge_laws.specs.Merge.{merged_of, merge_number}
use Rattle.norm_labels.proofs.Values.{formed, arcs_in_order}
use Rattle.merge_laws.proofs.Merged.{merged_arcs, merged_value, merged_side, merged_accepted, merged_square, has_merged, label_first, label_second}
use Rattle.merge_laws.proofs.Numbers.{mergeable, number_comm, label_same}
use Rattle.merge_laws.proofs.Orders.{merged_either, merged_group}
use Rattle.merge_laws.proofs.Whole.{merged_sound}
use Rattle.merge_laws.proofs.Groups.{mergeable_is, first_accepted, second_accepted}

-- ---- "Merging adds sums of like labels"
module _ (x y : System) (p : SoundSystem x) (q : SoundSystem y) where
  -- the merged sum at two labels is the sum of what each has there, 0 where it has none
  pub merge_value : (k l : ℕ) → value (merged_of x y) k l ≡ value x k l +ℤ value y k l
  merge_value = merged_value x y (formed x p) (formed y q)

  pub merge_side : (k : ℕ) → side (merged_of x y) k ≡ side x k +ℤ side y k
  merge_side = merged_side x y (formed x p) (formed y q)

  pub merge_totals : ((merged_of x y).accepted ≡ x.accepted + y.accepted) × ((merged_of x y).square ≡ x.square + y.square)
  merge_totals = (merged_accepted x y, merged_square x y)

-- ---- "unites labels and arcs"
module _ (x y : System) (k : ℕ) where
  pub merge_labels : has k (keys_of (merged_of x y)) ≡ either (has k (keys_of x)) (has k (keys_of y))
  merge_labels = has_merged x y k

  pub merge_arcs : has k (merged_of x y).arcs ≡ either (has k x.arcs) (has k y.arcs)
  merge_arcs = ap (has k) (merged_arcs x y) ∙ has_union k x.arcs y.arcs

-- ---- "carries priors over without adding them": a label of either is the same label, prior weight and estimate with it, in the result
module _ (x y : System) (p : SoundSystem x) (q : SoundSystem y) (accepted : merge_number x y ≡ 0) (k : ℕ) where
  pub priors_first : has k (keys_of x) ≡ true → label_by_key (merged_of x y) k ≡ label_by_key x k
  priors_first = label_first x y k

  pub priors_second : has k (keys_of y) ≡ true → label_by_key (merged_of x y) k ≡ label_by_key y k
  priors_second b =
      by_cases (has k (keys_of x))
      (λ a. label_first x y k a ∙ label_same x y p q (mergeable x y accepted).all_agree k a b)
      (λ a. label_second x y k a b)

-- ---- "The two may be given in either order"
module _ (x y : System) (p : SoundSystem x) (q : SoundSystem y) where
  pub merge_either : merge_number x y ≡ 0 → merged_of x y ≡ merged_of y x
  merge_either e = merged_either x y p q (mergeable x y e).all_agree

  pub refuse_either : merge_number x y ≡ merge_number y x
  refuse_either = number_comm x y p q

  -- ---- two accepted ones give what an accepted file has, sound sums among it
  pub merge_sound : merge_number x y ≡ 0 → SoundSystem (merged_of x y)
  merge_sound = merged_sound x y p q

-- ---- three in either grouping: the same system, and accepted in the one where in the other
module _ (x y z : System) (p : SoundSystem x) (q : SoundSystem y) (r : SoundSystem z) where
  pub merge_groups : merged_of (merged_of x y) z ≡ merged_of x (merged_of y z)
  merge_groups = merged_group x y z (formed x p) (formed y q) (formed z r) (arcs_in_order p) (arcs_in_order q) (arcs_in_order r)

  pub accept_groups : merge_number x y ≡ 0 → merge_number (merged_of x y) z ≡ 0 → (merge_number y z ≡ 0) × (merge_number x (merged_of y z) ≡ 0)
  accept_groups e f = (
    mergeable_is y z (second_accepted x y z p q r (mergeable x y e) (mergeable (merged_of x y) z f)),
    mergeable_is x (merged_of y z) (first_accepted x y z p q r (mergeable x y e) (mergeable (merged_of x y) z f)),
  )

  pub accept_back : merge_number y z ≡ 0 → merge_number x (merged_of y z) ≡ 0 → (merge_number x y ≡ 0) × (merge_number (merged_of x y) z ≡ 0)
  accept_back e f =
      let yz = merge_sound y z q r e in
      let zy : merge_number z y ≡ 0 = refuse_either z y r q ∙ e in
      let turned : merge_number (merged_of z y) x ≡ 0 = ap (λ g. merge_number g x) (sym (merge_either y z q r e)) ∙ refuse_either (merged_of y z) x yz p ∙ f in
      let g = accept_turned zy turned in
      let xy : merge_number x y ≡ 0 = refuse_either x y p q ∙ g.0 in
      (xy, refuse_either (merged_of x y) z (merge_sound x y p q xy) r ∙ ap (merge_number z) (merge_either x y p q xy) ∙ g.1)
    where
      accept_turned : merge_number z y ≡ 0 → merge_number (merged_of z y) x ≡ 0 → (merge_number y x ≡ 0) × (merge_number z (merged_of y x) ≡ 0)
      accept_turned e f = (
        mergeable_is y x (second_accepted z y x r q p (mergeable z y e) (mergeable (merged_of z y) x f)),
        mergeable_is z (merged_of y x) (first_accepted z y x r q p (mergeable z y e) (mergeable (merged_of z y) x f)),
      )

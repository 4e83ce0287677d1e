-- Merging goes by no order and no grouping: two systems are added in either order, their join is one, and three group as one likes.
-- Assumes nothing.
use mathlib.Core.Path.{◌≡◌, refl, sym, ap, ap₂, ◌∙◌}
use mathlib.Core.List.{map}
use mathlib.Core.Bool.{true, false}
use Prim.Native.Nat.{ℕ, ◌+◌}
use native.Mathlib.Omega.{arith}
use lib.IntN.{◌+ℤ◌, +ℤ_assoc}
use Rattle.num_whole.specs.Lists.{all}
use Rattle.num_whole.proofs.Cases.{apart, at_last, by_cases}
use Rattle.num_whole.proofs.Adding.{plus_comm}
use Rattle.norm_system.specs.System.{System, has}
use Rattle.norm_system.proofs.Sound.{SoundSystem}
use Rattle.norm_labels.specs.Seats.{ascending}
use Rattle.merge_join.specs.Join.{union}
use Rattle.merge_join.proofs.Union.{union_comm, union_assoc, has_union, either_none}
use Rattle.norm_labels.specs.Labels.{keys_of, value, side, table}
use Rattle.merge_laws.specs.Merge.{zero_system, carried, joined, add_into, merged_of, agree}
use Rattle.norm_labels.proofs.Values.{Formed, keys_ascend, arcs_in_order, map_alike, same_system}
use Rattle.merge_laws.proofs.Merged.{carried_first, carried_second, merged_keys, merged_labels, merged_arcs, merged_matrix, merged_rights, merged_value, merged_side, merged_accepted, merged_square, has_merged, in_merged_first, in_merged_second, label_first, label_second}
use Rattle.merge_laws.proofs.Numbers.{label_same}

-- ---- order
swap : (a b c : ℕ) → a + b + c ≡ a + c + b
swap a b c = omega arith

pub add_either : (g x y : System) → add_into (add_into g x) y ≡ add_into (add_into g y) x
unfolding add_into keys_of
add_either g x y =
    same_system refl refl
    (plus_comm g.matrix (table (value x) (keys_of g)) (table (value y) (keys_of g)))
    (plus_comm g.rights (map (side x) (keys_of g)) (map (side y) (keys_of g)))
    (swap g.accepted x.accepted y.accepted)
    (swap g.square x.square y.square)

module _ (x y : System) (p : SoundSystem x) (q : SoundSystem y) (agreed : all (agree x y) (union (keys_of x) (keys_of y)) ≡ true) where
  pub carried_either : (k : ℕ) → has k (union (keys_of x) (keys_of y)) ≡ true → carried x y k ≡ carried y x k
  carried_either k h =
      by_cases (has k (keys_of x))
      (λ a. by_cases (has k (keys_of y))
      (λ b. carried_first x y k a ∙ label_same x y p q agreed k a b ∙ sym (carried_first y x k b))
      (λ b. carried_first x y k a ∙ sym (carried_second y x k b)))
      (λ a. by_cases (has k (keys_of y))
      (λ b. carried_second x y k a ∙ sym (carried_first y x k b))
      (λ b. absurd (apart (sym h ∙ has_union k (keys_of x) (keys_of y) ∙ either_none a b))))

  pub joined_either : joined x y ≡ joined y x
  unfolding joined
  joined_either =
      ap₂ zero_system
      (union_comm x.arcs y.arcs (arcs_in_order p) (arcs_in_order q))
      (map_alike (carried x y) (carried y x) (union (keys_of x) (keys_of y)) carried_either
      ∙ ap (map (carried y x)) (union_comm (keys_of x) (keys_of y) (keys_ascend x p.labels_up) (keys_ascend y q.labels_up)))

  pub merged_either : merged_of x y ≡ merged_of y x
  unfolding merged_of
  merged_either = add_either (joined x y) x y ∙ ap (λ g. add_into (add_into g y) x) joined_either

-- ---- grouping
module _ (x y z : System) (fx : Formed x) (fy : Formed y) (fz : Formed z) where
  abbrev xy : System
  xy = merged_of x y

  abbrev yz : System
  yz = merged_of y z

  keys_group : union (keys_of xy) (keys_of z) ≡ union (keys_of x) (keys_of yz)
  keys_group =
      ap (λ u. union u (keys_of z)) (merged_keys x y) ∙ union_assoc (keys_of x) (keys_of y) (keys_of z) fx.ascend fy.ascend fz.ascend
      ∙ ap (union (keys_of x)) (sym (merged_keys y z))

  carried_group : (k : ℕ) → has k (union (keys_of xy) (keys_of z)) ≡ true → carried xy z k ≡ carried x yz k
  carried_group k h = by_cases (has k (keys_of x)) first (λ a. by_cases (has k (keys_of y)) (second a) (third a))
    where
      first : has k (keys_of x) ≡ true → carried xy z k ≡ carried x yz k
      first a = carried_first xy z k (in_merged_first x y k a) ∙ label_first x y k a ∙ sym (carried_first x yz k a)

      second : has k (keys_of x) ≡ false → has k (keys_of y) ≡ true → carried xy z k ≡ carried x yz k
      second a b =
          carried_first xy z k (in_merged_second x y k b) ∙ label_second x y k a b ∙ sym (carried_second x yz k a ∙ label_first y z k b)

      third : has k (keys_of x) ≡ false → has k (keys_of y) ≡ false → carried xy z k ≡ carried x yz k
      third a b =
          let none : has k (keys_of xy) ≡ false = has_merged x y k ∙ either_none a b in
          let c : has k (keys_of z) ≡ true = at_last _ _ none refl ∙ sym (has_union k (keys_of xy) (keys_of z)) ∙ h in
          carried_second xy z k none ∙ sym (carried_second x yz k a ∙ label_second y z k b c)

  value_group : (k l : ℕ) → value xy k l +ℤ value z k l ≡ value x k l +ℤ value yz k l
  value_group k l =
      ap (λ v. v +ℤ value z k l) (merged_value x y fx fy k l) ∙ +ℤ_assoc (value x k l) (value y k l) (value z k l)
      ∙ ap (λ v. value x k l +ℤ v) (sym (merged_value y z fy fz k l))

  side_group : (k : ℕ) → side xy k +ℤ side z k ≡ side x k +ℤ side yz k
  side_group k =
      ap (λ v. v +ℤ side z k) (merged_side x y fx fy k) ∙ +ℤ_assoc (side x k) (side y k) (side z k)
      ∙ ap (λ v. side x k +ℤ v) (sym (merged_side y z fy fz k))

  pub merged_group : ascending x.arcs ≡ true → ascending y.arcs ≡ true → ascending z.arcs ≡ true → merged_of xy z ≡ merged_of x yz
  merged_group ax ay az =
      same_system
      (merged_arcs xy z ∙ ap (λ u. union u z.arcs) (merged_arcs x y) ∙ union_assoc x.arcs y.arcs z.arcs ax ay az
      ∙ ap (union x.arcs) (sym (merged_arcs y z)) ∙ sym (merged_arcs x yz))
      (merged_labels xy z ∙ map_alike (carried xy z) (carried x yz) (union (keys_of xy) (keys_of z)) carried_group
      ∙ ap (map (carried x yz)) keys_group ∙ sym (merged_labels x yz))
      (merged_matrix xy z ∙ (λ i. table (λ k l. value_group k l i) (keys_group i)) ∙ sym (merged_matrix x yz))
      (merged_rights xy z ∙ (λ i. map (λ k. side_group k i) (keys_group i)) ∙ sym (merged_rights x yz))
      (total (λ v. v.accepted) merged_accepted)
      (total (λ v. v.square) merged_square)
    where
      total : (n : System → ℕ) → ((v w : System) → n (merged_of v w) ≡ n v + n w) → n (merged_of xy z) ≡ n (merged_of x yz)
      total n e =
          let a : n (merged_of xy z) ≡ n xy + n z = e xy z in
          let b : n xy ≡ n x + n y = e x y in
          let c : n (merged_of x yz) ≡ n x + n yz = e x yz in
          let d : n yz ≡ n y + n z = e y z in
          omega arith

-- What a merged system is at each label: its keys are those of both, its label the one carried over, its sums those of both added.
-- Assumes nothing.
use mathlib.Core.Path.{◌≡◌, refl, sym, ap, ap₂, ◌∙◌, subst}
use mathlib.Core.List.{List, [], ◌∷◌, map}
use mathlib.Core.Bool.{true, false}
use Prim.Native.Nat.{ℕ, ◌+◌}
use native.Mathlib.Nat.{zero-add}
use lib.IntN.{ℤ, pos, ◌+ℤ◌, +ℤ_idl}
use lib.ListN.{length, get_or, replicate, length-map, length-replicate}
use Rattle.num_whole.specs.Tests.{either}
use Rattle.num_whole.specs.Sums.{plus}
use Rattle.num_whole.proofs.Cases.{apart, yes, no, at_once, by_cases}
use Rattle.num_packed.specs.Triangle.{tri}
use Rattle.norm_system.specs.System.{System, has, key_of}
use Rattle.norm_labels.specs.Seats.{ascending, seat}
use Rattle.merge_join.specs.Join.{union}
use Rattle.norm_labels.proofs.Ascending.{map_own, either_second}
use Rattle.merge_join.proofs.Union.{union_ascends, has_union, either_false, either_none}
use Rattle.norm_labels.proofs.Seats.{seated}
use Rattle.norm_labels.specs.Labels.{keys_of, no_normal_label, label_by_key, value, side, table}
use Rattle.merge_laws.specs.Merge.{zero_system, carried, joined, add_into, merged_of}
use Rattle.norm_labels.proofs.Tables.{length_table, plus_table, plus_map, plus_zeros, zeros_at, sum_zeros}
use Rattle.norm_labels.proofs.Values.{Formed, map_at, label_key_lem, map_alike}
use Rattle.merge_laws.proofs.Adding.{keys_add, add_formed, add_value, add_side}

map_over : {A B C : Type 0} (f : B → C) (g : A → B) (l : List A) → map f (map g l) ≡ map (λ a. f (g a)) l
map_over f g [] = refl
map_over f g (x ∷ l) = ap (λ t. f (g x) ∷ t) (map_over f g l)

module _ (x y : System) where
  -- ---- the label that is carried over
  module _ (k : ℕ) where
    pub carried_first : has k (keys_of x) ≡ true → carried x y k ≡ label_by_key x k
    unfolding carried
    carried_first h = sym (yes _ _ _ h refl)

    pub carried_second : has k (keys_of x) ≡ false → carried x y k ≡ label_by_key y k
    unfolding carried
    carried_second h = sym (no _ _ _ h refl)

    pub carried_key : has k (union (keys_of x) (keys_of y)) ≡ true → key_of (carried x y k) ≡ k
    carried_key h =
        by_cases (has k (keys_of x))
        (λ a. ap key_of (carried_first a) ∙ label_key_lem x k a)
        (λ a. by_cases (has k (keys_of y))
        (λ b. ap key_of (carried_second a) ∙ label_key_lem y k b)
        (λ b. absurd (apart (sym h ∙ has_union k (keys_of x) (keys_of y) ∙ either_none a b))))

  -- ---- the join
  pub keys_joined : keys_of (joined x y) ≡ union (keys_of x) (keys_of y)
  unfolding joined zero_system keys_of
  keys_joined =
      map_over key_of (carried x y) (union (keys_of x) (keys_of y))
      ∙ map_alike (λ k. key_of (carried x y k)) (λ k. k) (union (keys_of x) (keys_of y)) carried_key ∙ map_own (union (keys_of x) (keys_of y))

  pub joined_value : (k l : ℕ) → value (joined x y) k l ≡ pos 0
  unfolding joined zero_system value
  joined_value k l = sum_zeros (tri n) n (seat (keys_of (joined x y)) k) (seat (keys_of (joined x y)) l)
    where
      n : ℕ
      n = length (map (carried x y) (union (keys_of x) (keys_of y)))

  pub joined_side : (k : ℕ) → side (joined x y) k ≡ pos 0
  unfolding joined zero_system side
  joined_side k = zeros_at (length (map (carried x y) (union (keys_of x) (keys_of y)))) _

  module _ (fx : Formed x) (fy : Formed y) where
    pub joined_formed : Formed (joined x y)
    unfolding joined zero_system
    joined_formed =
        let u = map (carried x y) (union (keys_of x) (keys_of y)) in
        record {
          ascend = subst (λ l. ascending l ≡ true) (sym keys_joined) (union_ascends (keys_of x) (keys_of y) fx.ascend fy.ascend);
          matrix_long = length-replicate (tri (length u)) (pos 0);
          rights_long = length-replicate (length u) (pos 0);
        }

    lacking : (k : ℕ) → has k (keys_of (joined x y)) ≡ false → (has k (keys_of x) ≡ false) × (has k (keys_of y) ≡ false)
    lacking k e =
        either_false (has k (keys_of x)) (has k (keys_of y)) (sym (has_union k (keys_of x) (keys_of y)) ∙ sym (ap (has k) keys_joined) ∙ e)

    with_first : Formed (add_into (joined x y) x)
    with_first = add_formed (joined x y) x joined_formed fx (λ k e. (lacking k e).0)

    -- ---- the merged system
    pub merged_formed : Formed (merged_of x y)
    unfolding merged_of
    merged_formed =
        add_formed (add_into (joined x y) x) y with_first fy (λ k e. (lacking k (sym (ap (has k) (keys_add (joined x y) x)) ∙ e)).1)

    pub merged_value : (k l : ℕ) → value (merged_of x y) k l ≡ value x k l +ℤ value y k l
    unfolding merged_of
    merged_value k l =
        add_value (add_into (joined x y) x) y with_first fy (λ k e. (lacking k (sym (ap (has k) (keys_add (joined x y) x)) ∙ e)).1) k l
        ∙ ap (λ z. z +ℤ value y k l)
        (add_value (joined x y) x joined_formed fx (λ k e. (lacking k e).0) k l ∙ ap (λ z. z +ℤ value x k l) (joined_value k l) ∙ +ℤ_idl (value x k l))

    pub merged_side : (k : ℕ) → side (merged_of x y) k ≡ side x k +ℤ side y k
    unfolding merged_of
    merged_side k =
        add_side (add_into (joined x y) x) y with_first fy (λ k e. (lacking k (sym (ap (has k) (keys_add (joined x y) x)) ∙ e)).1) k
        ∙ ap (λ z. z +ℤ side y k)
        (add_side (joined x y) x joined_formed fx (λ k e. (lacking k e).0) k ∙ ap (λ z. z +ℤ side x k) (joined_side k) ∙ +ℤ_idl (side x k))

  pub merged_keys : keys_of (merged_of x y) ≡ union (keys_of x) (keys_of y)
  unfolding merged_of
  merged_keys = keys_add (add_into (joined x y) x) y ∙ keys_add (joined x y) x ∙ keys_joined

  pub merged_labels : (merged_of x y).labels ≡ map (carried x y) (union (keys_of x) (keys_of y))
  unfolding merged_of add_into joined zero_system
  merged_labels = refl

  pub merged_arcs : (merged_of x y).arcs ≡ union x.arcs y.arcs
  unfolding merged_of add_into joined zero_system
  merged_arcs = refl

  pub merged_label : (k : ℕ) → has k (union (keys_of x) (keys_of y)) ≡ true → label_by_key (merged_of x y) k ≡ carried x y k
  unfolding label_by_key
  merged_label k h =
      let u = union (keys_of x) (keys_of y) in
      ap₂ (λ l keys. get_or l (seat keys k) no_normal_label) merged_labels merged_keys
      ∙ map_at (carried x y) no_normal_label u (seat u k) (seated u k h).inside ∙ ap (carried x y) (seated u k h).is

  pub merged_accepted : (merged_of x y).accepted ≡ x.accepted + y.accepted
  unfolding merged_of add_into joined zero_system
  merged_accepted = ap (λ n. n + y.accepted) (zero-add x.accepted)

  pub merged_square : (merged_of x y).square ≡ x.square + y.square
  unfolding merged_of add_into joined zero_system
  merged_square = ap (λ n. n + y.square) (zero-add x.square)

  -- ---- at one label
  module _ (k : ℕ) where
    pub has_merged : has k (keys_of (merged_of x y)) ≡ either (has k (keys_of x)) (has k (keys_of y))
    has_merged = ap (has k) merged_keys ∙ has_union k (keys_of x) (keys_of y)

    pub in_merged_first : has k (keys_of x) ≡ true → has k (keys_of (merged_of x y)) ≡ true
    in_merged_first h = has_merged ∙ sym (at_once _ _ h)

    pub in_merged_second : has k (keys_of y) ≡ true → has k (keys_of (merged_of x y)) ≡ true
    in_merged_second h = has_merged ∙ either_second (has k (keys_of x)) h

    pub label_first : has k (keys_of x) ≡ true → label_by_key (merged_of x y) k ≡ label_by_key x k
    label_first h = merged_label k (sym (ap (has k) merged_keys) ∙ in_merged_first h) ∙ carried_first k h

    pub label_second : has k (keys_of x) ≡ false → has k (keys_of y) ≡ true → label_by_key (merged_of x y) k ≡ label_by_key y k
    label_second a h = merged_label k (sym (ap (has k) merged_keys) ∙ in_merged_second h) ∙ carried_second k a

  -- ---- the sums as they stand
  pub merged_matrix : (merged_of x y).matrix ≡ table (λ k l. value x k l +ℤ value y k l) (union (keys_of x) (keys_of y))
  unfolding merged_of add_into joined zero_system keys_of
  merged_matrix =
      let u = union (keys_of x) (keys_of y) in
      ap sums keys_joined
      ∙ ap (λ l. plus l (table (value y) u))
      (plus_zeros (tri (length (map (carried x y) u))) (table (value x) u) (length_table (value x) u ∙ ap tri (sym (length-map u (carried x y)))))
      ∙ plus_table (value x) (value y) u
    where
      sums : List ℕ → List ℤ
      sums u = plus (plus (replicate (tri (length (map (carried x y) (union (keys_of x) (keys_of y))))) (pos 0)) (table (value x) u)) (table (value y) u)

  pub merged_rights : (merged_of x y).rights ≡ map (λ k. side x k +ℤ side y k) (union (keys_of x) (keys_of y))
  unfolding merged_of add_into joined zero_system keys_of
  merged_rights =
      let u = union (keys_of x) (keys_of y) in
      ap sums keys_joined
      ∙ ap (λ l. plus l (map (side y) u))
      (plus_zeros (length (map (carried x y) u)) (map (side x) u) (length-map u (side x) ∙ sym (length-map u (carried x y))))
      ∙ plus_map (side x) (side y) u
    where
      sums : List ℕ → List ℤ
      sums u = plus (plus (replicate (length (map (carried x y) (union (keys_of x) (keys_of y)))) (pos 0)) (map (side x) u)) (map (side y) u)

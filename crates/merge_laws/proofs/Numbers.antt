-- The refusals of two systems: which number is given when, what it says that none is, and that either order gives the same.
-- Assumes nothing.
use mathlib.Core.Path.{◌≡◌, refl, sym, ◌∙◌, subst}
use mathlib.Core.List.{List, [], ◌∷◌}
use mathlib.Core.Bool.{Bool, true, false, not}
use Prim.Native.Nat.{ℕ, ◌≤◌}
use native.Mathlib.Omega.{arith}
use lib.ListN.{length}
use Rattle.num_whole.specs.Tests.{less, same, both, either}
use Rattle.num_whole.specs.Lists.{all}
use Rattle.num_whole.proofs.Cases.{apart, at_last, same_true, less_false, both_first, both_second, by_cases}
use Rattle.num_whole.proofs.Walks.{all_at}
use Rattle.refusal.specs.First.{when, unless, first}
use Rattle.refusal.proofs.Firsts.{when_true, when_false, unless_true, unless_false, when_none, unless_none, first_pass, first_stop, first_none, first_one}
use Rattle.norm_system.specs.System.{System, has, normal_label_ok}
use Rattle.norm_system.proofs.Labels.{label_small}
use Rattle.norm_system.proofs.Sound.{SoundSystem}
use Rattle.merge_join.specs.Join.{union, share}
use Rattle.norm_labels.specs.Seats.{seat}
use Rattle.merge_join.specs.Alike.{alike}
use Rattle.merge_join.proofs.Alike.{alike_comm, one_label}
use Rattle.merge_join.proofs.Union.{union_comm, has_union}
use Rattle.norm_labels.proofs.Ascending.{either_second}
use Rattle.merge_join.proofs.Shared.{share_comm}
use Rattle.norm_labels.specs.Labels.{keys_of, no_normal_label, label_by_key}
use Rattle.merge_laws.specs.Merge.{agree, merge_number}
use Rattle.norm_labels.proofs.Values.{keys_ascend, within, label_key_lem, arcs_in_order}

-- ---- the tests in their order
module _ (x y : System) where
  after_22 : List ℕ
  after_22 = when 23 (less 500 (length (union (keys_of x) (keys_of y)))) ∷ unless 24 (all (agree x y) (union (keys_of x) (keys_of y))) ∷ []

  pub gives_21 : share x.arcs y.arcs ≡ true → merge_number x y ≡ 21
  unfolding merge_number
  gives_21 e =
      let z = when_true 21 (share x.arcs y.arcs) e in
      first_stop _ _ (λ n. wrong (sym z ∙ n)) ∙ z
    where
      wrong : ◌≡◌ {A = ℕ} 21 0 → ⊥
      wrong e = omega arith

  module _ (a : share x.arcs y.arcs ≡ false) where
    past_21 : merge_number x y ≡ first (when 22 (less 16 (length (union x.arcs y.arcs))) ∷ after_22)
    unfolding merge_number after_22
    past_21 = first_pass _ _ (when_false 21 _ a)

    pub gives_22 : less 16 (length (union x.arcs y.arcs)) ≡ true → merge_number x y ≡ 22
    gives_22 e =
        let z = when_true 22 (less 16 (length (union x.arcs y.arcs))) e in
        past_21 ∙ first_stop _ _ (λ n. wrong (sym z ∙ n)) ∙ z
      where
        wrong : ◌≡◌ {A = ℕ} 22 0 → ⊥
        wrong e = omega arith

    module _ (b : less 16 (length (union x.arcs y.arcs)) ≡ false) where
      past_22 : merge_number x y ≡ first after_22
      past_22 = past_21 ∙ first_pass _ _ (when_false 22 _ b)

      pub gives_23 : less 500 (length (union (keys_of x) (keys_of y))) ≡ true → merge_number x y ≡ 23
      unfolding after_22
      gives_23 e =
          let z = when_true 23 (less 500 (length (union (keys_of x) (keys_of y)))) e in
          past_22 ∙ first_stop _ _ (λ n. wrong (sym z ∙ n)) ∙ z
        where
          wrong : ◌≡◌ {A = ℕ} 23 0 → ⊥
          wrong e = omega arith

      module _ (c : less 500 (length (union (keys_of x) (keys_of y))) ≡ false) where
        past_23 : merge_number x y ≡ unless 24 (all (agree x y) (union (keys_of x) (keys_of y)))
        unfolding after_22
        past_23 = past_22 ∙ first_pass _ _ (when_false 23 _ c) ∙ first_one _

        pub gives_24 : all (agree x y) (union (keys_of x) (keys_of y)) ≡ false → merge_number x y ≡ 24
        gives_24 e = past_23 ∙ unless_false 24 _ e

        pub gives_none : all (agree x y) (union (keys_of x) (keys_of y)) ≡ true → merge_number x y ≡ 0
        gives_none e = past_23 ∙ unless_true 24 _ e

-- ---- what it says that nothing refuses
pub record Mergeable (x y : System) : Type 0 where
  pub none_shared : share x.arcs y.arcs ≡ false
  pub arcs_fit : length (union x.arcs y.arcs) ≤ 16
  pub labels_fit : length (union (keys_of x) (keys_of y)) ≤ 500
  pub all_agree : all (agree x y) (union (keys_of x) (keys_of y)) ≡ true

pub mergeable : (x y : System) → merge_number x y ≡ 0 → Mergeable x y
unfolding merge_number
mergeable x y e =
    let a = first_none _ _ e in
    let b = first_none _ _ a.1 in
    let c = first_none _ _ b.1 in
    let d = first_none _ _ c.1 in
    record {
      none_shared = when_none 21 _ (λ z. omega arith) a.0;
      arcs_fit = less_false 16 _ (when_none 22 _ (λ z. omega arith) b.0);
      labels_fit = less_false 500 _ (when_none 23 _ (λ z. omega arith) c.0);
      all_agree = unless_none 24 _ (λ z. omega arith) d.0;
    }

-- ---- either order
both_comm : (a b : Bool) → both a b ≡ both b a
unfolding both
both_comm true true = refl
both_comm true false = refl
both_comm false true = refl
both_comm false false = refl

agree_comm : (x y : System) (k : ℕ) → agree x y k ≡ agree y x k
unfolding agree
agree_comm x y k =
    (λ i. either (not (both_comm (has k (keys_of x)) (has k (keys_of y)) i)) (alike_comm (label_by_key x k) (label_by_key y k) i))

pub number_comm : (x y : System) → SoundSystem x → SoundSystem y → merge_number x y ≡ merge_number y x
unfolding merge_number
number_comm x y p q =
    let arcs : union x.arcs y.arcs ≡ union y.arcs x.arcs = union_comm x.arcs y.arcs (arcs_in_order p) (arcs_in_order q) in
    let keys : union (keys_of x) (keys_of y) ≡ union (keys_of y) (keys_of x) = union_comm (keys_of x) (keys_of y) (keys_ascend x p.labels_up) (keys_ascend y q.labels_up) in
    let meet : share x.arcs y.arcs ≡ share y.arcs x.arcs = share_comm x.arcs y.arcs (arcs_in_order p) (arcs_in_order q) in
    (λ i. first (when 21 (meet i) ∷ when 22 (less 16 (length (arcs i))) ∷ when 23 (less 500 (length (keys i))) ∷ unless 24 (all (λ k. agree_comm x y k i) (keys i)) ∷ []))

-- ---- a label that two systems have is one and the same
pub all_has : (f : ℕ → Bool) (l : List ℕ) (k : ℕ) → all f l ≡ true → has k l ≡ true → f k ≡ true
unfolding all has
all_has f [] k e h = absurd (apart (sym h))
all_has f (a ∷ l) k e h =
    by_cases (same a k)
    (λ t. subst (λ m. f m ≡ true) (same_true a k t) (both_first _ _ e))
    (λ t. all_has f l k (both_second _ _ e) (at_last _ _ t refl ∙ h))

pub label_ok_lem : (x : System) → SoundSystem x → (k : ℕ) → has k (keys_of x) ≡ true → normal_label_ok x.arcs (label_by_key x k) ≡ true
unfolding label_by_key
label_ok_lem x p k h = all_at (normal_label_ok x.arcs) x.labels no_normal_label (seat (keys_of x) k) p.labels (within x k h)

pub label_same : (x y : System) → SoundSystem x → SoundSystem y → all (agree x y) (union (keys_of x) (keys_of y)) ≡ true → (k : ℕ) → has k (keys_of x) ≡ true
    → has k (keys_of y) ≡ true → label_by_key x k ≡ label_by_key y k
unfolding agree either both
label_same x y p q all_agree k a b =
    let h : has k (union (keys_of x) (keys_of y)) ≡ true = has_union k (keys_of x) (keys_of y) ∙ either_second (has k (keys_of x)) b in
    let e : either (not (both (has k (keys_of x)) (has k (keys_of y)))) (alike (label_by_key x k) (label_by_key y k)) ≡ true = all_has (agree x y) (union (keys_of x) (keys_of y)) k all_agree h in
    one_label (label_by_key x k) (label_by_key y k) (label_small x.arcs (label_by_key x k) p.arcs (label_ok_lem x p k a)) (label_small y.arcs (label_by_key y k) q.arcs (label_ok_lem y q k b))
    (label_key_lem x k a ∙ sym (label_key_lem y k b)) (second e)
  where
    second : either (not (both (has k (keys_of x)) (has k (keys_of y)))) (alike (label_by_key x k) (label_by_key y k)) ≡ true → alike (label_by_key x k) (label_by_key y k) ≡ true
    second e = rw (a, b) at e

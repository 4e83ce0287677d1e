-- The labels that the code writes at the places that a join gives, from those of two files where they stand, are the merged system's; and the
-- common labels that it compares are those of 24.
-- Assumes nothing.
use mathlib.Core.Path.{◌≡◌, refl, sym, ap, ap₂, ◌∙◌, subst}
use mathlib.Core.List.{List, ◌∷◌, map}
use mathlib.Core.Bool.{Bool, true, false, not}
use Prim.Native.Nat.{ℕ, zero, suc, ◌+◌, ◌*◌, ◌<◌}
use native.Mathlib.Omega.{arith}
use lib.ListN.{length, get_or}
use Rattle.num_whole.specs.Tests.{less, both, either, below}
use Rattle.num_whole.specs.Lists.{all}
use Rattle.num_whole.proofs.Cases.{apart, fails, last_fails, at_once, by_cases}
use Rattle.num_whole.proofs.Tables.{below_at, below_every}
use Rattle.norm_system.specs.System.{System, has, key_of}
use Rattle.byte_words.specs.Stands.{stands}
use Rattle.byte_words.proofs.Stands.{stands_at}
use Rattle.norm_kinds.specs.Kinds.{normal_label_at}
use Rattle.merge_join.specs.Join.{union, SeatedAt}
use Rattle.norm_labels.specs.Seats.{seat}
use Rattle.merge_join.specs.Alike.{alike}
use Rattle.merge_join.proofs.Union.{has_union, either_none}
use Rattle.norm_labels.proofs.Seats.{seated, unseated, seat_within, has_at}
use Rattle.norm_labels.specs.Table.{rows_of}
use Rattle.norm_labels.proofs.Tables.{rows_alike, rows_map}
use Rattle.merge_read.specs.Read.{key_at, keys_at, agree_in, agree_at}
use Rattle.merge_heads.specs.Heads.{label_of_two, label_of_union}
use Rattle.merge_heads.proofs.Chosen.{label_first, label_second}
use Rattle.norm_labels.specs.Labels.{keys_of, no_normal_label, label_by_key}
use Rattle.merge_laws.specs.Merge.{carried, merged_of, agree}
use Rattle.norm_labels.proofs.Values.{keys_long, within}
use Rattle.merge_laws.proofs.Numbers.{all_has}
use Rattle.merge_laws.proofs.Groups.{all_each}
use Rattle.merge_laws.proofs.Merged.{carried_first, carried_second, merged_labels}

-- ---- a file's labels, where they stand
abbrev pub LabelsStand : List ℕ → ℕ → System → Type 0
LabelsStand s labels x = x.labels ≡ stands (normal_label_at s) 24 (length x.labels) labels

map_stands : {A B : Type 0} (g : A → B) (f : ℕ → A) (size n at : ℕ) → map g (stands f size n at) ≡ stands (λ p. g (f p)) size n at
unfolding stands
map_stands g f size zero at = refl
map_stands g f size (suc n) at = ap (λ t. g (f at) ∷ t) (map_stands g f size n (at + size))

-- the keys as the code loads them
pub keys_stand : (s : List ℕ) (labels : ℕ) (x : System) → LabelsStand s labels x → keys_of x ≡ keys_at s labels (length x.labels)
unfolding keys_of keys_at key_at
keys_stand s labels x st =
    ap (map key_of) st ∙ map_stands key_of (normal_label_at s) 24 (length x.labels) labels

label_stands : (s : List ℕ) (labels : ℕ) (x : System) → LabelsStand s labels x → (k : ℕ) → has k (keys_of x) ≡ true
    → normal_label_at s (labels + 24 * seat (keys_of x) k) ≡ label_by_key x k
unfolding label_by_key
label_stands s labels x st k h =
    sym (ap (λ l. get_or l (seat (keys_of x) k) no_normal_label) st
    ∙ stands_at (normal_label_at s) 24 (length x.labels) labels (seat (keys_of x) k) no_normal_label (within x k h))

module _ (a : List ℕ) (la : ℕ) (x : System) (sa : LabelsStand a la x) (b : List ℕ) (lb : ℕ) (y : System) (sb : LabelsStand b lb y) (left right : List ℕ)
    (pl : SeatedAt (keys_of x) (union (keys_of x) (keys_of y)) left) (pr : SeatedAt (keys_of y) (union (keys_of x) (keys_of y)) right) where
  abbrev u : List ℕ
  u = union (keys_of x) (keys_of y)

  -- ---- labels
  label_held : (k : ℕ) → has k (keys_of x) ≡ true → normal_label_at a (la + 24 * seat (keys_of x) k) ≡ label_by_key x k
  label_held = label_stands a la x sa

  pub written_labels : rows_of (label_of_union a la (length x.labels) left b lb right) 0 (length u) ≡ (merged_of x y).labels
  unfolding label_of_union
  written_labels =
      rows_alike (label_of_union a la (length x.labels) left b lb right) (λ i. carried x y (get_or u i 0)) (length u) 0
      (λ i g. ap₂ (label_of_two a la (length x.labels) b lb) (pl i (low i g)) (pr i (low i g)) ∙ here (get_or u i 0) (has_at u i (low i g)))
      ∙ rows_map (carried x y) u ∙ sym (merged_labels x y)
    where
      low : (i : ℕ) → i < 0 + length u → i < length u
      low i g = omega arith

      here : (k : ℕ) → has k u ≡ true → label_of_two a la (length x.labels) b lb (seat (keys_of x) k) (seat (keys_of y) k) ≡ carried x y k
      here k h =
          by_cases (has k (keys_of x))
          (λ t. sym (label_first a la (length x.labels) b lb (seat (keys_of x) k) (seat (keys_of y) k) (within x k t) (sym (label_held k t))) ∙ sym (carried_first x y k t))
          (λ t. by_cases (has k (keys_of y))
          (λ v. let e : seat (keys_of x) k ≡ length (keys_of x) = unseated (keys_of x) k t in
          let f : length (keys_of x) ≡ length x.labels = keys_long x in
          sym (label_second a la (length x.labels) b lb (seat (keys_of x) k) (seat (keys_of y) k) (omega arith) (sym (label_stands b lb y sb k v))) ∙ sym (carried_second x y k t))
          (λ v. absurd (apart (sym h ∙ has_union k (keys_of x) (keys_of y) ∙ either_none t v))))

  -- ---- the labels that both have
  agreed_one : (k : ℕ) → agree_in a la (length x.labels) b lb (length y.labels) (seat (keys_of x) k) (seat (keys_of y) k) ≡ agree x y k
  unfolding agree_in agree
  agreed_one k =
      (λ i. either (not (both (one i) (two i))) (alike (normal_label_at a (la + 24 * seat (keys_of x) k)) (normal_label_at b (lb + 24 * seat (keys_of y) k))))
      ∙ by_cases (has k (keys_of x))
      (λ t. by_cases (has k (keys_of y))
      (λ v. (λ i. either (not (both (has k (keys_of x)) (has k (keys_of y)))) (alike (label_held k t i) (label_stands b lb y sb k v i))))
      (λ v. sym (at_once _ _ (off (last_fails (has k (keys_of x)) v))) ∙ at_once _ _ (off (last_fails (has k (keys_of x)) v))))
      (λ t. sym (at_once _ _ (off (sym (fails _ _ t)))) ∙ at_once _ _ (off (sym (fails _ _ t))))
    where
      one : less (seat (keys_of x) k) (length x.labels) ≡ has k (keys_of x)
      one = ap (less (seat (keys_of x) k)) (sym (keys_long x)) ∙ seat_within (keys_of x) k

      two : less (seat (keys_of y) k) (length y.labels) ≡ has k (keys_of y)
      two = ap (less (seat (keys_of y) k)) (sym (keys_long y)) ∙ seat_within (keys_of y) k

      off : {t : Bool} → t ≡ false → not t ≡ true
      off e = ap not e

  pub agreed_all : below (agree_at a la (length x.labels) left b lb (length y.labels) right) (length u) ≡ all (agree x y) u
  unfolding agree_at
  agreed_all =
      by_cases (below f (length u))
      (λ t. t ∙ sym (all_each (agree x y) u (λ k h.
      subst (λ m. agree x y m ≡ true) (seated u k h).is (sym (is (seat u k) (seated u k h).inside) ∙ below_at f (length u) t (seat u k) (seated u k h).inside))))
      (λ t. t ∙ sym (by_cases (all (agree x y) u)
      (λ v. absurd (apart (sym (below_every f (length u) (λ i h. is i h ∙ all_has (agree x y) u (get_or u i 0) v (has_at u i h))) ∙ t))) (λ v. v)))
    where
      f : ℕ → Bool
      f = agree_at a la (length x.labels) left b lb (length y.labels) right

      is : (i : ℕ) → i < length u → f i ≡ agree x y (get_or u i 0)
      is i h = ap₂ (agree_in a la (length x.labels) b lb (length y.labels)) (pl i h) (pr i h) ∙ agreed_one (get_or u i 0)

-- A system's sums added into another: at every label the sum of both. So a merged system has at each label, and at each two, the sum of what
-- the two have there.
-- Assumes nothing.
use mathlib.Core.Path.{◌≡◌, refl, sym, ap, ap₂, ◌∙◌, subst}
use mathlib.Core.List.{map}
use mathlib.Core.Bool.{true, false}
use Prim.Native.Nat.{ℕ, ◌+◌, ◌≤◌, ◌<◌}
use native.Mathlib.Omega.{arith}
use lib.IntN.{ℤ, pos, ◌+ℤ◌}
use lib.ListN.{length, get_or}
use Rattle.num_whole.specs.Tests.{less}
use Rattle.num_whole.specs.Sums.{plus}
use Rattle.num_whole.proofs.Cases.{less_true, less_false, by_cases}
use Rattle.num_whole.proofs.Adding.{length_plus, get_d_plus}
use Rattle.num_packed.specs.Triangle.{tri}
use Rattle.num_packed.specs.Sound.{entry}
use Rattle.num_packed.proofs.Places.{tri_within}
use Rattle.norm_system.specs.System.{System, has}
use Rattle.norm_labels.specs.Seats.{seat}
use Rattle.norm_labels.proofs.Seats.{seated, seats_order}
use Rattle.norm_labels.specs.Labels.{keys_of, value, side, table}
use Rattle.merge_laws.specs.Merge.{add_into}
use Rattle.norm_labels.proofs.Tables.{table_at, table_alike}
use Rattle.norm_labels.proofs.Values.{Formed, keys_long, map_at, within, value_there, value_no_row, value_no_column, value_below, side_none, map_alike, same_system}

pub nothing : {a b : ℤ} → a ≡ pos 0 → b ≡ pos 0 → pos 0 ≡ a +ℤ b
nothing {a} {b} p q = sym (ap₂ (λ u v. u +ℤ v) p q)

-- ---- a system's sums added into one that has its labels
pub keys_add : (g x : System) → keys_of (add_into g x) ≡ keys_of g
unfolding add_into keys_of
keys_add g x = refl

module _ (g x : System) (fg : Formed g) (fx : Formed x) (sub : (k : ℕ) → has k (keys_of g) ≡ false → has k (keys_of x) ≡ false) where
  pub add_formed : Formed (add_into g x)
  unfolding add_into keys_of
  add_formed =
      record {
        ascend = fg.ascend;
        matrix_long = length_plus g.matrix (table (value x) (keys_of g)) ∙ fg.matrix_long;
        rights_long = length_plus g.rights (map (side x) (keys_of g)) ∙ fg.rights_long;
      }

  entry_add : (i j : ℕ) → i ≤ j → j < length g.labels
      → entry (plus g.matrix (table (value x) (keys_of g))) i j ≡ entry g.matrix i j +ℤ value x (get_or (keys_of g) i 0) (get_or (keys_of g) j 0)
  entry_add i j p q =
      let t : tri j + j + 1 ≤ tri (length g.labels) = tri_within j (length g.labels) q in
      let n : length g.matrix ≡ tri (length g.labels) = fg.matrix_long in
      get_d_plus g.matrix (table (value x) (keys_of g)) (tri j + i) (omega arith)
      ∙ ap (λ z. entry g.matrix i j +ℤ z) (table_at (value x) (keys_of g) i j p (subst (λ m. j < m) (sym (keys_long g)) q))

  pub add_value : (k l : ℕ) → value (add_into g x) k l ≡ value g k l +ℤ value x k l
  unfolding add_into keys_of
  add_value k l =
      by_cases (less l k)
      (λ e. let h : l < k = less_true l k e in value_below (add_into g x) k l add_formed h ∙ nothing (value_below g k l fg h) (value_below x k l fx h))
      (λ e. by_cases (has k (keys_of g))
      (λ a. by_cases (has l (keys_of g)) (λ b. there a b (less_false l k e))
      (λ b. value_no_column (add_into g x) k l b ∙ nothing (value_no_column g k l b) (value_no_column x k l (sub l b))))
      (λ a. value_no_row (add_into g x) k l a ∙ nothing (value_no_row g k l a) (value_no_row x k l (sub k a))))
    where
      there : has k (keys_of g) ≡ true → has l (keys_of g) ≡ true → k ≤ l → value (add_into g x) k l ≡ value g k l +ℤ value x k l
      there a b h =
          value_there (add_into g x) k l add_formed a b h
          ∙ entry_add (seat (keys_of g) k) (seat (keys_of g) l) (seats_order (keys_of g) fg.ascend k l a b h) (within g l b)
          ∙ ap₂ (λ u v. u +ℤ v) (sym (value_there g k l fg a b h)) (ap₂ (value x) (seated (keys_of g) k a).is (seated (keys_of g) l b).is)

  pub add_side : (k : ℕ) → side (add_into g x) k ≡ side g k +ℤ side x k
  unfolding add_into keys_of side
  add_side k =
      by_cases (has k (keys_of g)) there
      (λ a. side_none (add_into g x) add_formed k a ∙ nothing (side_none g fg k a) (side_none x fx k (sub k a)))
    where
      there : has k (keys_of g) ≡ true → side (add_into g x) k ≡ side g k +ℤ side x k
      there a =
          let i : seat (keys_of g) k < length g.labels = within g k a in
          let n : length g.rights ≡ length g.labels = fg.rights_long in
          let m : length (keys_of g) ≡ length g.labels = keys_long g in
          get_d_plus g.rights (map (side x) (keys_of g)) (seat (keys_of g) k) (omega arith)
          ∙ ap (λ z. get_or g.rights (seat (keys_of g) k) (pos 0) +ℤ z)
          (map_at (side x) (pos 0) (keys_of g) (seat (keys_of g) k) (omega arith) ∙ ap (side x) (seated (keys_of g) k a).is)

-- ---- adding: what is added is the system on the other's labels, so a system that has at any two labels what another has adds the same
pub add_alike : (g x y : System) → x.accepted ≡ y.accepted → x.square ≡ y.square → ((k l : ℕ) → value x k l ≡ value y k l)
    → ((k : ℕ) → side x k ≡ side y k) → add_into g x ≡ add_into g y
unfolding add_into
add_alike g x y n q v w =
    same_system refl refl
    (ap (plus g.matrix) (table_alike (value x) (value y) (keys_of g) (λ k l a b. v k l)))
    (ap (plus g.rights) (map_alike (side x) (side y) (keys_of g) (λ k h. w k)))
    (ap (λ m. g.accepted + m) n)
    (ap (λ m. g.square + m) q)

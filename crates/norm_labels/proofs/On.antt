-- A system on other labels: what it has there, that it is itself on its own, and that two that agree on some labels are one on these.
-- Assumes nothing.
use mathlib.Core.Path.{◌≡◌, refl, sym, ap, ap₂, ◌∙◌, subst}
use mathlib.Core.List.{List, map}
use mathlib.Core.Bool.{true, false}
use Prim.Native.Nat.{ℕ, ◌≤◌, ◌<◌}
use lib.IntN.{pos}
use lib.ListN.{length, get_or, length-map}
use lib.Seq.{ext_get_or}
use Rattle.num_whole.specs.Tests.{less}
use Rattle.num_whole.proofs.Cases.{less_true, less_false, by_cases}
use Rattle.num_packed.specs.Triangle.{tri}
use Rattle.num_packed.specs.Sound.{entry}
use Rattle.norm_system.specs.System.{System, has, key_of}
use Rattle.norm_system.specs.declared.NormalLabel.{NormalLabel}
use Rattle.norm_system.proofs.Sound.{entry_of}
use Rattle.norm_labels.specs.Seats.{ascending, seat}
use Rattle.norm_labels.proofs.Seats.{seated, seats_order}
use Rattle.norm_labels.proofs.Tables.{length_table, table_at, table_alike}
use Rattle.norm_labels.specs.Labels.{keys_of, value, side, table, on_labels}
use Rattle.norm_labels.proofs.Values.{Formed, keys_long, map_at, value_there, value_no_row, value_no_column, value_below, side_none, map_alike, same_system}
use Rattle.norm_labels.proofs.Soundness.{inside, value_at, side_at}

-- ---- a system on some labels
module _ (labels : List NormalLabel) (x : System) where
  abbrev keys : List ℕ
  keys = map key_of labels

  pub on_keys : keys_of (on_labels labels x) ≡ keys
  unfolding on_labels keys_of
  on_keys = refl

  pub on_labels_lem : (on_labels labels x).labels ≡ labels
  unfolding on_labels
  on_labels_lem = refl

  pub on_formed : ascending keys ≡ true → Formed (on_labels labels x)
  unfolding on_labels keys_of
  on_formed up =
      record {
        ascend = up;
        matrix_long = length_table (value x) keys ∙ ap tri (length-map labels key_of);
        rights_long = length-map keys (side x) ∙ length-map labels key_of;
      }

  -- at labels that it is on
  pub on_value : ascending keys ≡ true → (k l : ℕ) → has k keys ≡ true → has l keys ≡ true → k ≤ l → value (on_labels labels x) k l ≡ value x k l
  unfolding on_labels keys_of
  on_value up k l p q h =
      value_there (on_labels labels x) k l (on_formed up) p q h
      ∙ table_at (value x) keys (seat keys k) (seat keys l) (seats_order keys up k l p q h) (seated keys l q).inside
      ∙ ap₂ (value x) (seated keys k p).is (seated keys l q).is

  pub on_side : (k : ℕ) → has k keys ≡ true → side (on_labels labels x) k ≡ side x k
  unfolding on_labels keys_of side
  on_side k p = map_at (side x) (pos 0) keys (seat keys k) (seated keys k p).inside ∙ ap (side x) (seated keys k p).is

  -- at labels that it is not on
  pub on_no_row : (k l : ℕ) → has k keys ≡ false → value (on_labels labels x) k l ≡ pos 0
  on_no_row k l h = value_no_row (on_labels labels x) k l (ap (has k) on_keys ∙ h)

  pub on_no_column : (k l : ℕ) → has l keys ≡ false → value (on_labels labels x) k l ≡ pos 0
  on_no_column k l h = value_no_column (on_labels labels x) k l (ap (has l) on_keys ∙ h)

  -- ---- on labels that are all of its own and more, it has at any two what it had
  module _ (f : Formed x) (up : ascending keys ≡ true) (sub : (k : ℕ) → has k keys ≡ false → has k (keys_of x) ≡ false) where
    pub value_spread : (k l : ℕ) → value (on_labels labels x) k l ≡ value x k l
    value_spread k l =
        by_cases (less l k)
        (λ e. let h : l < k = less_true l k e in value_below (on_labels labels x) k l (on_formed up) h ∙ sym (value_below x k l f h))
        (λ e. by_cases (has k keys)
        (λ a. by_cases (has l keys) (λ b. on_value up k l a b (less_false l k e))
        (λ b. on_no_column k l b ∙ sym (value_no_column x k l (sub l b))))
        (λ a. on_no_row k l a ∙ sym (value_no_row x k l (sub k a))))

    pub side_spread : (k : ℕ) → side (on_labels labels x) k ≡ side x k
    side_spread k =
        by_cases (has k keys) (on_side k)
        (λ a. side_none (on_labels labels x) (on_formed up) k (ap (has k) on_keys ∙ a) ∙ sym (side_none x f k (sub k a)))

-- ---- two systems that agree on some labels are one on these
pub on_alike : (labels : List NormalLabel) (x y : System) → x.arcs ≡ y.arcs → x.accepted ≡ y.accepted → x.square ≡ y.square
    → ((k l : ℕ) → has k (map key_of labels) ≡ true → has l (map key_of labels) ≡ true → value x k l ≡ value y k l)
    → ((k : ℕ) → has k (map key_of labels) ≡ true → side x k ≡ side y k)
    → on_labels labels x ≡ on_labels labels y
unfolding on_labels
on_alike labels x y a n q v w =
    same_system a refl (table_alike (value x) (value y) (map key_of labels) v) (map_alike (side x) (side y) (map key_of labels) w) n q

-- ---- a system on its own labels is itself
module _ (x : System) (f : Formed x) where
  matrix_own : table (value x) (keys_of x) ≡ x.matrix
  matrix_own =
      let long : length (table (value x) (keys_of x)) ≡ tri (length x.labels) = length_table (value x) (keys_of x) ∙ ap tri (keys_long x) in
      ext_get_or (pos 0) (table (value x) (keys_of x)) x.matrix (long ∙ sym f.matrix_long)
      (λ n h. at n (subst (λ m. n < m) long h))
    where
      at : (n : ℕ) → n < tri (length x.labels) → get_or (table (value x) (keys_of x)) n (pos 0) ≡ get_or x.matrix n (pos 0)
      at n h =
          let e = entry_of (length x.labels) n h in
          let there : entry (table (value x) (keys_of x)) e.row e.column ≡ entry x.matrix e.row e.column =
          table_at (value x) (keys_of x) e.row e.column e.upper (inside x f e.column e.inside) ∙ value_at x f e.row e.column e.upper e.inside in
          ap (λ m. get_or (table (value x) (keys_of x)) m (pos 0)) e.place ∙ there ∙ ap (λ m. get_or x.matrix m (pos 0)) (sym e.place)

  rights_own : map (side x) (keys_of x) ≡ x.rights
  rights_own =
      let long : length (map (side x) (keys_of x)) ≡ length x.labels = length-map (keys_of x) (side x) ∙ keys_long x in
      ext_get_or (pos 0) (map (side x) (keys_of x)) x.rights (long ∙ sym f.rights_long)
      (λ i h. map_at (side x) (pos 0) (keys_of x) i (subst (λ m. i < m) (length-map (keys_of x) (side x)) h) ∙ side_at x f i (subst (λ m. i < m) long h))

  pub on_own : on_labels x.labels x ≡ x
  unfolding on_labels keys_of
  on_own = same_system refl refl matrix_own rights_own refl refl

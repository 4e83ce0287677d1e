-- What a system has at a label and at two: where the label stands, and nothing where it does not.
-- Assumes nothing.
use mathlib.Core.Path.{◌≡◌, refl, sym, ap₂, ◌∙◌, subst}
use mathlib.Core.List.{List, [], ◌∷◌, map}
use mathlib.Core.Bool.{true, false}
use Prim.Native.Nat.{ℕ, zero, suc, ◌≤◌, ◌<◌}
use native.Mathlib.Nat.{not-suc-le-zero, le_of_suc-le-suc}
use native.Mathlib.Omega.{arith}
use lib.IntN.{ℤ, pos}
use lib.ListN.{length, get_or, length-map, get_or-map, get_or-eq_default}
use Rattle.num_whole.specs.Tests.{less, same}
use Rattle.num_whole.specs.Lists.{ascend}
use Rattle.num_whole.proofs.Cases.{yes, no, is_less, not_less, is_up_to, not_up_to, less_true, less_false, by_cases}
use Rattle.num_packed.specs.Triangle.{tri}
use Rattle.num_packed.specs.Sound.{entry}
use Rattle.norm_system.specs.System.{System, has, key_of}
use Rattle.norm_system.proofs.Sound.{SoundSystem}
use Rattle.norm_labels.specs.Seats.{ascending, seat}
use Rattle.norm_labels.proofs.Ascending.{asc_of, asc_to, has_head, either_second}
use Rattle.norm_labels.proofs.Seats.{seated, unseated, seats_rise, seats_order}
use Rattle.norm_labels.specs.Table.{sum_at}
use Rattle.norm_labels.specs.Labels.{keys_of, no_normal_label, label_by_key, value, side}

-- ---- two systems with the same parts
pub same_system : {x y : System} → x.arcs ≡ y.arcs → x.labels ≡ y.labels → x.matrix ≡ y.matrix → x.rights ≡ y.rights → x.accepted ≡ y.accepted
    → x.square ≡ y.square → x ≡ y
same_system a l m r n q = λ i. record { arcs = a i; labels = l i; matrix = m i; rights = r i; accepted = n i; square = q i }

-- ---- the shape of a system: its keys ascend, and it has as many sums as its labels ask for
pub record Formed (x : System) : Type 0 where
  pub ascend : ascending (keys_of x) ≡ true
  pub matrix_long : length x.matrix ≡ tri (length x.labels)
  pub rights_long : length x.rights ≡ length x.labels

pub keys_ascend : (x : System) → ascend key_of 0 x.labels ≡ true → ascending (keys_of x) ≡ true
unfolding keys_of
keys_ascend x e = asc_to (map key_of x.labels) (asc_of key_of 0 x.labels e)

pub arcs_in_order : {x : System} → SoundSystem x → ascending x.arcs ≡ true
unfolding ascending
arcs_in_order p = p.arcs_up

pub formed : (x : System) → SoundSystem x → Formed x
formed x p = record { ascend = keys_ascend x p.labels_up; matrix_long = p.matrix; rights_long = p.rights }

pub keys_long : (x : System) → length (keys_of x) ≡ length x.labels
unfolding keys_of
keys_long x = length-map x.labels key_of

-- what stands at a place of a list that is made entry by entry
pub map_at : {A : Type 0} (f : ℕ → A) (d : A) (u : List ℕ) (i : ℕ) → i < length u → get_or (map f u) i d ≡ f (get_or u i 0)
map_at f d [] i h = absurd (not-suc-le-zero h)
map_at f d (x ∷ u) zero h = refl
map_at f d (x ∷ u) (suc i) h = map_at f d u i (le_of_suc-le-suc h)

-- functions that agree on the numbers of a list
pub map_alike : {A : Type 0} (f g : ℕ → A) (u : List ℕ) → ((k : ℕ) → has k u ≡ true → f k ≡ g k) → map f u ≡ map g u
unfolding has
map_alike f g [] e = refl
map_alike f g (x ∷ u) e =
    ap₂ (λ a l. a ∷ l) (e x (has_head x u)) (map_alike f g u (λ k h. e k (either_second (same x k) h)))

-- ---- where a sum stands
module _ (m : List ℤ) (n i j : ℕ) where
  pub sum_there : i ≤ j → j < n → sum_at m n i j ≡ entry m i j
  unfolding sum_at
  sum_there p q = sym (yes _ _ _ (is_less j n q) (yes _ _ _ (is_up_to i j p) refl))

  pub sum_below : j < i → sum_at m n i j ≡ pos 0
  unfolding sum_at
  sum_below p = by_cases (less j n) (λ e. sym (yes _ _ _ e (no _ _ _ (not_up_to i j p) refl))) (λ e. sym (no _ _ _ e refl))

  pub sum_past : n ≤ j → sum_at m n i j ≡ pos 0
  unfolding sum_at
  sum_past p = sym (no _ _ _ (not_less j n p) refl)

-- ---- at labels
module _ (x : System) where
  pub within : (k : ℕ) → has k (keys_of x) ≡ true → seat (keys_of x) k < length x.labels
  within k h = subst (λ n. seat (keys_of x) k < n) (keys_long x) (seated (keys_of x) k h).inside

  past : (k : ℕ) → has k (keys_of x) ≡ false → seat (keys_of x) k ≡ length x.labels
  past k h = unseated (keys_of x) k h ∙ keys_long x

  pub label_key_lem : (k : ℕ) → has k (keys_of x) ≡ true → key_of (label_by_key x k) ≡ k
  unfolding label_by_key key_of keys_of
  label_key_lem k h =
      sym (get_or-map key_of x.labels (seat (map key_of x.labels) k) no_normal_label) ∙ (seated (map key_of x.labels) k h).is

  module _ (k l : ℕ) where
    pub value_there : Formed x → has k (keys_of x) ≡ true → has l (keys_of x) ≡ true → k ≤ l
        → value x k l ≡ entry x.matrix (seat (keys_of x) k) (seat (keys_of x) l)
    unfolding value
    value_there f hk hl h =
        sum_there x.matrix (length x.labels) (seat (keys_of x) k) (seat (keys_of x) l)
        (seats_order (keys_of x) f.ascend k l hk hl h) (within l hl)

    pub value_no_column : has l (keys_of x) ≡ false → value x k l ≡ pos 0
    unfolding value
    value_no_column h =
        let e : seat (keys_of x) l ≡ length x.labels = past l h in
        sum_past x.matrix (length x.labels) (seat (keys_of x) k) (seat (keys_of x) l) (omega arith)

    pub value_no_row : has k (keys_of x) ≡ false → value x k l ≡ pos 0
    unfolding value
    value_no_row h = by_cases (has l (keys_of x)) (λ e. low (past k h) (within l e)) (λ e. value_no_column e)
      where
        low : seat (keys_of x) k ≡ length x.labels → seat (keys_of x) l < length x.labels → value x k l ≡ pos 0
        low e g = sum_below x.matrix (length x.labels) (seat (keys_of x) k) (seat (keys_of x) l) (omega arith)

    pub value_below : Formed x → l < k → value x k l ≡ pos 0
    unfolding value
    value_below f h =
        by_cases (has k (keys_of x))
        (λ a. by_cases (has l (keys_of x))
        (λ b. sum_below x.matrix (length x.labels) (seat (keys_of x) k) (seat (keys_of x) l) (seats_rise (keys_of x) f.ascend l k b a h))
        (λ b. value_no_column b))
        (λ a. value_no_row a)

  pub side_none : Formed x → (k : ℕ) → has k (keys_of x) ≡ false → side x k ≡ pos 0
  unfolding side
  side_none f k h =
      let e : seat (keys_of x) k ≡ length x.labels = past k h in
      let n : length x.rights ≡ length x.labels = f.rights_long in
      get_or-eq_default x.rights (pos 0) (omega arith)

-- a value is 0, or the sum where its two labels stand
pub by_labels : (x : System) → Formed x → (P : ℤ → Type 0) (k l : ℕ) → P (pos 0)
    → (has k (keys_of x) ≡ true → has l (keys_of x) ≡ true → k ≤ l → P (value x k l)) → P (value x k l)
by_labels x f P k l z there =
    by_cases (less l k)
    (λ e. zero_of (value_below x k l f (less_true l k e)))
    (λ e. by_cases (has k (keys_of x))
    (λ a. by_cases (has l (keys_of x)) (λ b. there a b (less_false l k e)) (λ b. zero_of (value_no_column x k l b)))
    (λ a. zero_of (value_no_row x k l a)))
  where
    zero_of : value x k l ≡ pos 0 → P (value x k l)
    zero_of e = subst P (sym e) z

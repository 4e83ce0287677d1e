-- The sums as the code finds them are those of what the file holds: a stored label's place among the stored ones is the number of those before it.
-- Assumes nothing.
use Prim.Native.Nat.{ℕ, zero, suc, ◌+◌, ◌-◌, ◌*◌, ◌≤◌, ◌<◌}
use mathlib.Core.Path.{◌≡◌, refl, sym, ap, ap₂, ◌∙◌, subst}
use mathlib.Core.List.{List, [], ◌∷◌, map}
use mathlib.Core.Bool.{Bool, true, false}
use native.Mathlib.Omega.{arith}
use native.Mathlib.Nat.{not-suc-le-zero, le_of_suc-le-suc, le_refl, add-zero}
use lib.IntN.{pos}
use lib.ListN.{length, get_or, take, length-map, get_or-eq_default}
use mir.Syntax.{w64}
use Rattle.num_whole.specs.Tests.{same, pick}
use Rattle.num_whole.proofs.Cases.{yes, no, by_cases}
use Rattle.byte_words.specs.Words.{signed_word}
use Rattle.byte_words.specs.Stands.{stands}
use Rattle.byte_words.proofs.Stands.{length_stands, stands_at}
use Rattle.num_packed.specs.Triangle.{tri}
use Rattle.num_packed.proofs.Places.{tri_within}
use Rattle.norm_system.specs.System.{System, key_of}
use Rattle.norm_labels.specs.Seats.{seat}
use Rattle.norm_labels.specs.Table.{rows_of, columns_of, sum_at}
use Rattle.norm_labels.specs.Labels.{keys_of, value, side, table, on_labels}
use Rattle.norm_labels.proofs.Ascending.{Asc}
use Rattle.norm_labels.proofs.Seats.{seat_first, seat_later, seat_below}
use Rattle.norm_labels.proofs.Values.{sum_there, sum_below, sum_past}
use Rattle.norm_labels.proofs.Tables.{rows_alike, columns_alike, rows_map}
use Rattle.norm_kinds.specs.Kinds.{Fielded, labels_in, fielded_key, fielded_at, stored_of}
use Rattle.norm_kinds.proofs.Stored.{stored_off, stored_on}
use Rattle.norm_read.proofs.Stored.{all_keys, stored_keys, stored_asc}
use Rattle.norm_spread.specs.Spread.{stored_before, unless_two, field_at, spread_row_at, spread_column_at}
use Rattle.norm_spread.proofs.Rows.{before_next}

-- ---- the place of a label among the stored ones
asc_at : (floor : ℕ) (l : List ℕ) → Asc floor l → (i : ℕ) → i < length l → floor ≤ get_or l i 0
asc_at floor [] p i h = absurd (not-suc-le-zero h)
asc_at floor (x ∷ l) p zero h = p.0
asc_at floor (x ∷ l) p (suc i) h = let rest = asc_at (suc x) l p.1 i (le_of_suc-le-suc h) in omega (arith, p.0, rest)

pick_suc : (b : Bool) (x y : ℕ) → suc (pick b x y) ≡ pick b (suc x) (suc y)
unfolding pick
pick_suc true x y = refl
pick_suc false x y = refl

abbrev place_of : Fielded → List Fielded → ℕ → ℕ
place_of d l i = pick (same (get_or l i d).field 2) (length (stored_of l)) (length (stored_of (take i l)))

seat_place : (d : Fielded) (floor : ℕ) (l : List Fielded) → Asc floor (all_keys l) → (i : ℕ) → i < length l
    → seat (stored_keys l) (get_or (all_keys l) i 0) ≡ place_of d l i
unfolding stored_of
seat_place d floor [] up i h = absurd (not-suc-le-zero h)
seat_place d floor (m ∷ l) up zero h =
    by_cases (same m.field 2)
    (λ e. ap (λ z. seat (map key_of z) (fielded_key m)) (stored_off m l e)
    ∙ seat_below (fielded_key m) (stored_keys l) (stored_asc (suc (fielded_key m)) l up.1)
    ∙ length-map (stored_of l) key_of
    ∙ ap length (sym (stored_off m l e))
    ∙ yes _ _ _ e refl)
    (λ e. ap (λ z. seat (map key_of z) (fielded_key m)) (stored_on m l e)
    ∙ seat_first (fielded_key m) (fielded_key m) (stored_keys l) refl
    ∙ no _ _ _ e refl)
seat_place d floor (m ∷ l) up (suc i) h =
    let inside : i < length (all_keys l) = subst (λ n. i < n) (sym (length-map (labels_in l) key_of ∙ length-map l (λ m. m.label))) (le_of_suc-le-suc h) in
    let k = get_or (all_keys l) i 0 in
    let above : suc (fielded_key m) ≤ k = asc_at (suc (fielded_key m)) (all_keys l) up.1 i inside in
    let rest = seat_place d (suc (fielded_key m)) l up.1 i (le_of_suc-le-suc h) in
    let b = same (get_or l i d).field 2 in
    by_cases (same m.field 2)
    (λ e. ap (λ z. seat (map key_of z) k) (stored_off m l e)
    ∙ rest
    ∙ ap₂ (λ x y. pick b (length x) (length y)) (sym (stored_off m l e)) (sym (stored_off m (take i l) e)))
    (λ e. ap (λ z. seat (map key_of z) k) (stored_on m l e)
    ∙ seat_later (fielded_key m) k (stored_keys l) (λ z. apart_by_lem z above)
    ∙ ap suc rest
    ∙ pick_suc b _ _
    ∙ ap₂ (λ x y. pick b (length x) (length y)) (sym (stored_on m l e)) (sym (stored_on m (take i l) e)))
  where
    apart_by_lem : {n : ℕ} → fielded_key m ≡ n → suc (fielded_key m) ≤ n → ⊥
    apart_by_lem z g = omega arith

-- ---- the same by the places of the file
take_stands : {A : Type 0} (f : ℕ → A) (size p i at : ℕ) → i ≤ p → take i (stands f size p at) ≡ stands f size i at
unfolding stands
take_stands f size p zero at h = refl
take_stands f size zero (suc i) at h = absurd (not-suc-le-zero h)
take_stands f size (suc p) (suc i) at h = ap (λ l. f at ∷ l) (take_stands f size p i (at + size) (le_of_suc-le-suc h))

module _ (s : List ℕ) (labels : ℕ) where
  before_far : (i d : ℕ) → stored_before s labels i ≤ stored_before s labels (i + d)
  before_far i zero = subst (λ n. stored_before s labels i ≤ stored_before s labels n) (sym (add-zero i)) (le_refl _)
  before_far i (suc d) =
      let next : i + d + 1 ≡ i + suc d = omega arith in
      let up : stored_before s labels (i + d + 1) ≡ stored_before s labels (i + suc d) = ap (stored_before s labels) next in
      omega (arith, before_far i d, before_next s labels (i + d), up)

  before_more : (i j : ℕ) → i ≤ j → stored_before s labels i ≤ stored_before s labels j
  before_more i j h =
      let there : i + (j - i) ≡ j = omega arith in
      subst (λ n. stored_before s labels i ≤ stored_before s labels n) there (before_far i (j - i))

  -- a stored label is one of those
  before_in : (p j : ℕ) → j < p → same (field_at s labels j) 2 ≡ false → stored_before s labels j < stored_before s labels p
  before_in p j h e =
      let one : ◌≡◌ {A = ℕ} 1 (pick (same (field_at s labels j) 2) 0 1) = no _ _ _ e refl in
      omega (arith, one, before_next s labels j, before_more (j + 1) p (omega arith))

module _ (s : List ℕ) (labels p : ℕ) (up : Asc 0 (all_keys (stands (fielded_at s) 24 p labels))) (x : System) (is : x.labels ≡ stored_of (stands (fielded_at s) 24 p labels)) where
  abbrev l : List Fielded
  l = stands (fielded_at s) 24 p labels

  abbrev n : ℕ
  n = stored_before s labels p

  long_keys : length (all_keys l) ≡ p
  long_keys = length-map (labels_in l) key_of ∙ length-map l (λ m. m.label) ∙ length_stands (fielded_at s) 24 p labels

  abbrev key : ℕ → ℕ
  key i = get_or (all_keys l) i 0

  keys_are : keys_of x ≡ stored_keys l
  unfolding keys_of
  keys_are = ap (map key_of) is

  many : length x.labels ≡ n
  unfolding stored_before
  many = ap length is

  seat_is : (i : ℕ) → i < p → seat (keys_of x) (key i) ≡ pick (same (field_at s labels i) 2) n (stored_before s labels i)
  unfolding stored_before fielded_at
  seat_is i h =
      let d = fielded_at s labels in
      ap (λ u. seat u (key i)) keys_are
      ∙ seat_place d 0 l up i (subst (λ m. i < m) (sym (length_stands (fielded_at s) 24 p labels)) h)
      ∙ ap₂ (λ b r. pick (same b 2) n r) (ap (λ m. m.field) (stands_at (fielded_at s) 24 p labels i d h))
      (ap (λ z. length (stored_of z)) (take_stands (fielded_at s) 24 p i labels (omega arith)))

  -- ---- matrix sums
  module _ (start : ℕ) (sums : x.matrix ≡ stands (signed_word w64 s) 8 (tri n) start) (i j : ℕ) (h : i ≤ j) (g : j < p) where
    abbrev ri : ℕ
    ri = stored_before s labels i

    abbrev rj : ℕ
    rj = stored_before s labels j

    there : rj < n → ri ≤ rj → sum_at x.matrix n ri rj ≡ signed_word w64 s (start + 8 * tri rj + 8 * ri)
    there b a =
        sum_there x.matrix n ri rj a b
        ∙ ap (λ m. get_or m (tri rj + ri) (pos 0)) sums
        ∙ stands_at (signed_word w64 s) 8 (tri n) start (tri rj + ri) (pos 0) (omega (arith, tri_within rj n b, a))
        ∙ ap (signed_word w64 s) (omega arith)

    pub value_is : value x (key i) (key j) ≡ spread_column_at s labels start i j
    unfolding value spread_column_at spread_row_at unless_two
    value_is =
        let seat-i = seat_is i (omega arith) in
        let seat-j = seat_is j g in
        ap (λ m. sum_at x.matrix m (seat (keys_of x) (key i)) (seat (keys_of x) (key j))) many
        ∙ ap₂ (sum_at x.matrix n) seat-i seat-j
        ∙ by_cases (same (field_at s labels j) 2)
        (λ e. ap (sum_at x.matrix n _) (sym (yes _ n rj e refl)) ∙ sum_past x.matrix n _ n (le_refl n) ∙ yes _ _ _ e refl)
        (λ e. let b : rj < n = before_in s labels p j g e in
        ap (sum_at x.matrix n _) (sym (no _ n rj e refl))
        ∙ by_cases (same (field_at s labels i) 2)
        (λ f. ap (λ k. sum_at x.matrix n k rj) (sym (yes _ n ri f refl)) ∙ sum_below x.matrix n n rj b ∙ no _ _ _ e (yes _ _ _ f refl))
        (λ f. ap (λ k. sum_at x.matrix n k rj) (sym (no _ n ri f refl)) ∙ there b (before_more s labels i j h) ∙ no _ _ _ e (no _ _ _ f refl)))

  pub matrix_is : (start : ℕ) → x.matrix ≡ stands (signed_word w64 s) 8 (tri n) start → columns_of (spread_column_at s labels start) 0 p ≡ (on_labels (labels_in l) x).matrix
  unfolding on_labels table
  matrix_is start sums =
      sym (ap (columns_of (λ i j. value x (key i) (key j)) 0) long_keys
      ∙ columns_alike (λ i j. value x (key i) (key j)) (spread_column_at s labels start) p 0 (λ i j h g. value_is start sums i j h (omega arith)))

  -- ---- right sides
  module _ (start : ℕ) (sums : x.rights ≡ stands (signed_word w64 s) 8 n start) where
    side_is : (i : ℕ) → i < p → side x (key i) ≡ spread_row_at s labels start i
    unfolding side spread_row_at unless_two
    side_is i h =
        ap (λ k. get_or x.rights k (pos 0)) (seat_is i h)
        ∙ by_cases (same (field_at s labels i) 2)
        (λ e. ap (λ k. get_or x.rights k (pos 0)) (sym (yes _ n (stored_before s labels i) e refl)) ∙ past ∙ yes _ _ _ e refl)
        (λ e. ap (λ k. get_or x.rights k (pos 0)) (sym (no _ n (stored_before s labels i) e refl))
        ∙ ap (λ m. get_or m (stored_before s labels i) (pos 0)) sums
        ∙ stands_at (signed_word w64 s) 8 n start (stored_before s labels i) (pos 0) (before_in s labels p i h e)
        ∙ no _ _ _ e refl)
      where
        past : get_or x.rights n (pos 0) ≡ pos 0
        past = get_or-eq_default x.rights (pos 0) (subst (λ m. m ≤ n) (sym (ap length sums ∙ length_stands (signed_word w64 s) 8 n start)) (le_refl n))

    pub rights_is : rows_of (spread_row_at s labels start) 0 p ≡ (on_labels (labels_in l) x).rights
    unfolding on_labels
    rights_is =
        sym (sym (rows_map (side x) (all_keys l)) ∙ ap (rows_of (λ i. side x (key i)) 0) long_keys
        ∙ rows_alike (λ i. side x (key i)) (spread_row_at s labels start) p 0 (λ i g. side_is i (omega arith)))

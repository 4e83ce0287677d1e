-- What the code adds of two files, by the places of the labels whose sums they store, is the merged system by labels: its matrix sums and right
-- sides, whatever the forms of the two. The places that it finds are those of the labels stored, and the sums of two sound systems may be added.
-- Assumes nothing.
use mathlib.Core.Path.{◌≡◌, refl, sym, ap, ap₂, ◌∙◌, subst}
use mathlib.Core.List.{List}
use mathlib.Core.Bool.{Bool, true}
use Prim.Native.Nat.{ℕ, ◌+◌, ◌*◌, ◌≤◌, ◌<◌}
use native.Mathlib.Nat.{le_trans}
use native.Mathlib.Omega.{arith}
use lib.IntN.{pos, ◌+ℤ◌, nat_abs}
use lib.ListN.{length, get_or, length-map}
use mir.Syntax.{w64}
use Rattle.num_whole.specs.Tests.{less}
use Rattle.num_whole.proofs.Cases.{at_once, holds, fails, less_true, by_cases}
use Rattle.byte_words.specs.Words.{signed_word}
use Rattle.byte_words.proofs.Stands.{stands_at}
use Rattle.num_packed.specs.Triangle.{tri}
use Rattle.norm_system.specs.System.{System, has, file_matrix_unit, file_right_unit}
use Rattle.norm_system.proofs.Sound.{bound_most, entry_of, SoundSystem}
use Rattle.norm_labels.specs.Seats.{ascending, seat, seats}
use Rattle.norm_labels.specs.Table.{rows_of, columns_of, sum_at}
use Rattle.norm_labels.specs.Labels.{keys_of, value, side, table}
use Rattle.norm_labels.proofs.Ascending.{either_second, determined}
use Rattle.norm_labels.proofs.Tables.{rows_alike, rows_map, columns_alike}
use Rattle.norm_labels.proofs.Values.{formed, keys_long}
use Rattle.norm_labels.proofs.Soundness.{judged}
use Rattle.norm_labels.proofs.Places.{places_ascend, places_inside, place_through, places_have}
use Rattle.norm_sum.specs.Sums.{sums_at}
use Rattle.norm_add.specs.Add.{held_at, column_at, on_place, on_places, SmallSums}
use Rattle.norm_add.specs.declared.Column.{Column}
use Rattle.norm_add.proofs.Held.{held_sum, column_sum}
use Rattle.merge_join.specs.Join.{union, SeatedAt}
use Rattle.merge_join.proofs.Union.{union_ascends, has_union}
use Rattle.merge_locate.specs.Locate.{stored_at, stored_for, numbers_where}
use Rattle.merge_locate.proofs.Numbers.{numbers_ascend, numbers_are}
use Rattle.merge_sums.specs.Both.{both_places, both_sides, AddableBoth}
use Rattle.merge_laws.specs.Merge.{merged_of}
use Rattle.merge_laws.proofs.Merged.{merged_matrix, merged_rights}
use Rattle.merge_laws.proofs.Stored.{StoresIn, stored_held}

-- right sides as they stand one after the other
abbrev pub sides_at : ℕ → System → Column
sides_at rights z = record { base = rights; rows = length z.labels }

-- ---- one file that holds x and stores z, and numbers in order that have the keys of the labels stored
module _ (s : List ℕ) (labels matrix rights : ℕ) (x z : System) (st : StoresIn s labels matrix rights x z) (u : List ℕ) (up : ascending u ≡ true)
    (sub : (k : ℕ) → has k (keys_of z) ≡ true → has k u ≡ true) where
  -- the place of each label stored
  abbrev t : List ℕ
  t = seats u (keys_of z)

  pub t_long : length t ≡ length z.labels
  unfolding seats
  t_long = length-map (keys_of z) (seat u) ∙ keys_long z

  pub t_ascends : ascending t ≡ true
  t_ascends = places_ascend u up (keys_of z) sub st.formed.ascend

  pub t_inside : (i : ℕ) → i < length z.labels → get_or t i 0 < length u
  t_inside i h = places_inside u up (keys_of z) sub i (subst (λ n. i < n) (sym (keys_long z)) h)

  -- what the code finds, by the places of the numbers among all its labels, and their fields
  pub located : (left : List ℕ) → SeatedAt (keys_of x) u left → numbers_where (stored_for s labels (length x.labels) left) 0 (length u) ≡ t
  unfolding stored_for
  located left placed =
      determined (numbers_where f 0 (length u)) t (numbers_ascend f (length u)) t_ascends
      (λ k. numbers_are f (length u) k
      ∙ by_cases (less k (length u))
      (λ e. sym (holds _ _ e refl)
      ∙ ap (stored_at s labels (length x.labels)) (placed k (less_true k (length u) e)) ∙ st.stored_are (get_or u k 0) ∙ holds _ _ e refl)
      (λ e. sym (fails _ _ e) ∙ fails _ _ e)
      ∙ sym (places_have u up (keys_of z) sub k))
    where
      f : ℕ → Bool
      f = stored_for s labels (length x.labels) left

  -- ---- the sums that it adds
  matrix_held : (i j : ℕ) → i < length u → j < length u → on_places s matrix t i j ≡ value x (get_or u i 0) (get_or u j 0)
  unfolding on_places on_place value
  matrix_held i j h k =
      ap (λ n. held_at s (column_at matrix n (seat t j)) (seat t i)) t_long
      ∙ column_sum matrix (length z.labels) (seat t j) s (seat t i)
      ∙ ap₂ (sum_at (sums_at s matrix (tri (length z.labels))) (length z.labels)) (place_through u up (keys_of z) sub i h) (place_through u up (keys_of z) sub j k)
      ∙ ap (λ m. sum_at m (length z.labels) (seat (keys_of z) (get_or u i 0)) (seat (keys_of z) (get_or u j 0))) (sym st.matrix_are)
      ∙ sym (st.values (get_or u i 0) (get_or u j 0))

  rights_held : (i : ℕ) → i < length u → on_place s (sides_at rights z) t i ≡ side x (get_or u i 0)
  unfolding on_place side
  rights_held i h =
      held_sum s rights (length z.labels) (seat t i)
      ∙ ap₂ (λ l n. get_or l n (pos 0)) (sym st.rights_are) (place_through u up (keys_of z) sub i h)
      ∙ sym (st.sides (get_or u i 0))

  -- ---- their size
  matrix_small : SmallSums s matrix (tri (length t)) (length x.arcs * file_matrix_unit)
  matrix_small i g =
      let h : i < tri (length z.labels) = subst (λ n. i < tri n) t_long g in
      let e = entry_of (length z.labels) i h in
      let k = ((judged z st.sums).sums.matrix e.row e.column e.upper e.inside).small in
      let is : get_or z.matrix i (pos 0) ≡ signed_word w64 s (matrix + 8 * i) =
      ap (λ l. get_or l i (pos 0)) st.matrix_are ∙ stands_at (signed_word w64 s) 8 (tri (length z.labels)) matrix i (pos 0) h in
      subst (λ l. nat_abs (signed_word w64 s (matrix + 8 * i)) ≤ length l * file_matrix_unit) st.arcs_are
      (subst (λ v. nat_abs v ≤ length z.arcs * file_matrix_unit) (ap (λ n. get_or z.matrix n (pos 0)) (sym e.place) ∙ is)
      (le_trans k (bound_most (length z.arcs) z.accepted file_matrix_unit)))

  rights_small : SmallSums s rights (length z.labels) (length x.arcs * file_right_unit)
  rights_small i h =
      let k = ((judged z st.sums).sums.rights i h).small in
      let is : get_or z.rights i (pos 0) ≡ signed_word w64 s (rights + 8 * i) =
      ap (λ l. get_or l i (pos 0)) st.rights_are ∙ stands_at (signed_word w64 s) 8 (length z.labels) rights i (pos 0) h in
      subst (λ l. nat_abs (signed_word w64 s (rights + 8 * i)) ≤ length l * file_right_unit) st.arcs_are
      (subst (λ v. nat_abs v ≤ length z.arcs * file_right_unit) is (le_trans k (bound_most (length z.arcs) z.accepted file_right_unit)))

-- ---- two files, at the places of their labels in the union
module _ (a : List ℕ) (la ma ra : ℕ) (x v : System) (p : SoundSystem x) (sa : StoresIn a la ma ra x v) (b : List ℕ) (lb mb rb : ℕ) (y w : System) (q : SoundSystem y)
    (sb : StoresIn b lb mb rb y w) where
  abbrev u : List ℕ
  u = union (keys_of x) (keys_of y)

  pub u_ascends : ascending u ≡ true
  u_ascends = union_ascends (keys_of x) (keys_of y) (formed x p).ascend (formed y q).ascend

  pub first_in : (k : ℕ) → has k (keys_of v) ≡ true → has k u ≡ true
  first_in k h = has_union k (keys_of x) (keys_of y) ∙ sym (at_once _ _ (stored_held sa k h))

  pub second_in : (k : ℕ) → has k (keys_of w) ≡ true → has k u ≡ true
  second_in k h = has_union k (keys_of x) (keys_of y) ∙ either_second (has k (keys_of x)) (stored_held sb k h)

  pub written_matrix : columns_of (both_places a ma (seats u (keys_of v)) b mb (seats u (keys_of w))) 0 (length u) ≡ (merged_of x y).matrix
  unfolding both_places table
  written_matrix =
      columns_alike (both_places a ma (seats u (keys_of v)) b mb (seats u (keys_of w)))
      (λ i j. value x (get_or u i 0) (get_or u j 0) +ℤ value y (get_or u i 0) (get_or u j 0)) (length u) 0
      (λ i j h g. ap₂ (λ m n. m +ℤ n)
      (matrix_held a la ma ra x v sa u u_ascends first_in i j (omega arith) (omega arith))
      (matrix_held b lb mb rb y w sb u u_ascends second_in i j (omega arith) (omega arith)))
      ∙ sym (merged_matrix x y)

  pub written_rights : rows_of (both_sides a (sides_at ra v) (seats u (keys_of v)) b (sides_at rb w) (seats u (keys_of w))) 0 (length u) ≡ (merged_of x y).rights
  unfolding both_sides
  written_rights =
      rows_alike (both_sides a (sides_at ra v) (seats u (keys_of v)) b (sides_at rb w) (seats u (keys_of w))) (λ i. side x (get_or u i 0) +ℤ side y (get_or u i 0)) (length u) 0
      (λ i g. ap₂ (λ m n. m +ℤ n)
      (rights_held a la ma ra x v sa u u_ascends first_in i (omega arith))
      (rights_held b lb mb rb y w sb u u_ascends second_in i (omega arith)))
      ∙ rows_map (λ k. side x k +ℤ side y k) u ∙ sym (merged_rights x y)

  -- ---- sums of sixteen arcs together
  module _ (few : length x.arcs + length y.arcs ≤ 16) where
    pub matrix_addable : AddableBoth a ma (tri (length (seats u (keys_of v)))) b mb (tri (length (seats u (keys_of w))))
    matrix_addable =
        record {
          left_bound = length x.arcs * file_matrix_unit;
          right_bound = length y.arcs * file_matrix_unit;
          left_within = matrix_small a la ma ra x v sa u u_ascends first_in;
          right_within = matrix_small b lb mb rb y w sb u u_ascends second_in;
          fits = omega arith;
        }

    pub rights_addable : AddableBoth a ra (length v.labels) b rb (length w.labels)
    rights_addable =
        record {
          left_bound = length x.arcs * file_right_unit;
          right_bound = length y.arcs * file_right_unit;
          left_within = rights_small a la ma ra x v sa u u_ascends first_in;
          right_within = rights_small b lb mb rb y w sb u u_ascends second_in;
          fits = omega arith;
        }

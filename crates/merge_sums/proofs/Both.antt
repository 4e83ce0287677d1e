-- Cleared room, with the sums of one file and then of another added: the sums of both; and that they may be added.
-- Assumes nothing.
use mathlib.Core.Path.{◌≡◌, sym, ap, ◌∙◌, subst}
use mathlib.Core.List.{List, ◌∷◌, ◌++◌}
use Prim.Native.Nat.{ℕ, ◌+◌, ◌≤◌, ◌<◌, zero-le}
use native.Mathlib.Numerals.{add-one}
use native.Mathlib.Omega.{arith}
use lib.IntN.{ℤ, pos, ◌+ℤ◌, nat_abs}
use lib.ListN.{length, get_or, take, drop, replicate, length-append, length-drop, drop_of_length-le, get_or-eq_default}
use lib.Seq.{take_at, drop-cons}
use mir.Syntax.{w64}
use Rattle.num_whole.specs.Tests.{less}
use Rattle.num_whole.specs.Sums.{plus, Within}
use Rattle.num_whole.proofs.Cases.{less_true, less_false, by_cases}
use Rattle.byte_words.specs.Words.{lay, signed_bytes}
use Rattle.byte_words.proofs.Words.{lay_append}
use Rattle.byte_section.specs.Section.{encoded}
use Rattle.num_packed.specs.Triangle.{tri}
use Rattle.norm_labels.specs.Seats.{seat}
use Rattle.norm_labels.specs.Table.{rows_of}
use Rattle.norm_labels.proofs.Tables.{length_rows, rows_at, plus_rows, plus_zeros, zeros_at}
use Rattle.norm_add.specs.Add.{column_at, on_place, on_places, Addable}
use Rattle.norm_add.specs.declared.Column.{Column}
use Rattle.norm_add.proofs.Held.{held_small, column_small}
use Rattle.merge_sums.specs.Both.{both_places, both_sides, AddableBoth}
use Rattle.merge_sums.proofs.Writing.{bytes_in, length_sum}

-- ---- n zeros, with what one function gives and then what another gives added
module _ (f : ℕ → ℤ) (n : ℕ) (none one : List ℤ) (z : none ≡ replicate n (pos 0)) (e : one ≡ plus none (rows_of f 0 n)) where
  first_added : one ≡ rows_of f 0 n
  first_added = e ∙ ap (λ l. plus l (rows_of f 0 n)) z ∙ plus_zeros n (rows_of f 0 n) (length_rows f 0 n)

  pub both_added : (g : ℕ → ℤ) (two : List ℤ) → two ≡ plus one (rows_of g 0 n) → two ≡ rows_of (λ i. f i +ℤ g i) 0 n
  both_added g two d = d ∙ ap (λ l. plus l (rows_of g 0 n)) first_added ∙ plus_rows f g 0 n

  pub first_within : (m : ℕ) → ((i : ℕ) → nat_abs (f i) ≤ m) → Within m one
  first_within m h i =
      subst (λ l. nat_abs (get_or l i (pos 0)) ≤ m) (sym first_added)
      (by_cases (less i n)
      (λ t. subst (λ v. nat_abs v ≤ m) (sym (rows_at f 0 n i (less_true i n t))) (h (0 + i)))
      (λ t. let out : n ≤ i = less_false i n t in
      let long : length (rows_of f 0 n) ≡ n = length_rows f 0 n in
      subst (λ v. nat_abs v ≤ m) (sym (get_or-eq_default (rows_of f 0 n) (pos 0) (omega arith))) zero-le))

-- ---- the sums of the first may be added to zeros, and then those of the second
module _ (a : List ℕ) (start n : ℕ) (b : List ℕ) (begin m : ℕ) (f : AddableBoth a start n b begin m) where
  pub first_addable : (none : List ℤ) (k : ℕ) → none ≡ replicate k (pos 0) → Addable a start n none
  first_addable none k e =
      record {
        target_bound = 0;
        sums_bound = f.left_bound;
        target_within = λ i. subst (λ z. nat_abs z ≤ 0) (sym (ap (λ l. get_or l i (pos 0)) e ∙ zeros_at k i)) zero-le;
        sums_within = f.left_within;
        fits = omega (arith, f.fits);
      }

  pub second_addable : (one : List ℤ) → Within f.left_bound one → Addable b begin m one
  second_addable one w =
      record {
        target_bound = f.left_bound;
        sums_bound = f.right_bound;
        target_within = w;
        sums_within = f.right_within;
        fits = f.fits;
      }

-- ---- a column
module _ (a : List ℕ) (start : ℕ) (ta b : List ℕ) (begin : ℕ) (tb : List ℕ) (j n : ℕ) (none one : List ℤ) (e : j + 1 ≡ n) (z : none ≡ replicate n (pos 0))
    (d : one ≡ plus none (rows_of (λ i. on_places a start ta i j) 0 (j + 1))) where
  abbrev zeros : none ≡ replicate (j + 1) (pos 0)
  zeros = z ∙ ap (λ m. replicate m (pos 0)) (sym e)

  pub column_both : (two : List ℤ) → two ≡ plus one (rows_of (λ i. on_places b begin tb i j) 0 (j + 1)) → two ≡ rows_of (λ i. both_places a start ta b begin tb i j) 0 (j + 1)
  unfolding both_places
  column_both = both_added (λ i. on_places a start ta i j) (j + 1) none one zeros d (λ i. on_places b begin tb i j)

  pub column_second : AddableBoth a start (tri (length ta)) b begin (tri (length tb)) → Addable b begin (tri (length tb)) one
  unfolding on_places on_place
  column_second f =
      second_addable a start (tri (length ta)) b begin (tri (length tb)) f one
      (first_within (λ i. on_places a start ta i j) (j + 1) none one zeros d f.left_bound
      (λ i. held_small a (column_at start (length ta) (seat ta j)) (seat ta i) f.left_bound (column_small start (length ta) (seat ta j) a f.left_bound f.left_within)))

-- ---- right sides
module _ (a : List ℕ) (c : Column) (ta b : List ℕ) (d : Column) (tb : List ℕ) (n : ℕ) (none one : List ℤ) (z : none ≡ replicate n (pos 0))
    (e : one ≡ plus none (rows_of (on_place a c ta) 0 n)) where
  pub sides_both : (two : List ℤ) → two ≡ plus one (rows_of (on_place b d tb) 0 n) → two ≡ rows_of (both_sides a c ta b d tb) 0 n
  unfolding both_sides
  sides_both = both_added (on_place a c ta) n none one z e (on_place b d tb)

  pub sides_second : AddableBoth a c.base c.rows b d.base d.rows → Addable b d.base d.rows one
  unfolding on_place
  sides_second f =
      second_addable a c.base c.rows b d.base d.rows f one
      (first_within (on_place a c ta) n none one z e f.left_bound (λ i. held_small a c (seat ta i) f.left_bound f.left_within))

-- ---- sums written one after the other, i of them done
module _ (out : List ℕ) (k : ℕ) (col : List ℤ) (i : ℕ) where
  pub bytes_end : length col ≤ i → lay out k (bytes_in (drop i col)) ≡ out
  unfolding encoded lay
  bytes_end h = rw (drop_of_length-le col h)

  pub bytes_turn : i < length col → lay out k (bytes_in (drop i col)) ≡ lay (lay out k (signed_bytes w64 (get_or col i (pos 0)))) (k + 8) (bytes_in (drop (i + 1) col))
  unfolding encoded
  bytes_turn h =
      let cut : drop i col ≡ get_or col i (pos 0) ∷ drop (i + 1) col = rw add-one (drop-cons col i (pos 0) h) in
      ap (λ l. lay out k (bytes_in l)) cut
      ∙ sym (lay_append out k (k + 8) (signed_bytes w64 (get_or col i (pos 0))) (bytes_in (drop (i + 1) col)) (ap (λ n. k + n) (sym (length_sum (get_or col i (pos 0))))))

-- ---- room with a new front
module _ (ys room : List ℤ) (e : ℕ) (long : length ys ≡ e) where
  pub front_long : e ≤ length room → length (ys ++ drop e room) ≡ length room
  front_long h = length-append ys (drop e room) ∙ ap (λ n. length ys + n) (length-drop e room) ∙ omega arith

  pub front_take : take e (ys ++ drop e room) ≡ ys
  front_take = take_at ys (drop e room) e long

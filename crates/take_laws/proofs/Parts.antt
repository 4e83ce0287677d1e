-- A sound state by named parts, both ways: what the tests of soundness say, and that they pass.
-- Assumes nothing.
use Prim.Native.Nat.{ℕ, zero, suc, ◌≤◌, ◌<◌}
use mathlib.Core.Path.{◌≡◌, refl, sym, ap, ◌∙◌}
use mathlib.Core.Bool.{Bool, true, false, not, cond}
use mathlib.Core.List.{List}
use native.Mathlib.Omega.{arith}
use borrow.Author.Tests.{eqb-true, eq-eqb, not-true}
use lib.Dec.{eqb}
use lib.IntN.{ℤ, pos, nat_abs}
use lib.ListN.{get_or}
use Rattle.num_whole.specs.Tests.{less, same, pick, both, below}
use Rattle.num_whole.specs.Lists.{all}
use Rattle.num_whole.proofs.Cases.{apart, by_cases, holds, at_once, at_last, is_less, not_less, less_true, less_false, is_same, not_same, same_true, is_up_to, up_to_true, both_first, both_second, yes, no}
use Rattle.num_whole.proofs.Tables.{below_at, below_every}
use Rattle.num_packed.proofs.Tests.{zero_true, zero_is, plain_of, plain_is, between_bounds, not_above, not_under}
use Rattle.num_packed.specs.Sound.{entry, is_zero, breaks, breaks_side}
use Rattle.take_counts.specs.Counts.{counts_sound}
use Rattle.take_marks.specs.Marks.{has_mark, marks_heard}
use Rattle.take_marks.proofs.Marks.{zero_marks}
use Rattle.take_tally.specs.Tally.{count_of, last_times, mark_of, accepted, square_top, rows_sound, tally_sound, mark_sound, marks_sound}
use Rattle.take_tally.specs.declared.Tally.{Tally}
use Rattle.take_state.specs.State.{State, matrix_top, right_top, matrix_sound, rights_sound, sums_sound, sound_state}

-- ---- one sum
-- the entry of row i and column j: within its bound, not negative on the diagonal, and 0 beside a diagonal that is 0
pub record Entry (top : ℕ) (m : List ℤ) (i j : ℕ) : Type 0 where
  pub small : nat_abs (entry m i j) ≤ top
  pub diagonal : i ≡ j → entry m i j ≡ pos (nat_abs (entry m i j))
  pub row : entry m i i ≡ pos 0 → entry m i j ≡ pos 0
  pub column : entry m j j ≡ pos 0 → entry m i j ≡ pos 0

-- the right side of parameter i: within its bound, and 0 where the diagonal is 0
pub record Side (top : ℕ) (m r : List ℤ) (i : ℕ) : Type 0 where
  pub small : nat_abs (get_or r i (pos 0)) ≤ top
  pub zero : entry m i i ≡ pos 0 → get_or r i (pos 0) ≡ pos 0

-- a chain of tests that fails: what each of them says
entry_tests : (over under on below none row column : Bool) → cond over true (cond under true (cond on below (cond none false (cond row true column)))) ≡ false
    → (over ≡ false) × (under ≡ false) × (on ≡ true → below ≡ false) × (on ≡ false → none ≡ false → (row ≡ false) × (column ≡ false))
entry_tests true under on below none row column e = absurd (apart e)
entry_tests false true on below none row column e = absurd (apart e)
entry_tests false false true below none row column e = (refl, refl, λ t. e, λ t. absurd (apart t))
entry_tests false false false below true row column e = (refl, refl, λ t. absurd (apart (sym t)), λ t z. absurd (apart z))
entry_tests false false false below false true column e = absurd (apart e)
entry_tests false false false below false false column e = (refl, refl, λ t. absurd (apart (sym t)), λ t z. (refl, e))

side_tests : (over under none row : Bool) → cond over true (cond under true (cond none false row)) ≡ false
    → (over ≡ false) × (under ≡ false) × (none ≡ false → row ≡ false)
side_tests true under none row e = absurd (apart e)
side_tests false true none row e = absurd (apart e)
side_tests false false true row e = (refl, refl, λ t. absurd (apart t))
side_tests false false false row e = (refl, refl, λ t. e)

-- a number that is 0 where a diagonal is: by its test
by_zero : (z d : ℤ) → (is_zero z ≡ false → is_zero d ≡ false) → d ≡ pos 0 → z ≡ pos 0
by_zero z d h e = by_cases (is_zero z) (λ t. zero_true z t) (λ t. absurd (apart (sym (zero_is d e) ∙ h t)))

pub entry_good : (top : ℕ) (m : List ℤ) (i j : ℕ) → breaks (pos top) m i j ≡ false → Entry top m i j
unfolding breaks
entry_good top m i j e =
    let t = entry_tests _ _ _ _ _ _ _ e in
    record {
      small = between_bounds top (entry m i j) t.0 t.1;
      diagonal = λ h. plain_of (entry m i j) (t.2 (eq-eqb i j h));
      row = λ z. by_cases (eqb i j)
          (λ h. let same = eqb-true i j h in ap (λ k. entry m i k) (sym same) ∙ z)
          (λ h. by_zero (entry m i j) (entry m i i) (λ n. (t.3 h n).0) z);
      column = λ z. by_cases (eqb i j)
          (λ h. let same = eqb-true i j h in ap (λ k. entry m k j) same ∙ z)
          (λ h. by_zero (entry m i j) (entry m j j) (λ n. (t.3 h n).1) z);
    }

pub side_good : (top : ℕ) (m r : List ℤ) (i : ℕ) → breaks_side (pos top) m r i ≡ false → Side top m r i
unfolding breaks_side
side_good top m r i e =
    let t = side_tests _ _ _ _ e in
    record { small = between_bounds top (get_or r i (pos 0)) t.0 t.1; zero = by_zero (get_or r i (pos 0)) (entry m i i) t.2 }

-- and back
all_tests : (over under on below none row column : Bool) → over ≡ false → under ≡ false → (on ≡ true → below ≡ false)
    → (none ≡ false → row ≡ false) → (none ≡ false → column ≡ false) → cond over true (cond under true (cond on below (cond none false (cond row true column)))) ≡ false
all_tests true under on below none row column a b c d e = a
all_tests false true on below none row column a b c d e = b
all_tests false false true below none row column a b c d e = c refl
all_tests false false false below true row column a b c d e = refl
all_tests false false false below false true column a b c d e = d refl
all_tests false false false below false false column a b c d e = e refl

not_zero : (z d : ℤ) → (d ≡ pos 0 → z ≡ pos 0) → is_zero z ≡ false → is_zero d ≡ false
not_zero z d h e = by_cases (is_zero d) (λ t. absurd (apart (sym (zero_is z (h (zero_true d t))) ∙ e))) (λ t. t)

pub entry_sound : (top : ℕ) (m : List ℤ) (i j : ℕ) → Entry top m i j → breaks (pos top) m i j ≡ false
unfolding breaks
entry_sound top m i j g =
    all_tests _ _ _ _ _ _ _ (not_above top (entry m i j) g.small) (not_under top (entry m i j) g.small)
    (λ t. plain_is (entry m i j) (g.diagonal (eqb-true i j t)))
    (not_zero (entry m i j) (entry m i i) g.row) (not_zero (entry m i j) (entry m j j) g.column)

pub side_sound : (top : ℕ) (m r : List ℤ) (i : ℕ) → Side top m r i → breaks_side (pos top) m r i ≡ false
unfolding breaks_side
side_sound top m r i g =
    all_tests _ _ false false _ _ _ (not_above top (get_or r i (pos 0)) g.small) (not_under top (get_or r i (pos 0)) g.small)
    (λ t. refl) (λ t. refl) (not_zero (get_or r i (pos 0)) (entry m i i) g.zero)

off : (b : Bool) → not b ≡ true → b ≡ false
off true e = sym e
off false e = refl

-- ---- the marks of a parameter: none exactly where its diagonal is 0, and each of a station that has records
pub record Marked (m : List ℤ) (t : Tally) (i : ℕ) : Type 0 where
  pub unseen : entry m i i ≡ pos 0 → mark_of t i ≡ 0
  pub unmarked : mark_of t i ≡ 0 → entry m i i ≡ pos 0
  pub heard : (k : ℕ) → k < 16 → has_mark (mark_of t i) k ≡ true → 1 ≤ count_of t k

module _ (p : ℕ) (m : List ℤ) (t : Tally) (i : ℕ) where
  pub mark_past : p ≤ i → mark_sound p m t i ≡ true → mark_of t i ≡ 0
  unfolding mark_sound
  mark_past h e = same_true _ _ (no _ _ _ (not_less i p h) refl ∙ e)

  module _ (l : i < p) where
    -- the test of a parameter
    test : Bool
    test = pick (is_zero (entry m i i)) (same (mark_of t i) 0) (both (not (same (mark_of t i) 0)) (marks_heard t.counts (mark_of t i)))

    is_test : mark_sound p m t i ≡ test
    unfolding mark_sound test
    is_test = sym (yes _ _ _ (is_less i p l) refl)

    seen_test : is_zero (entry m i i) ≡ false → test ≡ true → (same (mark_of t i) 0 ≡ false) × (marks_heard t.counts (mark_of t i) ≡ true)
    unfolding test
    seen_test z e =
        let b = no _ _ _ z refl ∙ e in
        (off _ (both_first _ _ b), both_second (not (same (mark_of t i) 0)) _ b)

    unseen_test : is_zero (entry m i i) ≡ true → test ≡ true → mark_of t i ≡ 0
    unfolding test
    unseen_test z e = same_true _ _ (yes _ _ _ z refl ∙ e)

    pub mark_good_lem : mark_sound p m t i ≡ true → Marked m t i
    unfolding marks_heard
    mark_good_lem e =
        let v = sym is_test ∙ e in
        record {
          unseen = λ z. unseen_test (zero_is _ z) v;
          unmarked = λ z. by_cases (is_zero (entry m i i)) (λ q. zero_true _ q) (λ q. absurd (apart (sym (is_same _ _ z) ∙ (seen_test q v).0)));
          heard = λ k h has. by_cases (is_zero (entry m i i))
              (λ q. absurd (apart (sym has ∙ ap (λ n. has_mark n k) (unseen_test q v) ∙ zero_marks k)))
              (λ q. less_true _ _ (at_last _ _ (ap not has) refl ∙ below_at _ 16 (seen_test q v).1 k h));
        }

    pub mark_sound_lem : Marked m t i → mark_sound p m t i ≡ true
    unfolding marks_heard test
    mark_sound_lem g =
        is_test
        ∙ by_cases (is_zero (entry m i i))
        (λ q. sym (yes _ _ _ q (sym (is_same _ _ (g.unseen (zero_true _ q))))))
        (λ q. sym (no _ _ _ q (holds _ _ (ap not (not_same _ _ (λ z. apart (sym (zero_is _ (g.unmarked z)) ∙ q))))
        (sym (below_every _ 16 (λ k h. by_cases (has_mark (mark_of t i) k) (λ has. sym (at_last _ _ (ap not has) (sym (is_less _ _ (g.heard k h has))))) (λ has. sym (at_once _ _ (ap not has)))))))))

  pub mark_sound_past : p ≤ i → mark_of t i ≡ 0 → mark_sound p m t i ≡ true
  unfolding mark_sound
  mark_sound_past h e = sym (no _ _ _ (not_less i p h) (sym (is_same _ _ e)))

-- ---- the state
pub record Good (stations p : ℕ) (s : State) : Type 0 where
  pub counts : (i : ℕ) → i < 16 → count_of s.tally i ≤ 256
  pub past_counts : (i : ℕ) → i < 16 → stations ≤ i → count_of s.tally i ≡ 0
  pub past_times : (i : ℕ) → i < 16 → stations ≤ i → all (λ t. same t 0) (last_times s.tally i).times ≡ true
  pub square : s.tally.square ≤ square_top (accepted s.tally)
  pub matrix : (i j : ℕ) → i ≤ j → j < p → Entry (matrix_top (accepted s.tally)) s.matrix i j
  pub rights : (i : ℕ) → i < p → Side (right_top (accepted s.tally)) s.matrix s.rights i
  pub marks : (i : ℕ) → i < 50 → i < p → Marked s.matrix s.tally i
  pub past_marks : (i : ℕ) → i < 50 → p ≤ i → mark_of s.tally i ≡ 0

-- how many records a row may have
seats : (i n : ℕ) → less i n ≡ true → pick {A = ℕ} (less i n) 256 0 ≡ 256
seats i n c = sym (yes {A = ℕ} _ 256 0 c refl)

no_seats : (i n : ℕ) → less i n ≡ false → pick {A = ℕ} (less i n) 256 0 ≡ 0
no_seats i n c = sym (no {A = ℕ} _ 256 0 c refl)

pub good : (stations p : ℕ) (s : State) → sound_state stations p s ≡ true → Good stations p s
unfolding sound_state sums_sound tally_sound counts_sound rows_sound matrix_sound rights_sound marks_sound
good stations p s e =
    let sums = both_first _ _ e in
    let marks = both_second (sums_sound stations p s) _ e in
    let t = both_first _ _ sums in
    let u = both_second _ _ sums in
    let counts : (i : ℕ) → i < 16 → count_of s.tally i ≤ pick (less i stations) 256 0 = λ i h. up_to_true _ _ (below_at _ 16 (both_first _ _ t) i h) in
    record {
      counts = λ i h. by_cases (less i stations)
          (λ c. omega (arith, seats i stations c, counts i h))
          (λ c. omega (arith, no_seats i stations c, counts i h));
      past_counts = λ i h l. omega (arith, no_seats i stations (not_less i stations l), counts i h);
      past_times = λ i h l. at_last (less i stations) _ (not_less i stations l) refl ∙ below_at _ 16 (both_first _ _ (both_second _ _ t)) i h;
      square = up_to_true _ _ (both_second _ _ (both_second _ _ t));
      matrix = λ i j h l. entry_good _ _ i j (not-true _ (below_at _ (suc j) (below_at _ p (both_first _ _ u) j l) i (omega arith)));
      rights = λ i l. side_good _ _ _ i (not-true _ (below_at _ p (both_second _ _ u) i l));
      marks = λ i h l. mark_good_lem p s.matrix s.tally i l (below_at _ 50 marks i h);
      past_marks = λ i h l. mark_past p s.matrix s.tally i l (below_at _ 50 marks i h);
    }

pub sound : (stations p : ℕ) (s : State) → Good stations p s → sound_state stations p s ≡ true
unfolding sound_state sums_sound tally_sound counts_sound rows_sound matrix_sound rights_sound marks_sound
sound stations p s g =
    sym (holds _ _
    (sym (holds _ _
    (sym (holds _ _
    (below_every _ 16 (λ i h. is_up_to _ _ (by_cases (less i stations)
    (λ c. omega (arith, seats i stations c, g.counts i h))
    (λ c. let l : stations ≤ i = less_false _ _ c in omega (arith, g.past_counts i h l)))))
    (holds _ _
    (below_every _ 16 (λ i h. by_cases (less i stations)
    (λ c. sym (at_once _ _ c))
    (λ c. sym (at_last (less i stations) _ c (sym (g.past_times i h (less_false _ _ c)))))))
    (sym (is_up_to _ _ g.square)))))
    (holds _ _
    (below_every _ p (λ j l. below_every _ (suc j) (λ i h. ap not (entry_sound _ _ i j (g.matrix i j (omega arith) l)))))
    (sym (below_every _ p (λ i l. ap not (side_sound _ _ _ i (g.rights i l))))))))
    (sym (below_every _ 50 (λ i h. by_cases (less i p)
    (λ c. mark_sound_lem p s.matrix s.tally i (less_true _ _ c) (g.marks i h (less_true _ _ c)))
    (λ c. mark_sound_past p s.matrix s.tally i (less_false _ _ c) (g.past_marks i h (less_false _ _ c)))))))

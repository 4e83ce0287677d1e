-- The sums of a sound state as those of a normal file of one arc: n records keep within the bounds of an arc, which has at most 4,096.
-- Assumes nothing.
use Prim.Native.Nat.{ℕ, suc, ◌+◌, ◌*◌, ◌^◌, ◌≤◌, ◌<◌}
use mathlib.Core.Path.{◌≡◌, refl, ◌∙◌, subst}
use mathlib.Core.List.{List}
use mathlib.Core.Bool.{true, false}
use native.Mathlib.Omega.{arith}
use native.Mathlib.Nat.{le_trans, mul-le-mul_right}
use borrow.Author.Tests.{not-true}
use lib.IntN.{ℤ, pos}
use lib.ListN.{length, take}
use lib.Seq.{get_or-take}
use Rattle.num_whole.specs.Tests.{same}
use Rattle.num_whole.proofs.Cases.{by_cases, yes, no, same_true, up_to_true, both_first, both_second}
use Rattle.num_whole.proofs.Tables.{below_at}
use Rattle.num_packed.specs.Triangle.{tri}
use Rattle.num_packed.specs.Sound.{entry, breaks, breaks_side}
use Rattle.num_packed.proofs.Places.{tri_within}
use Rattle.norm_system.specs.System.{bound_of}
use Rattle.norm_system.proofs.Sound.{SoundSums, entry_wider, side_wider}
use Rattle.take_counts.proofs.Totals.{sum_le}
use Rattle.take_tally.specs.Tally.{accepted, square_unit, square_top, tally_sound}
use Rattle.take_tally.proofs.Rows.{tally_small}
use Rattle.take_state.specs.State.{State, matrix_top, right_top, matrix_sound, rights_sound, sums_sound, sound_state}

-- ---- of lent room, the part that holds the sums
module _ (m : List ℤ) (p : ℕ) where
  entry_take : (i j : ℕ) → i ≤ j → j < p → entry (take (tri p) m) i j ≡ entry m i j
  entry_take i j h l = get_or-take (tri p) m (tri j + i) (pos 0) (omega (arith, tri_within j p l))

  breaks_take : (b : ℤ) (i j : ℕ) → i ≤ j → j < p → breaks b (take (tri p) m) i j ≡ breaks b m i j
  unfolding breaks
  breaks_take b i j h l = rw (entry_take i j h l, entry_take i i (omega arith) (omega arith), entry_take j j (omega arith) l)

  side_take : (b : ℤ) (r : List ℤ) (i : ℕ) → i < p → breaks_side b (take (tri p) m) (take p r) i ≡ breaks_side b m r i
  unfolding breaks_side
  side_take b r i l = rw (get_or-take p r i (pos 0) l, entry_take i i (omega arith) l)

-- ---- n records' bound is within an arc's
bound_wider : (n unit : ℕ) → n ≤ 4096 → n * unit ≤ bound_of 1 n (4096 * unit)
unfolding bound_of
bound_wider n unit h =
    by_cases (same n 0)
    (λ t. subst (λ b. n * unit ≤ b) (yes _ _ _ t refl) (rw (same_true n 0 t) (omega arith)))
    (λ t. subst (λ b. n * unit ≤ b) (no _ _ _ t refl) (omega (arith, mul-le-mul_right unit h)))

module _ (stations p : ℕ) (s : State) (sound : sound_state stations p s ≡ true) (long : length s.tally.counts ≡ 16) where
  -- the tally and the sums
  sums : sums_sound stations p s ≡ true
  unfolding sound_state
  sums = both_first _ _ sound

  tally : tally_sound stations s.tally ≡ true
  unfolding sums_sound
  tally = both_first _ _ sums

  few : accepted s.tally ≤ 4096
  few = omega (arith, sum_le s.tally.counts 256 (λ i h. tally_small stations s.tally tally i (omega arith)))

  matrix : (i j : ℕ) → i ≤ j → j < p → breaks (pos (matrix_top (accepted s.tally))) s.matrix i j ≡ false
  unfolding sums_sound matrix_sound
  matrix i j h l = not-true _ (below_at _ (suc j) (below_at _ p (both_first _ _ (both_second _ _ sums)) j l) i (omega arith))

  rights : (i : ℕ) → i < p → breaks_side (pos (right_top (accepted s.tally))) s.matrix s.rights i ≡ false
  unfolding sums_sound rights_sound
  rights i l = not-true _ (below_at _ p (both_second _ _ (both_second _ _ sums)) i l)

  square : s.tally.square ≤ square_top (accepted s.tally)
  unfolding tally_sound
  square = up_to_true _ _ (both_second _ _ (both_second _ _ tally))

  pub state_sums : SoundSums 1 p (take (tri p) s.matrix) (take p s.rights) (accepted s.tally) s.tally.square
  state_sums =
      record {
        matrix = λ i j h l. breaks_take s.matrix p _ i j h l ∙ entry_wider _ _ s.matrix i j (bound_wider _ (2 ^ 46) few) (matrix i j h l);
        rights = λ i l. side_take s.matrix p _ s.rights i l ∙ side_wider _ _ s.matrix s.rights i (bound_wider _ (2 ^ 43) few) (rights i l);
        accepted = omega (arith, few);
        square = le_trans square (bound_wider _ square_unit few);
      }

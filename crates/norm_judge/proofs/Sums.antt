-- Whether no sum is unsound, one section after another, from what the walks over the sums find.
-- Assumes nothing.
use Rattle.std.specs.Prelude.{Option, None, Some, is_some}
use Prim.Native.Nat.{ℕ, ◌+◌, ◌*◌, ◌≤◌}
use mathlib.Core.Path.{◌≡◌, refl, sym, ap}
use mathlib.Core.List.{List}
use mathlib.Core.Bool.{Bool, true, false, not}
use lib.IntN.{ℤ, pos}
use lib.ListN.{length, get_or, take}
use lib.Seq.{length-take-le}
use Rattle.num_packed.specs.Triangle.{tri}
use Rattle.num_packed.specs.Sound.{breaks, breaks_side}
use Rattle.num_packed.specs.Found.{none, at, first_from, columns_from}
use Rattle.norm_system.specs.System.{Where, after_matrix, after_rights, sums_where, unsound_stored, unsound_in}
use Rattle.norm_totals.specs.Told.{told_where}
use Rattle.norm_totals.specs.declared.Unsound.{Unsound}
use Rattle.norm_totals.specs.declared.Unsound.TheVariants.{Matrix, Right, Accepted, Square}
use Rattle.byte_words.proofs.Stands.{length_stands}
use Rattle.norm_room.specs.Room.{label_in_heads, system_in_rooms, is_nowhere, sums_fit}

-- a test that there is none
pub none_nowhere : (o : Option Unsound) (b : Bool) → is_some o ≡ not b → b ≡ is_nowhere (told_where o)
unfolding is_nowhere
none_nowhere None true e = refl
none_nowhere None false e = cc
none_nowhere (Some (Matrix k)) true e = cc
none_nowhere (Some (Matrix k)) false e = refl
none_nowhere (Some (Right k)) true e = cc
none_nowhere (Some (Right k)) false e = refl
none_nowhere (Some Accepted) true e = cc
none_nowhere (Some Accepted) false e = refl
none_nowhere (Some Square) true e = cc
none_nowhere (Some Square) false e = refl

module _ (b : ℕ) (m : List ℤ) (p : ℕ) (w : Where) where
  -- ---- the matrix sums, then what follows
  pub matrix_sound_lem : columns_from (breaks (pos b) m) 0 p ≡ none → is_nowhere w ≡ is_nowhere (after_matrix (columns_from (breaks (pos b) m) 0 p) w)
  unfolding after_matrix
  matrix_sound_lem e = sym (ap (λ x. is_nowhere (after_matrix x w)) e)

  pub matrix_unsound : (k : ℕ) → columns_from (breaks (pos b) m) 0 p ≡ at k → false ≡ is_nowhere (after_matrix (columns_from (breaks (pos b) m) 0 p) w)
  unfolding after_matrix is_nowhere
  matrix_unsound k e = sym (ap (λ x. is_nowhere (after_matrix x w)) e)

  -- ---- the right sides, then what follows
  module _ (r : List ℤ) where
    pub rights_sound_lem : first_from (breaks_side (pos b) m r) 0 p ≡ none → is_nowhere w ≡ is_nowhere (after_rights (first_from (breaks_side (pos b) m r) 0 p) w)
    unfolding after_rights
    rights_sound_lem e = sym (ap (λ x. is_nowhere (after_rights x w)) e)

    pub rights_unsound : (k : ℕ) → first_from (breaks_side (pos b) m r) 0 p ≡ at k → false ≡ is_nowhere (after_rights (first_from (breaks_side (pos b) m r) 0 p) w)
    unfolding after_rights is_nowhere
    rights_unsound k e = sym (ap (λ x. is_nowhere (after_rights x w)) e)

-- ---- the sums of the system in three rooms
pub sums_in : (a p : ℕ) (h : List ℕ) (m r : List ℤ) → a ≤ length h
    → is_nowhere (sums_where false a p (take (tri p) m) (take p r) (get_or h (a + 5 * p) 0) (get_or h (a + 5 * p + 1) 0)) ≡ sums_fit (system_in_rooms a p h m r)
unfolding sums_fit unsound_in unsound_stored system_in_rooms
sums_in a p h m r e = rw (length-take-le a h e, length_stands (label_in_heads h) 5 p a)

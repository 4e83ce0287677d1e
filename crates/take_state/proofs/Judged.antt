-- The tests of the sums and the right sides, from what a walk over them finds.
-- Assumes nothing.
use Prim.Native.Nat.{ℕ, suc, suc-le-suc}
use Rattle.std.specs.Prelude.{Option, None, Some, is_some}
use mathlib.Core.Path.{◌≡◌, sym, ap}
use mathlib.Core.Bool.{Bool, true, false, not}
use mathlib.Core.List.{List}
use native.Mathlib.Nat.{le_of_suc-le-suc}
use lib.IntN.{ℤ, pos}
use Rattle.num_whole.proofs.Tables.{below_every, below_fails}
use Rattle.num_packed.specs.Sound.{breaks, breaks_side}
use Rattle.num_packed.specs.Found.{none, at, first_from, columns_from, told_walked}
use Rattle.num_packed.proofs.Found.{first_none, first_number, columns_none, first_entry}
use Rattle.take_state.specs.State.{matrix_sound, rights_sound}

module _ (p top : ℕ) (m : List ℤ) where
  pub matrix_pass : columns_from (breaks (pos top) m) 0 p ≡ none → matrix_sound p top m ≡ true
  unfolding matrix_sound
  matrix_pass e = below_every _ p (λ j l. below_every _ (suc j) (λ i k. ap not (columns_none (breaks (pos top) m) p e i j (le_of_suc-le-suc k) l)))

  pub matrix_fail : (k : ℕ) → columns_from (breaks (pos top) m) 0 p ≡ at k → matrix_sound p top m ≡ false
  unfolding matrix_sound
  matrix_fail k e =
      let f = first_entry (breaks (pos top) m) p k e in
      below_fails _ p f.column f.inside
      (below_fails _ (suc f.column) f.row (suc-le-suc f.upper) (ap not f.holds))

  pub matrix_found : (w : Option ℕ) (b : Bool) → told_walked w ≡ columns_from (breaks (pos top) m) 0 p → is_some w ≡ not b → b ≡ matrix_sound p top m
  matrix_found None true e f = sym (matrix_pass (sym e))
  matrix_found None false e f = cc
  matrix_found (Some k) true e f = cc
  matrix_found (Some k) false e f = sym (matrix_fail k (sym e))

  module _ (r : List ℤ) where
    pub rights_pass : first_from (breaks_side (pos top) m r) 0 p ≡ none → rights_sound p top m r ≡ true
    unfolding rights_sound
    rights_pass e = below_every _ p (λ i l. ap not (first_none (breaks_side (pos top) m r) p e i l))

    pub rights_fail : (k : ℕ) → first_from (breaks_side (pos top) m r) 0 p ≡ at k → rights_sound p top m r ≡ false
    unfolding rights_sound
    rights_fail k e =
        let f = first_number (breaks_side (pos top) m r) p k e in
        below_fails _ p k f.inside (ap not f.holds)

    pub rights_found : (w : Option ℕ) (b : Bool) → told_walked w ≡ first_from (breaks_side (pos top) m r) 0 p → is_some w ≡ not b → b ≡ rights_sound p top m r
    rights_found None true e f = sym (rights_pass (sym e))
    rights_found None false e f = cc
    rights_found (Some k) true e f = cc
    rights_found (Some k) false e f = sym (rights_fail k (sym e))

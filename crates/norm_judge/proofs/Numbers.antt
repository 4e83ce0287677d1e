-- The refusals of a system in lent room in their order: one step for each test, and what they say of the rooms.
-- Assumes nothing.
use Prim.Native.Nat.{ℕ, ◌≤◌}
use mathlib.Core.Path.{◌≡◌, sym, ap, ◌∙◌}
use mathlib.Core.List.{List}
use mathlib.Core.Bool.{true, false}
use lib.IntN.{ℤ}
use lib.ListN.{length}
use Rattle.num_whole.specs.Answer.{given, refused}
use Rattle.num_whole.proofs.Cases.{both_first, both_second, up_to_true, between_true}
use Rattle.refusal.specs.First.{answered}
use Rattle.refusal.specs.declared.Refusal.TheVariants.{Room, Count, Limits, Order, Unsound}
use Rattle.refusal.proofs.Firsts.{unless_true, unless_false, first_pass, first_by, first_none_left, answered_given, answered_by}
use Rattle.norm_system.specs.System.{System}
use Rattle.num_packed.specs.Room.{sums_roomy}
use Rattle.norm_room.specs.Room.{system_in_rooms, heads_roomy, counts_fit, fields_fit, orders_fit, sums_fit, system_number}
use Rattle.norm_judge.specs.Judge.{HeadsFit, Roomed, sums_number, values_number}

-- ---- 2 and 20
pub counted : (a p : ℕ) → counts_fit a p ≡ true → (a ≤ 16) × (p ≤ 500)
unfolding counts_fit
counted a p e = ((between_true _ _ _ (both_first _ _ e)).1, (between_true _ _ _ (both_second _ _ e)).1)

pub headed : (a p heads : ℕ) → counts_fit a p ≡ true → heads_roomy a p heads ≡ true → HeadsFit a p heads
unfolding heads_roomy
headed a p heads e f = let few = counted a p e in record { arcs = few.0; parameters = few.1; heads_fit = up_to_true _ _ f }

pub roomed : (a p heads matrix rights : ℕ) → HeadsFit a p heads → sums_roomy p matrix rights ≡ true → Roomed a p heads matrix rights
unfolding sums_roomy
roomed a p heads matrix rights h e =
    record {
      arcs = h.arcs;
      parameters = h.parameters;
      heads_fit = h.heads_fit;
      matrix_fits = up_to_true _ _ (both_first _ _ e);
      rights_fit = up_to_true _ _ (both_second _ _ e);
    }

module _ (a p : ℕ) (h : List ℕ) (m r : List ℤ) where
  pub number_count : counts_fit a p ≡ false → refused 2 ≡ answered (system_number a p h m r) (tt {0})
  unfolding system_number
  number_count e = answered_by _ tt Count (sym (first_by _ _ Count (unless_false 2 _ e)))

  module _ (counts : counts_fit a p ≡ true) where
    pub number_room : heads_roomy a p (length h) ≡ false → refused 20 ≡ answered (system_number a p h m r) (tt {0})
    unfolding system_number
    number_room e = answered_by _ tt Room (first_pass _ _ (unless_true 2 _ counts) ∙ sym (first_by _ _ Room (unless_false 20 _ e)))

    pub number_values : heads_roomy a p (length h) ≡ true
        → answered (values_number p (length m) (length r) (system_in_rooms a p h m r)) (tt {0}) ≡ answered (system_number a p h m r) (tt {0})
    unfolding system_number values_number
    number_values e = ap (λ k. answered k tt) (sym (first_pass _ _ (unless_true 2 _ counts) ∙ first_pass _ _ (unless_true 20 _ e)))

-- ---- the values of p parameters, with sums in rooms of these lengths
module _ (p matrix rights : ℕ) (x : System) where
  -- 4, 5
  pub values_limits : fields_fit x ≡ false → refused 4 ≡ answered (values_number p matrix rights x) (tt {0})
  unfolding values_number
  values_limits e = answered_by _ tt Limits (sym (first_by _ _ Limits (unless_false 4 _ e)))

  module _ (fields : fields_fit x ≡ true) where
    pub values_order : orders_fit x ≡ false → refused 5 ≡ answered (values_number p matrix rights x) (tt {0})
    unfolding values_number
    values_order e = answered_by _ tt Order (first_pass _ _ (unless_true 4 _ fields) ∙ sym (first_by _ _ Order (unless_false 5 _ e)))

    pub values_sums : orders_fit x ≡ true → answered (sums_number p matrix rights x) (tt {0}) ≡ answered (values_number p matrix rights x) (tt {0})
    unfolding values_number sums_number
    values_sums e = ap (λ k. answered k tt) (sym (first_pass _ _ (unless_true 4 _ fields) ∙ first_pass _ _ (unless_true 5 _ e)))

  -- 20, 6
  pub sums_room : sums_roomy p matrix rights ≡ false → refused 20 ≡ answered (sums_number p matrix rights x) (tt {0})
  unfolding sums_number
  sums_room e = answered_by _ tt Room (sym (first_by _ _ Room (unless_false 20 _ e)))

  module _ (room : sums_roomy p matrix rights ≡ true) where
    pub sums_unsound : sums_fit x ≡ false → refused 6 ≡ answered (sums_number p matrix rights x) (tt {0})
    unfolding sums_number
    sums_unsound e = answered_by _ tt Unsound (first_pass _ _ (unless_true 20 _ room) ∙ sym (first_by _ _ Unsound (unless_false 6 _ e)))

    pub sums_sound_lem : sums_fit x ≡ true → given (tt {0}) ≡ answered (sums_number p matrix rights x) (tt {0})
    unfolding sums_number
    sums_sound_lem e = answered_given _ tt (first_pass _ _ (unless_true 20 _ room) ∙ first_pass _ _ (unless_true 6 _ e) ∙ first_none_left)

-- What it says that a system in lent room is not refused: its rooms are long enough, and it is sound. And how long its file is.
-- Assumes nothing.
use Prim.Native.Nat.{ℕ}
use mathlib.Core.Path.{◌≡◌, refl, sym, ap, ◌∙◌}
use mathlib.Core.List.{List}
use mathlib.Core.Bool.{true}
use native.Mathlib.Omega.{arith}
use lib.IntN.{ℤ}
use lib.ListN.{length}
use Rattle.num_whole.proofs.Cases.{apart, both_first, both_second, holds, is_up_to, is_between, between_true}
use Rattle.refusal.proofs.Firsts.{unless_true, unless_none, first_pass, first_none, first_none_left}
use Rattle.num_packed.specs.Triangle.{tri}
use Rattle.norm_system.specs.System.{System, Where, nowhere, in_matrix, in_rights, in_accepted, in_square}
use Rattle.norm_system.proofs.Sound.{SoundSystem}
use Rattle.num_packed.specs.Room.{sums_roomy}
use Rattle.norm_room.specs.Room.{system_in_rooms, heads_roomy, counts_fit, fields_fit, orders_fit, is_nowhere, sums_fit, system_number, file_long}
use Rattle.norm_put.proofs.Laid.{arcs_in, labels_in_lem, matrix_in, rights_in, file_long_lem}
use Rattle.norm_judge.specs.Judge.{Roomed}
use Rattle.norm_judge.proofs.Numbers.{headed, roomed}
use Rattle.norm_write.specs.Write.{room_bytes}

is_nowhere_lem : (w : Where) → is_nowhere w ≡ true → w ≡ nowhere
unfolding is_nowhere
is_nowhere_lem nowhere e = refl
is_nowhere_lem (in_matrix k) e = absurd (apart (sym e))
is_nowhere_lem (in_rights k) e = absurd (apart (sym e))
is_nowhere_lem in_accepted e = absurd (apart (sym e))
is_nowhere_lem in_square e = absurd (apart (sym e))

module _ (a p : ℕ) (h : List ℕ) (m r : List ℤ) where
  abbrev x : System
  x = system_in_rooms a p h m r

  -- a system in lent room that is not refused is sound
  pub record Written : Type 0 where
    pub room : Roomed a p (length h) (length m) (length r)
    pub sound : SoundSystem x

  pub number_sound : system_number a p h m r ≡ 0 → Written
  unfolding system_number counts_fit fields_fit orders_fit sums_fit
  number_sound e =
      let e2 = first_none _ _ e in
      let e20 = first_none _ _ e2.1 in
      let e4 = first_none _ _ e20.1 in
      let e5 = first_none _ _ e4.1 in
      let room = first_none _ _ e5.1 in
      let e6 = first_none _ _ room.1 in
      let counts = unless_none 2 (counts_fit a p) (λ z. omega arith) e2.0 in
      let heads = headed a p _ counts (unless_none 20 _ (λ z. omega arith) e20.0) in
      let fit = roomed a p _ _ _ heads (unless_none 20 _ (λ z. omega arith) room.0) in
      let fields = unless_none 4 (fields_fit x) (λ z. omega arith) e4.0 in
      let orders = unless_none 5 (orders_fit x) (λ z. omega arith) e5.0 in
      let sums = unless_none 6 (sums_fit x) (λ z. omega arith) e6.0 in
      let arcs : length x.arcs ≡ a = arcs_in a p h m r (omega (arith, fit.heads_fit)) in
      let labels : length x.labels ≡ p = labels_in_lem a p h m r in
      let some = between_true _ _ _ (both_first _ _ counts) in
      let many = between_true _ _ _ (both_second _ _ counts) in
      record {
        room = fit;
        sound = record {
          some_arcs = omega (arith, some.0);
          few_arcs = omega (arith, some.1);
          arcs = both_first _ _ fields;
          arcs_up = both_first _ _ orders;
          some_labels = omega (arith, many.0);
          few_labels = omega (arith, many.1);
          labels = both_second _ _ fields;
          labels_up = both_second _ _ orders;
          matrix = matrix_in a p h m r fit.matrix_fits ∙ ap tri (sym labels);
          rights = rights_in a p h m r fit.rights_fit ∙ sym labels;
          sums = is_nowhere_lem _ sums;
        };
      }

  -- and one that is sound is not refused
  pub sound_number : Roomed a p (length h) (length m) (length r) → SoundSystem x → system_number a p h m r ≡ 0
  unfolding system_number heads_roomy sums_roomy counts_fit fields_fit orders_fit sums_fit is_nowhere
  sound_number fit o =
      let arcs : length x.arcs ≡ a = arcs_in a p h m r (omega (arith, fit.heads_fit)) in
      let labels : length x.labels ≡ p = labels_in_lem a p h m r in
      let heads : heads_roomy a p (length h) ≡ true = is_up_to _ _ fit.heads_fit in
      let room : sums_roomy p (length m) (length r) ≡ true = sym (holds _ _ (is_up_to _ _ fit.matrix_fits) (sym (is_up_to _ _ fit.rights_fit))) in
      let counts : counts_fit a p ≡ true =
      sym (holds _ _ (is_between _ _ _ (omega (arith, o.some_arcs)) fit.arcs) (sym (is_between _ _ _ (omega (arith, o.some_labels)) fit.parameters))) in
      let fields : fields_fit x ≡ true = sym (holds _ _ o.arcs (sym o.labels)) in
      let orders : orders_fit x ≡ true = sym (holds _ _ o.arcs_up (sym o.labels_up)) in
      first_pass _ _ (unless_true 2 _ counts) ∙ first_pass _ _ (unless_true 20 _ heads) ∙ first_pass _ _ (unless_true 4 _ fields)
      ∙ first_pass _ _ (unless_true 5 _ orders) ∙ first_pass _ _ (unless_true 20 _ room) ∙ first_pass _ _ (unless_true 6 _ (ap is_nowhere o.sums))
      ∙ first_none_left

  -- how long its file is
  pub room_long : Roomed a p (length h) (length m) (length r) → length (room_bytes a p h m r) ≡ file_long a p
  unfolding room_bytes
  room_long fit =
      file_long_lem a p x (arcs_in a p h m r (omega (arith, fit.heads_fit))) (labels_in_lem a p h m r)
      (matrix_in a p h m r fit.matrix_fits) (rights_in a p h m r fit.rights_fit)

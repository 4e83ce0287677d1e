-- What a call that reads an arc file leaves.
-- Assumes nothing.
use Prim.Native.Nat.{ℕ}
use mathlib.Core.Path.{◌≡◌, refl, sym, ◌∙◌, ap}
use mathlib.Core.List.{List, [], ◌∷◌}
use mathlib.Core.Bool.{true, false}
use lib.ListN.{length}
use Rattle.num_whole.specs.Answer.{given, Judged, good, bad}
use Rattle.num_whole.proofs.Cases.{yes, no, both_second, up_to_true}
use Rattle.byte_words.specs.Words.{lay}
use Rattle.refusal.proofs.Firsts.{unless_true, unless_false}
use Rattle.arc_read.specs.Arc.{Arc}
use Rattle.call_rooms.specs.Result.{result_number, result_left}
use Rattle.call_rooms.proofs.Rooms.{roomy}
use Rattle.call_heading.specs.Lent.{heading_bytes}
use Rattle.call_files.specs.Reading.{read_roomy, arc_roomy, read_number, heading_left, places_left}
use Rattle.byte_section.specs.Told.{on_done}
use Rattle.byte_section.proofs.Writing.{done_new, done_old}

-- ---- what a call leaves
module _ (j : Judged Arc) (room out : List ℕ) where
  pub read_refused : (number : ℕ) {place n : ℕ} → j ≡ bad number place → n ≡ number
      → (n ≡ read_number j (length room) (length out)) × ((room ≡ heading_left j room (length out)) × (out ≡ places_left j (length room) out))
  unfolding read_number heading_left places_left
  read_refused number e i = rw e (i, (refl, refl))

  module _ (a : Arc) (is : j ≡ good a) where
    pub read_short : arc_roomy a (length room) (length out) ≡ false
        → (20 ≡ read_number j (length room) (length out)) × ((room ≡ heading_left j room (length out)) × (out ≡ places_left j (length room) out))
    unfolding read_number heading_left places_left
    read_short t = rw is (sym (unless_false 20 _ t), (no _ _ _ t refl, no _ _ _ t refl))

    pub read_done : arc_roomy a (length room) (length out) ≡ true → {n : ℕ} {h left : List ℕ} → h ≡ lay room 0 (heading_bytes a.heading)
        → (n ≡ result_number (given (a.count ∷ a.start ∷ [])) (length out)) × (left ≡ result_left (given (a.count ∷ a.start ∷ [])) out)
        → (n ≡ read_number j (length room) (length out)) × ((h ≡ heading_left j room (length out)) × (left ≡ places_left j (length room) out))
    unfolding read_number heading_left places_left read_roomy
    read_done t e put =
        let fits = roomy (a.count ∷ a.start ∷ []) out (up_to_true 2 (length out) (both_second _ _ t)) in
        rw is (put.0 ∙ sym fits.0 ∙ sym (unless_true 20 _ t), (yes _ _ _ t e, yes _ _ _ t (put.1 ∙ sym fits.1)))

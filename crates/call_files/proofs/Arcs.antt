-- An arc file written from a heading in lent bytes: one test after the other, and then what is written for a heading by value.
-- Assumes nothing.
use Prim.Native.Nat.{ℕ, ◌≤◌, ◌<◌}
use mathlib.Core.Path.{◌≡◌, refl, sym, ap, ◌∙◌}
use mathlib.Core.List.{List, []}
use mathlib.Core.Bool.{Bool, true, false}
use lib.ListN.{length}
use Rattle.num_whole.specs.Tests.{same, pick}
use Rattle.num_whole.specs.Answer.{given, refused}
use Rattle.num_whole.proofs.Cases.{is_up_to, not_up_to}
use Rattle.byte_words.specs.Words.{lay}
use Rattle.byte_section.proofs.Writing.{none_laid}
use Rattle.refusal.specs.First.{number_in, answered}
use Rattle.refusal.specs.Number.{number_of}
use Rattle.refusal.specs.declared.Refusal.{Refusal}
use Rattle.refusal.specs.declared.Refusal.TheVariants.{Count, Room}
use Rattle.refusal.proofs.Firsts.{unless_true, unless_false, first_pass, first_by, first_one, answered_by}
use Rattle.byte_section.specs.Told.{on_done}
use Rattle.arc_heading.specs.declared.Heading.{Heading}
use Rattle.arc_put.specs.Bytes.{arc_bytes, allowed}
use Rattle.arc_write.specs.Write.{write_arc, arc_left_in}
use Rattle.call_heading.specs.Lent.{heading_in, has_heading}
use Rattle.call_files.specs.Arcs.{arc_number, arc_file, arc_left}

-- a writing answers by its own number
by_tests : (c f o w l : Bool) (n : ℕ)
    → let x = pick c (pick f (pick o (pick w (pick l (refused 20) (given n)) (refused 1)) (refused 5)) (refused 4)) (refused 2) in
    x ≡ answered (number_in x) n
unfolding pick number_in answered same
by_tests true true true true true n = refl
by_tests true true true true false n = refl
by_tests true true true false l n = refl
by_tests true true false w l n = refl
by_tests true false o w l n = refl
by_tests false f o w l n = refl

by_number : (h : Heading) (run : List ℕ) (room : ℕ) → write_arc h run room ≡ answered (number_in (write_arc h run room)) (length (arc_bytes h run))
unfolding write_arc
by_number h run room = by_tests _ _ _ _ _ _

module _ (b run out : List ℕ) where
  abbrev Refuses : ℕ → Type 0
  Refuses k = (refused k ≡ arc_file b run (length out)) × (out ≡ arc_left b run out)

  by_first : (f : Refusal) → arc_number b run (length out) ≡ number_of f → Refuses (number_of f)
  unfolding arc_file arc_left on_done
  by_first f e =
      let is : refused (number_of f) ≡ arc_file b run (length out) = answered_by _ _ f e in
      (is, ap (λ w. on_done w (lay out 0 (arc_bytes (heading_in b) run)) out) is)

  -- the heading's numbers are not there
  pub arc_short : length b < 16 → Refuses 20
  unfolding arc_number
  arc_short h = by_first Room (sym (first_by _ _ Room (unless_false 20 _ (not_up_to _ _ h))))

  module _ (there : 16 ≤ length b) where
    pub arc_many : allowed (heading_in b) run ≡ false → Refuses 2
    unfolding arc_number
    arc_many e = by_first Count (first_pass _ _ (unless_true 20 _ (is_up_to _ _ there)) ∙ sym (first_by _ _ Count (unless_false 2 _ e)))

    module _ (counted : allowed (heading_in b) run ≡ true) where
      pub arc_cut : has_heading b ≡ false → Refuses 20
      unfolding arc_number
      arc_cut e =
          by_first Room
          (first_pass _ _ (unless_true 20 _ (is_up_to _ _ there))
          ∙ first_pass _ _ (unless_true 2 _ counted)
          ∙ sym (first_by _ _ Room (unless_false 20 _ e)))

      -- all of the heading is there
      pub arc_whole : has_heading b ≡ true
          → (write_arc (heading_in b) run (length out) ≡ arc_file b run (length out)) × (arc_left_in (heading_in b) run out ≡ arc_left b run out)
      unfolding arc_number arc_file arc_left arc_left_in
      arc_whole e =
          let number : arc_number b run (length out) ≡ number_in (write_arc (heading_in b) run (length out)) =
          first_pass _ _ (unless_true 20 _ (is_up_to _ _ there))
          ∙ first_pass _ _ (unless_true 2 _ counted)
          ∙ first_pass _ _ (unless_true 20 _ e)
          ∙ first_one _ in
          let is : write_arc (heading_in b) run (length out) ≡ arc_file b run (length out) =
          by_number (heading_in b) run (length out) ∙ ap (λ k. answered k (length (arc_bytes (heading_in b) run))) (sym number) in
          (is, ap (λ w. on_done w (lay out 0 (arc_bytes (heading_in b) run)) out) is)

-- ---- an empty room stays so
pub arc_none : (b run : List ℕ) → arc_left b run [] ≡ []
unfolding arc_left
arc_none b run = none_laid _ _

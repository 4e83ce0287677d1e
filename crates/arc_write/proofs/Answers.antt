-- How the tests of a writing follow one another: from the heading's own judgement to the room, and what an acceptance says.
-- Assumes nothing.
use Prim.Native.Nat.{ℕ, ◌/◌, ◌≤◌}
use mathlib.Core.Path.{◌≡◌, refl}
use mathlib.Core.List.{List}
use mathlib.Core.Bool.{Bool, true, false}
use native.Mathlib.Omega.{arith}
use lib.ListN.{length}
use Rattle.num_whole.specs.Tests.{pick}
use Rattle.num_whole.specs.Answer.{Answered, given, refused}
use Rattle.num_whole.proofs.Cases.{chosen, passed, no, up_to_true, less_false, both_first, both_second}
use Rattle.byte_words.specs.Words.{lay}
use Rattle.arc_heading.specs.Judge.{counts_ok, fields_ok, orders_ok, judged}
use Rattle.arc_heading.specs.declared.Heading.{Heading}
use Rattle.arc_heading.proofs.Sound.{counts_fit_lem}
use Rattle.byte_section.proofs.Writing.{done_new, done_old}
use Rattle.arc_kinds.specs.Kinds.{record_size}
use Rattle.arc_put.specs.Bytes.{record_count, arc_bytes, Writable, allowed}
use Rattle.arc_fields.specs.Sizes.{needed_for}
use Rattle.arc_write.specs.Write.{write_arc, arc_left_in}
use Rattle.arc_write.specs.Room.{room_answer}
use Rattle.arc_put.proofs.Laws.{arc_long}

-- a heading's refusal, or what follows where it is sound
abbrev on_sound : Answered (Unit {0}) → Answered ℕ → Answered ℕ
on_sound (given u) x = x
on_sound (refused k) x = refused k

through : (f o : Bool) (x : Answered ℕ)
    → pick f (pick o x (refused 5)) (refused 4) ≡ on_sound (pick f (pick o (given tt) (refused 5)) (refused 4)) x
unfolding pick
through true true x = refl
through true false x = refl
through false o x = refl

-- the numbers by their parts
pub counts_right : (h : Heading) (run : List ℕ) → allowed h run ≡ true → (counts_ok h ≡ true) × (length run / record_size h.parameters ≤ 65535)
unfolding allowed record_count
counts_right h run e = (both_first _ _ e, up_to_true _ _ (both_second _ _ e))

module _ (h : Heading) (run : List ℕ) (room : ℕ) where
  -- 2
  pub on_numbers : allowed h run ≡ false → refused 2 ≡ write_arc h run room
  unfolding write_arc
  on_numbers e = no _ _ _ e refl

  module _ (labels : length h.labels ≡ 50) (listed : length h.listed ≡ 16) where
    file_long_lem : counts_ok h ≡ true → length (arc_bytes h run) ≡ needed_for h.parameters h.stations (length run)
    file_long_lem e = let fit = counts_fit_lem h e in arc_long h (omega (arith, fit.0)) (omega (arith, fit.1)) run

    -- with the numbers right the heading's judgement decides, and then the room
    module _ (right : allowed h run ≡ true) where
      on_verdict : write_arc h run room ≡ on_sound (judged h) (room_answer h.parameters h.stations (length run) room)
      unfolding write_arc judged room_answer pick
      on_verdict = rw (file_long_lem (counts_right h run right).0, right, (counts_right h run right).0) (through (fields_ok h) (orders_ok h) _)

      pub on_refused : {k : ℕ} → judged h ≡ refused k → refused k ≡ write_arc h run room
      on_refused e = rw (on_verdict, e)

      pub on_sound_lem : judged h ≡ given tt → room_answer h.parameters h.stations (length run) room ≡ write_arc h run room
      on_sound_lem e = rw (on_verdict, e)

    -- what is known where the file is written
    pub writable : {n : ℕ} → write_arc h run room ≡ given n → Writable h run room
    unfolding write_arc
    writable e =
        let a = chosen 2 _ _ e in
        let b = chosen 4 _ _ a.1 in
        let c = chosen 5 _ _ b.1 in
        let d = chosen 1 _ _ c.1 in
        let right = counts_right h run a.0 in
        let counts = right.0 in
        let fit = counts_fit_lem h counts in
        record {
          few = fit.0;
          seats = fit.1;
          records = right.1;
          fits = omega (arith, file_long_lem counts, less_false _ _ (passed 20 _ _ d.1).0);
        }

-- what is left in the buffer
module _ (h : Heading) (run out : List ℕ) where
  pub left_kept : {k : ℕ} → write_arc h run (length out) ≡ refused k → out ≡ arc_left_in h run out
  unfolding arc_left_in
  left_kept e = done_old _ _ out e

  pub left_written : {n : ℕ} → write_arc h run (length out) ≡ given n → lay out 0 (arc_bytes h run) ≡ arc_left_in h run out
  unfolding arc_left_in
  left_written e = done_new _ _ out e

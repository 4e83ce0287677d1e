-- A file that a call read into a heading's room, written again from there with its own records: the same bytes.
-- Assumes nothing.
use Prim.Native.Nat.{ℕ, ◌≤◌}
use mathlib.Core.Path.{◌≡◌, refl, sym, ap, ◌∙◌}
use mathlib.Core.List.{List, ◌++◌}
use mathlib.Core.Bool.{true}
use native.Mathlib.Omega.{arith}
use lib.ListN.{length, drop}
use Rattle.num_whole.specs.Answer.{given, good}
use Rattle.num_whole.proofs.Cases.{yes, chosen, is_up_to, up_to_true, both_first}
use Rattle.byte_words.specs.Words.{lay}
use Rattle.byte_words.proofs.Words.{Bytes, length_lay}
use Rattle.refusal.proofs.Firsts.{unless_none}
use Rattle.arc_read.specs.Arc.{Arc, read_arc}
use Rattle.arc_put.specs.Bytes.{allowed}
use Rattle.arc_write.specs.Write.{write_arc, arc_left_in}
use Rattle.arc_write.proofs.Forth.{rewritten, rewritten_left}
use Rattle.call_heading.specs.Lent.{heading_long, heading_in, heading_bytes, has_heading}
use Rattle.call_heading.proofs.Back.{heading_stays}
use Rattle.call_files.specs.Reading.{read_roomy, read_number, heading_left}
use Rattle.call_files.specs.Arcs.{arc_file, arc_left}
use Rattle.call_files.proofs.Arcs.{arc_whole}

-- a heading whose own numbers are p and t, in so many bytes
whole_by : (b : List ℕ) (p t : ℕ) → (heading_in b).parameters ≡ p → (heading_in b).stations ≡ t → heading_long p t ≤ length b → has_heading b ≡ true
unfolding has_heading heading_in
whole_by b p t e f h = is_up_to _ _ (omega (arith, e, f))

module _ (s : List ℕ) (a : Arc) (e : read_arc s ≡ good a) (bounded : Bytes s) (room : List ℕ) (n : ℕ) (read : read_number (read_arc s) (length room) n ≡ 0) where
  enough : heading_long a.heading.parameters a.heading.stations ≤ length room
  unfolding read_number read_roomy
  enough = up_to_true _ _ (both_first _ _ (unless_none 20 _ (omega arith) (rw e at read)))

  -- what the room then has
  abbrev held : List ℕ
  held = heading_left (read_arc s) room n

  is_laid : held ≡ lay room 0 (heading_bytes a.heading)
  unfolding read_number heading_left
  is_laid = rw e (sym (yes _ _ _ (unless_none 20 _ (omega arith) (rw e at read)) refl))

  is_heading : heading_in held ≡ a.heading
  is_heading = ap heading_in is_laid ∙ heading_stays s a room e bounded enough

  as_long : length held ≡ length room
  as_long = ap length is_laid ∙ length_lay room 0 (heading_bytes a.heading)

  numbers_right : allowed (heading_in held) (drop a.start s) ≡ true
  unfolding write_arc
  numbers_right = ap (λ h. allowed h (drop a.start s)) is_heading ∙ (chosen 2 _ _ (rewritten s a e bounded (length s) (omega arith))).0

  pub read_then_written : (out : List ℕ) → length s ≤ length out
      → (arc_file held (drop a.start s) (length out) ≡ given (length s)) × (arc_left held (drop a.start s) out ≡ s ++ drop (length s) out)
  read_then_written out fits =
      let there = whole_by held _ _ (ap (λ h. h.parameters) is_heading) (ap (λ h. h.stations) is_heading) (omega (arith, enough, as_long)) in
      let put = arc_whole held (drop a.start s) out (omega (arith, enough, as_long)) numbers_right there in (
        sym put.0 ∙ ap (λ h. write_arc h (drop a.start s) (length out)) is_heading ∙ rewritten s a e bounded (length out) fits,
        sym put.1 ∙ ap (λ h. arc_left_in h (drop a.start s) out) is_heading ∙ rewritten_left s a e bounded out fits,
      )

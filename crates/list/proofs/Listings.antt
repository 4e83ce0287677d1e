-- The listing by what was read, its length, and what listing into lent room answers and leaves.
-- Assumes nothing.
use Prim.Native.Nat.{ℕ, ◌+◌, ◌-◌, ◌≤◌, ◌<◌}
use mathlib.Core.Path.{◌≡◌, refl, sym, ap, ap₂, ◌∙◌}
use mathlib.Core.List.{List, [], ◌++◌}
use native.Mathlib.Omega.{arith}
use lib.ListN.{length, take, drop, length-take}
use lib.Seq.{take-append_seam, take-add}
use Rattle.num_whole.specs.Answer.{given, refused, Judged, good, bad}
use Rattle.num_whole.proofs.Cases.{less_false}
use Rattle.byte_words.specs.Words.{lay}
use Rattle.byte_words.proofs.Words.{length_lay, lay_front}
use Rattle.refusal.proofs.Firsts.{when_none, first_none, answered_is}
use Rattle.byte_section.proofs.Writing.{on_short, on_written}
use Rattle.decimal.specs.Laid.{laid}
use Rattle.arc_heading.specs.Judge.{labels_of}
use Rattle.arc_heading.specs.declared.Heading.{Heading}
use Rattle.arc_heading.proofs.Sound.{sound}
use Rattle.arc_read.specs.Arc.{Arc, read_arc}
use Rattle.arc_read.proofs.Accepted.{heading_sound}
use Rattle.list_lines.proofs.Lengths.{refused_length, arc_length}
use Rattle.list_run.specs.Rooms.{text_most}
use Rattle.list_run.specs.Runs.{run_lines, listed, listing}
use Rattle.list.specs.Listing.{list_answer, list_left}

-- ---- the file's parts, one after another
pub part_next : (file : List ℕ) (at k : ℕ) → take at file ++ take (at + k - at) (drop at file) ≡ take (at + k) file
part_next file at k = let e : at + k - at ≡ k = omega arith in rw e (sym (take-add at k file))

few_labels : (h : Heading) → h.parameters ≤ 50 → length (labels_of h) ≤ 50
unfolding labels_of
few_labels h e = omega (arith, length-take h.parameters h.labels)

listed_length : (file : List ℕ) (x : Judged Arc) → read_arc file ≡ x → length (listed file x) ≤ text_most
unfolding run_lines
listed_length file (good a) e = arc_length _ _ _ _ _ _ (few_labels a.heading (sound _ (heading_sound file a e)).few)
listed_length file (bad number place) e = omega (arith, refused_length number place)

-- a length that always suffices
pub listing_length : (file : List ℕ) → length (listing file) ≤ text_most
unfolding listing
listing_length file = listed_length file (read_arc file) refl

-- a listing that is given lies within the room
pub answer_inside : (file : List ℕ) (room n : ℕ) → given n ≡ list_answer file room → n ≤ room
unfolding list_answer
answer_inside file room n e =
    let g = answered_is _ _ _ (sym e) in
    let short = when_none 20 _ (λ z. omega (arith, z)) (first_none _ [] (first_none 0 _ g.0).1).0 in
    omega (arith, less_false _ _ short, g.1)

-- ---- by way of room for the longest
module _ (file room : List ℕ) (long : length room ≡ text_most) {text : List ℕ} {n : ℕ} (e : (text, n) ≡ laid room 0 (listing file)) where
  count_is : n ≡ length (listing file)
  unfolding laid
  count_is = ap (λ p. p.1) e ∙ omega (arith, listing_length file)

  text_is : text ≡ lay room 0 (listing file)
  unfolding laid
  text_is = ap (λ p. p.0) e

  pub count_inside : n ≤ length text
  count_inside = omega (arith, count_is, listing_length file, ap length text_is ∙ length_lay room 0 (listing file))

  front_is : take n text ≡ listing file
  front_is =
      let fits : length (listing file) ≤ length room = omega (arith, listing_length file) in
      ap₂ take count_is (text_is ∙ lay_front room (listing file) fits) ∙ take-append_seam (listing file) _

  module _ (out : List ℕ) where
    pub list_short : length out < n → (refused 20 ≡ list_answer file (length out)) × (out ≡ list_left file out)
    unfolding list_answer list_left
    list_short h = on_short 0 (listing file) out refl (omega (arith, count_is))

    pub list_fits : {after : List ℕ} {k : ℕ} → n ≤ length out → (after, k) ≡ laid out 0 (take n text)
        → (given n ≡ list_answer file (length out)) × (after ≡ list_left file out)
    unfolding list_answer list_left laid
    list_fits h f =
        let put = on_written 0 (listing file) out refl (omega (arith, count_is)) in
        (ap given count_is ∙ put.0, ap (λ p. p.0) f ∙ ap (lay out 0) front_is ∙ put.1)

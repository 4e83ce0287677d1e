-- No listing is longer than 6,646 bytes: six kinds of lines, of fifty parameters and nineteen numbers at most.
-- Assumes nothing.
use Prim.Native.Nat.{ℕ, zero, suc, ◌+◌, ◌*◌, ◌≤◌}
use mathlib.Core.Bool.{Bool, true, false}
use mathlib.Core.List.{List, [], ◌∷◌, ◌++◌}
use native.Mathlib.Omega.{arith}
use lib.IntN.{ℤ, pos}
use lib.ListN.{length, get_or, length-append}
use Rattle.num_whole.specs.Tests.{pick}
use Rattle.decimal.specs.Decimal.{decimal, signed_decimal}
use Rattle.decimal.proofs.Back.{decimal_length, signed_length}
use Rattle.arc_heading.specs.Judge.{labels_of}
use Rattle.arc_heading.specs.declared.Heading.{Heading}
use Rattle.arc_limits.specs.declared.Label.{Label}
use Rattle.num_packed.specs.Sound.{entry}
use Rattle.take_marks.specs.Marks.{mark_count}
use Rattle.take_tally.specs.declared.Tally.{Tally}
use Rattle.take_state.specs.State.{seen_in}
use Rattle.list_lines.specs.Lines.{space, newline, arc_text, parameters_text, records_text, accepted_text, square_text, seen_text, unseen_text, one_line, two_line, refused_line, label_text, sums_text, parameter_line, parameter_lines, tally_line, tally_lines, arc_lines}

-- two pieces within a and b
joined : {A : Type 0} (l m : List A) (a b : ℕ) → length l ≤ a → length m ≤ b → length (l ++ m) ≤ a + b
joined l m a b p q = omega (arith, length-append l m)

pub one_length : (text : List ℕ) (n : ℕ) → length (one_line text n) ≤ length text + 21
unfolding one_line
one_length text n = omega (arith, length-append text (decimal n ++ newline), joined (decimal n) newline 20 1 (decimal_length n).1 (omega arith))

pub two_length : (before : List ℕ) (m : ℕ) (between : List ℕ) (n : ℕ) → length (two_line before m between n) ≤ length before + length between + 41
unfolding two_line one_line
two_length before m between n =
    omega (arith, length-append before (decimal m ++ one_line between n), length-append (decimal m) (one_line between n), (decimal_length m).1, one_length between n)

pub refused_length : (number place : ℕ) → length (refused_line number place) ≤ 53
unfolding refused_line
refused_length number place = two_length _ number _ place

label_length : (l : Label) → length (label_text l) ≤ 41
unfolding label_text
label_length l = joined (decimal l.kind) (space ++ decimal l.index) 20 21 (decimal_length _).1 (omega (arith, (decimal_length l.index).1))

sums_length : (d r : ℤ) (n : ℕ) → length (sums_text d r n) ≤ 65
unfolding sums_text
sums_length d r n =
    joined (signed_decimal d) _ 21 44 (signed_length d) (omega (arith, joined (signed_decimal r) (one_line space n) 21 22 (signed_length r) (one_length space n)))

seen_length : (b : Bool) → length (pick b seen_text unseen_text) ≤ 8
unfolding pick
seen_length true = omega arith
seen_length false = omega arith

parameter_length : (l : Label) (seen : Bool) (d r : ℤ) (n : ℕ) → length (parameter_line l seen d r n) ≤ 114
unfolding parameter_line
parameter_length l seen d r n = joined (label_text l) _ 41 73 (label_length l) (joined (pick seen seen_text unseen_text) _ 8 65 (seen_length seen) (sums_length d r n))

parameters_length : (m r : List ℤ) (marks : List ℕ) (i : ℕ) (ls : List Label) → length (parameter_lines m r marks i ls) ≤ length ls * 114
unfolding parameter_lines
parameters_length m r marks i [] = omega arith
parameters_length m r marks i (l ∷ ls) =
    omega (
      arith,
      length-append (parameter_line l (seen_in m i) (entry m i i) (get_or r i (pos 0)) (mark_count (get_or marks i 0))) (parameter_lines m r marks (suc i) ls),
      parameter_length l (seen_in m i) (entry m i i) (get_or r i (pos 0)) (mark_count (get_or marks i 0)),
      parameters_length m r marks (suc i) ls,
    )

none_or : (b : Bool) (line : List ℕ) (n : ℕ) → length line ≤ n → length (pick b [] line) ≤ n
unfolding pick
none_or true line n h = omega arith
none_or false line n h = h

tally_length : (table : List ℕ) (k : ℕ) → length (tally_line table k) ≤ 42
unfolding tally_line
tally_length table k = none_or _ _ 42 (two_length [] k space (get_or table k 0))

tallies_length : (table : List ℕ) (n k : ℕ) → length (tally_lines table n k) ≤ n * 42
unfolding tally_lines
tallies_length table zero k = omega arith
tallies_length table (suc n) k =
    omega (arith, length-append (tally_line table k) (tally_lines table n (suc k)), tally_length table k, tallies_length table n (suc k))

pub arc_length : (h : Heading) (n : ℕ) (table : List ℕ) (m r : List ℤ) (t : Tally) → length (labels_of h) ≤ 50 → length (arc_lines h n table m r t) ≤ 6646
unfolding arc_lines
arc_length h n table m r t few =
    joined (one_line arc_text _) _ 25 6621 (one_length arc_text _)
    (joined (one_line parameters_text _) _ 32 6589 (one_length parameters_text _)
    (joined (parameter_lines m r t.marks 0 (labels_of h)) _ 5700 889 (omega (arith, parameters_length m r t.marks 0 (labels_of h)))
    (joined (two_line records_text n accepted_text _) _ 59 830 (two_length records_text n accepted_text _)
    (joined (tally_lines table 19 1) _ 798 32 (tallies_length table 19 1) (one_length square_text t.square)))))

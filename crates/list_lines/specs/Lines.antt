-- Document 01, 'At the edges' 7: the lines of the arc program's listing, as bytes. "Parameter lines give diagonal and right side; refusal lines give
-- number and tally, ascending. With no records, line 3 is `3 0 unseen 0 0`. A refused file prints only `refused N at PLACE`". 02, #105: "The
-- listing adds the number after the right side: `3 0 seen 147456 50331648 1`", the number of stations that have a mark; it stands on unseen
-- lines too (docs/DECISIONS.md, R13). Every line ends in one newline; numbers with tally 0 are left out.
use Rattle.std.specs.Prelude.{ℕ, zero, suc, Bool, List, [], ◌∷◌, ◌++◌, ℤ, pos, length, get_or}
use Rattle.num_whole.specs.Tests.{same, pick}
use Rattle.decimal.specs.Decimal.{decimal, signed_decimal}
use Rattle.decimal.specs.Text.{ascii}
use Rattle.arc_limits.specs.declared.Label.{Label}
use Rattle.arc_heading.specs.Judge.{labels_of}
use Rattle.arc_heading.specs.declared.Heading.{Heading}
use Rattle.num_packed.specs.Sound.{entry}
use Rattle.take_marks.specs.Marks.{mark_count}
use Rattle.take_tally.specs.declared.Tally.{Tally}
use Rattle.take_state.specs.State.{seen_in}
use Rattle.take_laws.specs.Mix.{keep}

-- ---- the words
abbrev pub arc_text : List ℕ
arc_text = ascii "arc "

abbrev pub parameters_text : List ℕ
parameters_text = ascii "parameters "

abbrev pub seen_text : List ℕ
seen_text = ascii " seen "

abbrev pub unseen_text : List ℕ
unseen_text = ascii " unseen "

abbrev pub records_text : List ℕ
records_text = ascii "records "

abbrev pub accepted_text : List ℕ
accepted_text = ascii " accepted "

abbrev pub square_text : List ℕ
square_text = ascii "square sum "

abbrev pub refused_text : List ℕ
refused_text = ascii "refused "

abbrev pub at_text : List ℕ
at_text = ascii " at "

abbrev pub space : List ℕ
space = ascii " "

-- the end of a line
abbrev pub newline : List ℕ
newline = ascii "\n"

-- ---- lines
-- a text and a number: `arc 7`
unfoldable pub one_line : List ℕ → ℕ → List ℕ
one_line text n = text ++ (decimal n ++ newline)

-- a number behind a text, twice: `records 2 accepted 1`
unfoldable pub two_line : List ℕ → ℕ → List ℕ → ℕ → List ℕ
two_line before m between n = before ++ (decimal m ++ (between ++ (decimal n ++ newline)))

-- `refused N at PLACE`
unfoldable pub refused_line : ℕ → ℕ → List ℕ
refused_line number place = two_line refused_text number at_text place

-- kind and index: `3 0`
unfoldable pub label_text : Label → List ℕ
label_text l = decimal l.kind ++ (space ++ decimal l.index)

-- diagonal, right side and number of stations: `147456 50331648 1`, with the line's end
unfoldable pub sums_text : ℤ → ℤ → ℕ → List ℕ
sums_text diagonal right n = signed_decimal diagonal ++ (space ++ (signed_decimal right ++ one_line space n))

-- `3 0 seen 147456 50331648 1`
unfoldable pub parameter_line : Label → Bool → ℤ → ℤ → ℕ → List ℕ
parameter_line l seen diagonal right n = label_text l ++ (pick seen seen_text unseen_text ++ sums_text diagonal right n)

-- those of labels, the first of them parameter i, with sums and words of marks
unfoldable pub parameter_lines : List ℤ → List ℤ → List ℕ → ℕ → List Label → List ℕ
parameter_lines m r marks i [] = []
parameter_lines m r marks i (l ∷ ls) =
    parameter_line l (seen_in m i) (entry m i i) (get_or r i (pos 0)) (mark_count (get_or marks i 0)) ++ parameter_lines m r marks (suc i) ls

-- ---- what the records were answered: 0 for accepted, else the refusal's number
-- how many have an answer
unfoldable pub tally_of : ℕ → List ℕ → ℕ
tally_of k told = length (keep (λ n. same n k) told)

-- a record is accepted, 0, or refused with a number from 1 to 19
abbrev pub answers_most : ℕ
answers_most = 20

-- the table of these counts: how many have each of n answers from k up; all of them
unfoldable pub tallies_from : List ℕ → ℕ → ℕ → List ℕ
tallies_from told zero k = []
tallies_from told (suc n) k = tally_of k told ∷ tallies_from told n (suc k)

abbrev pub tallies_of : List ℕ → List ℕ
tallies_of told = tallies_from told answers_most 0

-- ---- the lines of a table
-- `18 1`, or nothing where no record has that number
unfoldable pub tally_line : List ℕ → ℕ → List ℕ
tally_line table k = pick (same (get_or table k 0) 0) [] (two_line [] k space (get_or table k 0))

-- those of so many numbers, from k up
unfoldable pub tally_lines : List ℕ → ℕ → ℕ → List ℕ
tally_lines table zero k = []
tally_lines table (suc n) k = tally_line table k ++ tally_lines table n (suc k)

-- ---- an arc
-- of a heading, so many records with the table of their answers, and the state after them: its sums, right sides, and its tally's marks and
-- square sum
unfoldable pub arc_lines : Heading → ℕ → List ℕ → List ℤ → List ℤ → Tally → List ℕ
arc_lines h n table m r t =
    one_line arc_text h.settings.arc
    ++ (one_line parameters_text h.parameters
    ++ (parameter_lines m r t.marks 0 (labels_of h)
    ++ (two_line records_text n accepted_text (get_or table 0 0)
    ++ (tally_lines table 19 1
    ++ one_line square_text t.square))))

-- The lines of a listing, piece by piece and line by line.
-- Assumes nothing.
use Prim.Native.Nat.{ℕ, suc, ◌+◌, ◌-◌, ◌≤◌, ◌<◌, min}
use mathlib.Core.Path.{◌≡◌, refl, sym, ap, ap₂, ◌∙◌}
use mathlib.Core.Bool.{Bool, not}
use mathlib.Core.List.{List, [], ◌++◌}
use native.Mathlib.Numerals.{add-one}
use native.Mathlib.Omega.{arith}
use lib.IntN.{ℤ, pos}
use lib.ListN.{length, get_or}
use Rattle.num_whole.specs.Tests.{pick}
use Rattle.num_whole.specs.Lists.{rest}
use Rattle.num_whole.proofs.Cases.{yes, no, is_same, not_same}
use Rattle.num_whole.proofs.Walks.{rest_end, rest_more}
use Rattle.decimal.specs.Decimal.{decimal, signed_decimal}
use Rattle.decimal.specs.Laid.{laid}
use Rattle.decimal.proofs.Laying.{laid_on, laid_then, laid_none}
use Rattle.arc_limits.specs.Limits.{no_label}
use Rattle.arc_limits.specs.declared.Label.{Label}
use Rattle.arc_heading.specs.Judge.{labels_of}
use Rattle.arc_heading.specs.declared.Heading.{Heading}
use Rattle.num_packed.specs.Triangle.{tri}
use Rattle.num_packed.specs.Sound.{entry, is_zero}
use Rattle.take_marks.specs.Marks.{mark_count}
use Rattle.take_tally.specs.declared.Tally.{Tally}
use Rattle.take_state.specs.State.{seen_in}
use Rattle.list_lines.specs.Lines.{space, newline, arc_text, parameters_text, records_text, accepted_text, square_text, arc_lines, seen_text, unseen_text, one_line, two_line, label_text, sums_text, parameter_line, parameter_lines, tally_line, tally_lines}

-- ---- a line of pieces
module _ (s : List ℕ) (at : ℕ) {a b : List ℕ} {i j : ℕ} {p : List ℕ × ℕ} where
  pub one_laid : (text : List ℕ) (n : ℕ) → (a, i) ≡ laid s at text → (b, j) ≡ laid a i (decimal n) → p ≡ laid b j newline → p ≡ laid s at (one_line text n)
  unfolding one_line
  one_laid text n e f g = laid_on s at text _ e (laid_on a i _ _ f g)

  pub two_laid : (before : List ℕ) (m : ℕ) (between : List ℕ) (n : ℕ) → (a, i) ≡ laid s at before → (b, j) ≡ laid a i (decimal m)
      → p ≡ laid b j (one_line between n) → p ≡ laid s at (two_line before m between n)
  unfolding one_line two_line
  two_laid before m between n e f g = laid_on s at before _ e (laid_on a i _ _ f g)

  pub label_laid : (l : Label) → (a, i) ≡ laid s at (decimal l.kind) → (b, j) ≡ laid a i space → p ≡ laid b j (decimal l.index) → p ≡ laid s at (label_text l)
  unfolding label_text
  label_laid l e f g = laid_on s at _ _ e (laid_on a i _ _ f g)

  -- a signed number comes as the word that it is in
  pub sums_laid : {c : List ℕ} {k : ℕ} (d r : ℤ) (n : ℕ) {x y : ℤ} → x ≡ d → y ≡ r → (a, i) ≡ laid s at (signed_decimal x) → (b, j) ≡ laid a i space
      → (c, k) ≡ laid b j (signed_decimal y) → p ≡ laid c k (one_line space n) → p ≡ laid s at (sums_text d r n)
  unfolding sums_text
  sums_laid {c} {k} d r n u v e f g h =
      laid_on s at _ _ (e ∙ ap (λ z. laid s at (signed_decimal z)) u) (laid_on a i _ _ f (laid_on b j _ _ (g ∙ ap (λ z. laid b j (signed_decimal z)) v) h))

  pub parameter_laid : (l : Label) (seen : Bool) (d r : ℤ) (n : ℕ) {shown : Bool} {x y : ℤ} {k : ℕ} → shown ≡ seen → x ≡ d → y ≡ r → k ≡ n → (a, i) ≡ laid s at (label_text l)
      → (b, j) ≡ laid a i (pick shown seen_text unseen_text) → p ≡ laid b j (sums_text x y k) → p ≡ laid s at (parameter_line l seen d r n)
  unfolding parameter_line
  parameter_laid l seen d r n {k = k} t u v w e f g =
      laid_on s at _ _ e
      (laid_on a i _ _ (f ∙ ap (λ z. laid a i (pick z seen_text unseen_text)) t) (g ∙ ap₂ (λ z q. laid b j (sums_text z q k)) u v ∙ ap (λ z. laid b j (sums_text d r z)) w))

-- ---- a line for each parameter: what is left of them, i done
module _ (m r : List ℤ) (marks : List ℕ) (l : List Label) (n i : ℕ) where
  pub parameters_end : n ≤ i → parameter_lines m r marks i (rest l n i) ≡ []
  unfolding parameter_lines
  parameters_end e = rw (rest_end l n i e)

  pub parameters_turn : n ≤ length l → i < n
      → parameter_line (get_or l i no_label) (seen_in m i) (entry m i i) (get_or r i (pos 0)) (mark_count (get_or marks i 0)) ++ parameter_lines m r marks (i + 1) (rest l n (i + 1))
      ≡ parameter_lines m r marks i (rest l n i)
  unfolding parameter_lines
  parameters_turn fits more = rw (rest_more l n i no_label fits more, add-one)

-- its line as the code finds it: the diagonal at its place k
pub row_laid : (s : List ℕ) (at : ℕ) (l : Label) (m r : List ℤ) (i n : ℕ) {k : ℕ} {x y : ℤ} {p : List ℕ × ℕ} → k ≡ tri i + i
    → x ≡ get_or m k (pos 0) → y ≡ get_or r i (pos 0) → p ≡ laid s at (parameter_line l (not (is_zero x)) x y n)
    → p ≡ laid s at (parameter_line l (seen_in m i) (entry m i i) (get_or r i (pos 0)) n)
unfolding seen_in
row_laid s at l m r i n e x y f =
    f ∙ ap₂ (λ v w. laid s at (parameter_line l (not (is_zero v)) v w n)) (x ∙ ap (λ j. get_or m j (pos 0)) e) y

-- ---- tallies
-- no line for a number that no record has
module _ (table : List ℕ) (k : ℕ) where
  pub tally_none : {n : ℕ} → n ≡ get_or table k 0 → n ≡ 0 → [] ≡ tally_line table k
  unfolding tally_line
  tally_none e z = yes _ _ _ (is_same _ _ (sym e ∙ z)) refl

  pub tally_some : {n : ℕ} → n ≡ get_or table k 0 → (n ≡ 0 → ⊥) → two_line [] k space n ≡ tally_line table k
  unfolding tally_line
  tally_some e z = no _ _ _ (not_same _ _ (λ y. z (e ∙ y))) (ap (two_line [] k space) e)

  -- the numbers from k up to 19
  pub tallies_end : 20 ≤ k → tally_lines table (20 - k) k ≡ []
  unfolding tally_lines
  tallies_end h = let z : 20 - k ≡ 0 = omega arith in rw z

  pub tallies_turn : k < 20 → tally_line table k ++ tally_lines table (20 - (k + 1)) (k + 1) ≡ tally_lines table (20 - k) k
  unfolding tally_lines
  tallies_turn h = let z : 20 - k ≡ suc (20 - (k + 1)) = omega arith in rw (z, add-one)

-- ---- lines laid by a loop
-- a line laid, and the lines that are left: still the whole
pub lines_turn : (s : List ℕ) (at : ℕ) (line : List ℕ) (more : List ℕ) {left : List ℕ} {all : List ℕ × ℕ} {t : List ℕ} {n : ℕ} → (t, n) ≡ laid s at line → line ++ more ≡ left
    → laid s at left ≡ all → laid t n more ≡ all
lines_turn s at line more e f g = laid_then s at line more e ∙ ap (laid s at) f ∙ g

-- none left
pub lines_end : (s : List ℕ) (at : ℕ) {left : List ℕ} {all : List ℕ × ℕ} {n : ℕ} → n ≡ min at (length s) → left ≡ [] → laid s at left ≡ all → (s, n) ≡ all
lines_end s at e f g = ap (λ k. (s, k)) e ∙ laid_none s at ∙ ap (laid s at) (sym f) ∙ g

-- ---- an arc
pub arc_laid : (s : List ℕ) (h : Heading) (count : ℕ) (table : List ℕ) (m r : List ℤ) (t : Tally) {n : ℕ} {s₁ s₂ s₃ s₄ s₅ : List ℕ} {a b c d e : ℕ} {p : List ℕ × ℕ}
    → n ≡ get_or table 0 0 → (s₁, a) ≡ laid s 0 (one_line arc_text h.settings.arc) → (s₂, b) ≡ laid s₁ a (one_line parameters_text h.parameters)
    → (s₃, c) ≡ laid s₂ b (parameter_lines m r t.marks 0 (labels_of h)) → (s₄, d) ≡ laid s₃ c (two_line records_text count accepted_text n)
    → (s₅, e) ≡ laid s₄ d (tally_lines table 19 1) → p ≡ laid s₅ e (one_line square_text t.square) → p ≡ laid s 0 (arc_lines h count table m r t)
unfolding arc_lines
arc_laid s h count table m r t {s₃ = s₃} {c = c} accepted one two three four five six =
    laid_on s 0 _ _ one (laid_on _ _ _ _ two (laid_on _ _ _ _ three
    (laid_on _ _ _ _ (four ∙ ap (λ k. laid s₃ c (two_line records_text count accepted_text k)) accepted) (laid_on _ _ _ _ five six))))

-- A file that was read, or refused: what the reader's answer says of the definition, and what a call leaves.
-- Assumes nothing.
use Rattle.std.specs.Prelude.{Result, Ok, Err, IfOk}
use Prim.Native.Nat.{ℕ, ◌≤◌}
use mathlib.Core.Path.{◌≡◌, refl, sym, ap, ◌∙◌}
use mathlib.Core.List.{List, [], ◌∷◌}
use native.Mathlib.Omega.{arith}
use Rattle.num_whole.specs.Answer.{Judged, good, bad, given, refused}
use Rattle.arc_heading.proofs.Sound.{counts_fit_lem}
use Rattle.arc_read.specs.Arc.{Arc, read_arc}
use Rattle.arc_read.proofs.Accepted.{heading_passed}
use Rattle.norm_read.specs.Normal.{Normal, numbers_of}
use Rattle.norm_read.specs.declared.NormalRead.{NormalRead}
use Rattle.byte_section.proofs.Walk.{not_bad, good_same}
use Rattle.byte_section.specs.Section.{and_then}
use Rattle.refusal.specs.Told.{told_placed}
use Rattle.refusal.specs.declared.Fault.{Fault}
use Rattle.call_files.specs.Reading.{refusal_place}
use Rattle.wheloruka.specs.Reading.{form_number, normal_values}

-- no file is both read and refused
apart : {A : Type 0} {a : A} {number place : ℕ} → bad number place ≡ good a → ⊥
apart e = let z : ◌≡◌ {A = ℕ} 0 1 = cc in omega arith

-- ---- an arc file that was read has counts within their limits
pub arc_fits : (s : List ℕ) (r : Result Arc Fault) → told_placed r ≡ read_arc s → IfOk r (λ a. (a.heading.parameters ≤ 50) × (a.heading.stations ≤ 16))
arc_fits s (Ok a) told = counts_fit_lem a.heading (heading_passed s a (sym told)).counts
arc_fits s (Err f) told = tt

-- ---- a normal file
pub normal_good : (j : Judged Normal) (r : NormalRead) (form : ℕ) → numbers_of j ≡ good r → form ≡ form_number r.is_small
    → normal_values j ≡ given (r.arcs ∷ r.parameters ∷ r.matrix ∷ r.rights ∷ r.totals ∷ r.stored ∷ form ∷ [])
unfolding normal_values
normal_good (good x) r form told f =
    ap (λ (x : NormalRead). given (x.arcs ∷ x.parameters ∷ x.matrix ∷ x.rights ∷ x.totals ∷ x.stored ∷ form_number x.is_small ∷ [])) (good_same told)
    ∙ ap (λ n. given (r.arcs ∷ r.parameters ∷ r.matrix ∷ r.rights ∷ r.totals ∷ r.stored ∷ n ∷ [])) (sym f)
normal_good (bad number place) r form told f = absurd (not_bad (sym told))

pub normal_bad : (j : Judged Normal) {number place : ℕ} → numbers_of j ≡ bad number place → normal_values j ≡ refused number
unfolding normal_values
normal_bad (good x) e = absurd (not_bad e)
normal_bad (bad number place) e = cc

pub normal_place : (j : Judged Normal) (r : Judged NormalRead) → r ≡ numbers_of j → refusal_place r ≡ refusal_place j
unfolding refusal_place
normal_place (good x) r told = ap refusal_place told
normal_place (bad number place) r told = ap refusal_place told

-- What a record that fits its heading is, and what an accepted one is, by named parts; the bounds of the terms that an accepted record adds.
-- Assumes nothing.
use Prim.Native.Nat.{ℕ, zero, suc, ◌+◌, ◌-◌, ◌*◌, ◌^◌, ◌≤◌, ◌<◌}
use mathlib.Core.Path.{◌≡◌, refl, sym, ap, ◌∙◌, subst}
use mathlib.Core.Bool.{Bool, true, false}
use mathlib.Core.List.{List, [], ◌∷◌, ◌++◌}
use native.Mathlib.Nat.{add-zero}
use native.Mathlib.Omega.{arith}
use borrow.Author.Tests.{ltb-true, ltb-false}
use lib.Dec.{ltb}
use lib.IntN.{ℤ, pos, negsuc, nat_abs, ◌*ℤ◌, *ℤ_comm}
use lib.ListN.{length, get_or, take, length-map, length-append}
use lib.Seq.{length-take-le}
use mir.Syntax.{w16}
use mir.Val.{to_z, sel}
use Rattle.num_whole.specs.Tests.{same, pick}
use Rattle.num_whole.specs.Answer.{Answered, given, refused}
use Rattle.num_whole.specs.Sums.{Within}
use Rattle.num_whole.proofs.Cases.{apart, by_cases, yes, no, less_true, less_false, between_true}
use Rattle.num_whole.proofs.Ints.{nat_abs_*, *-assoc, square}
use Rattle.refusal.specs.First.{number_in, first, value_or}
use Rattle.refusal.proofs.Firsts.{first_none_left, first_none, first_pass, when_none, unless_none}
use Rattle.byte_words.specs.Words.{word, signed_word}
use Rattle.arc_heading.specs.Judge.{find_from}
use Rattle.arc_kinds.specs.Kinds.{record_size}
use Rattle.unit_types.specs.Types.{is_type, row_of_type}
use Rattle.unit_types.specs.declared.TypeRow.{TypeRow}
use Rattle.unit_types.proofs.Rows.{by_rows}
use Rattle.unit_residual.specs.Residuals.{residual_by, residual_of}
use Rattle.unit_residual.proofs.Sizes.{residual_small}
use Rattle.num_limits.specs.Capacities.{weight_top}
use Rattle.take_rules.specs.Rules.{sigma_ok, weight_of, clock_ok, in_window, passes_edit}
use Rattle.take_rules.proofs.Weights.{weight_low, weight_high}
use Rattle.take_rules.proofs.Bounds.{scaled_bound, weighted_bound, square_bound}
use Rattle.num_packed.specs.Triangle.{times, tri, columns}
use Rattle.num_packed.proofs.Entries.{times_at, triangle_at, times_within, triangle_within}
use Rattle.arc_record.specs.Record.{record_in, partials_from, partials_in}
use Rattle.arc_record.proofs.Fills.{length_partials}
use Rattle.take_tally.specs.Tally.{count_of, last_times, square_unit}
use Rattle.take_tally.specs.declared.Tally.{Tally}
use Rattle.take_state.specs.State.{State}
use Rattle.take_laws.specs.Taking.{Frame, station_in, station_row, moment_of, stamp, type_column, residual_in, residual, scaled, weight_in, length_tests, record_tests, station_tests, judged_by, record_number, record_answer, matrix_terms, right_terms, square_term}

-- ---- a record that fits: nothing but the tally is left to be asked
pub record Fits (f : Frame) (b : List ℕ) : Type 0 where
  pub long : length b ≡ record_size f.parameters
  pub listed : station_in f b ≡ given (station_row f b)
  pub row : station_row f b < length f.numbers
  pub type : is_type (record_in b).kind ≡ true
  pub sigma : (1 ≤ (record_in b).sigma) × ((record_in b).sigma ≤ 256)
  pub clock : clock_ok (record_in b).day (record_in b).ms ≡ true
  pub window : in_window f.settings.first f.settings.days (moment_of f b) ≡ true
  pub time : moment_of f b ≡ pos (stamp f b)
  pub residual_is : residual_in b ≡ given (residual b)
  pub small : nat_abs (residual b) ≤ 2 ^ 41
  pub column : type_column b < 10
  pub step : (row_of_type (record_in b).kind).step ≤ 256
  pub product : (row_of_type (record_in b).kind).step * (row_of_type (record_in b).kind).factor ≡ 256

-- a number that is found is found at a place of the list
pub record Found (l : List ℕ) (i : ℕ) (x : Answered ℕ) : Type 0 where
  pub at : ℕ
  pub is : x ≡ given at
  pub from : i ≤ at
  pub inside : at < i + length l

pub found : (number i : ℕ) (l : List ℕ) → number_in (find_from number i l) ≡ 0 → Found l i (find_from number i l)
unfolding find_from number_in
found number i [] e = absurd (omega arith)
found number i (x ∷ l) e =
    by_cases (same x number)
    (λ t. let here : find_from number i (x ∷ l) ≡ given i = sym (yes _ _ _ t refl) in record { at = i; is = here; from = omega arith; inside = omega arith })
    (λ t. let on : find_from number i (x ∷ l) ≡ find_from number (i + 1) l = sym (no _ _ _ t refl) in
    let r = found number (i + 1) l (ap number_in (sym on) ∙ e) in
    record { at = r.at; is = on ∙ r.is; from = omega (arith, r.from); inside = omega (arith, r.inside) })

-- and one that is not is refused by 10
pub not_found : (number i : ℕ) (l : List ℕ) → (number_in (find_from number i l) ≡ 0 → ⊥) → number_in (find_from number i l) ≡ 10
unfolding find_from number_in
not_found number i [] e = refl
not_found number i (x ∷ l) e =
    by_cases (same x number)
    (λ t. absurd (e (ap number_in (sym (yes (same x number) (given i) (find_from number (i + 1) l) t refl)))))
    (λ t. let on : find_from number i (x ∷ l) ≡ find_from number (i + 1) l = sym (no _ _ _ t refl) in
    ap number_in on ∙ not_found number (i + 1) l (λ z. e (ap number_in on ∙ z)))

-- a residual without a refusal is a number
told : (c d : Bool) (z : ℤ) → number_in (pick c (pick d (given z) (refused 16)) (refused 15)) ≡ 0
    → pick c (pick d (given z) (refused 16)) (refused 15) ≡ given (value_or (pos 0) (pick c (pick d (given z) (refused 16)) (refused 15)))
unfolding pick number_in value_or
told true true z e = refl
told true false z e = absurd (omega arith)
told false d z e = absurd (omega arith)

pub residual_given : (b : List ℕ) → number_in (residual_in b) ≡ 0 → residual_in b ≡ given (residual b)
unfolding residual_in residual residual_of residual_by
residual_given b e = told _ _ _ e

-- in the window no time is below 0
pub window_time : (first days : ℕ) (t : ℤ) → in_window first days t ≡ true → t ≡ pos (nat_abs t)
unfolding in_window
window_time first days (pos n) e = refl
window_time first days (negsuc n) e = absurd (apart (sym e))

-- each row of the table: a step is at most 256, and a step times F is 256
pub record Stepped (r : TypeRow) : Type 0 where
  pub high : r.step ≤ 256
  pub product : r.step * r.factor ≡ 256

pub stepped : (t : ℕ) → Stepped (row_of_type t)
stepped =
    by_rows Stepped
    (record { high = omega arith; product = refl })
    (record { high = omega arith; product = refl })
    (record { high = omega arith; product = refl })
    (record { high = omega arith; product = refl })
    (record { high = omega arith; product = refl })
    (record { high = omega arith; product = refl })

-- ---- what the tests say
module _ (f : Frame) (b : List ℕ) where
  -- 1 and 3 are not given: the length is right
  pub length_right : first (length_tests f b) ≡ 0 → length b ≡ record_size f.parameters
  unfolding length_tests
  length_right e =
      let l = first_none _ _ e in
      let short = less_false _ _ (when_none 1 _ (omega arith) l.0) in
      let surplus = less_false _ _ (when_none 3 _ (omega arith) (first_none _ _ l.1).0) in
      omega arith

  -- 10 is not given: the station has a row
  pub station_listed : number_in (station_in f b) ≡ 0 → (station_in f b ≡ given (station_row f b)) × (station_row f b < length f.numbers)
  unfolding station_in station_row value_or
  station_listed e =
      let place = found (record_in b).station 0 f.numbers e in
      let here : station_row f b ≡ place.at = ap (value_or 16) place.is in
      (place.is ∙ ap given (sym here), omega (arith, place.inside))

pub fits : (f : Frame) (b : List ℕ) → first (first (length_tests f b) ∷ first (record_tests f b) ∷ []) ≡ 0 → Fits f b
unfolding record_tests sigma_ok is_type type_column stamp residual_in
fits f b e =
    let a = first_none _ _ e in
    let r₀ = first_none _ _ (first_none _ _ a.1).0 in
    let r₁ = first_none _ _ r₀.1 in
    let r₂ = first_none _ _ r₁.1 in
    let r₃ = first_none _ _ r₂.1 in
    let r₄ = first_none _ _ r₃.1 in
    let r₅ = first_none _ _ r₄.1 in
    let place = station_listed f b r₀.0 in
    let kind = unless_none 11 _ (omega arith) r₁.0 in
    let window = unless_none 14 _ (omega arith) r₄.0 in
    let told = residual_given b r₅.0 in
    record {
      long = length_right f b a.0;
      listed = place.0;
      row = place.1;
      type = kind;
      sigma = between_true _ _ _ (unless_none 12 _ (omega arith) r₂.0);
      clock = unless_none 13 _ (omega arith) r₃.0;
      window = window;
      time = window_time _ _ _ window;
      residual_is = told;
      small = residual_small _ _ told;
      column = let k = between_true _ _ _ kind in omega arith;
      step = (stepped _).high;
      product = (stepped _).product;
    }

-- ---- a record that is accepted, by the last time of its station and type and its station's count
pub record Accepted (f : Frame) (b : List ℕ) (last count : ℕ) : Type 0 where
  pub fits : Fits f b
  pub later : last < stamp f b
  pub edit : passes_edit f.settings.level (record_in b).sigma (row_of_type (record_in b).kind).step (residual b) ≡ true
  pub seat : count < 256

pub accepted : (f : Frame) (b : List ℕ) (last count : ℕ) → judged_by f b last count ≡ 0 → Accepted f b last count
unfolding judged_by station_tests
accepted f b last count e =
    let a = first_none _ _ e in
    let c = first_none _ _ a.1 in
    let s₀ = first_none _ _ (first_none _ _ c.1).0 in
    let s₁ = first_none _ _ s₀.1 in
    let s₂ = first_none _ _ s₁.1 in
    record {
      fits = fits f b (first_pass _ _ a.0 ∙ first_pass _ _ c.0 ∙ first_none_left);
      later = less_true _ _ (unless_none 17 _ (omega arith) s₀.0);
      edit = unless_none 18 _ (omega arith) s₁.0;
      seat = less_true _ _ (unless_none 19 _ (omega arith) s₂.0);
    }

-- the same by a tally, and by a state
abbrev pub AcceptedBy : Frame → List ℕ → Tally → Type 0
AcceptedBy f b t = Accepted f b (get_or (last_times t (station_row f b)).times (type_column b) 0) (count_of t (station_row f b))

pub accepted_by : (f : Frame) (b : List ℕ) (t : Tally) → record_number f b t ≡ 0 → AcceptedBy f b t
unfolding record_number
accepted_by f b t e = accepted f b _ _ e

pub accepted_in_lem : (f : Frame) (b : List ℕ) (s : State) → record_answer f b s ≡ 0 → AcceptedBy f b s.tally
unfolding record_answer
accepted_in_lem f b s e = accepted_by f b s.tally e

-- ---- the terms of a record
-- sixteen bits are within 2 ^ 15, whatever the bytes
signed_small : (n : ℕ) → nat_abs (to_z w16 n) ≤ 2 ^ 15
signed_small n =
    (elim (ltb n (2 ^ 15)) as (λ t. ltb n (2 ^ 15) ≡ t → nat_abs (sel t (pos n) (negsuc (2 ^ 16 - suc n))) ≤ 2 ^ 15) [
      | true ↦ λ t. omega (arith, ltb-true n (2 ^ 15) t)
      | false ↦ λ t. omega (arith, ltb-false n (2 ^ 15) t)
    ])
    refl

partials_small : (n : ℕ) (b : List ℕ) (at : ℕ) → Within (2 ^ 15) (partials_from n b at)
unfolding partials_from signed_word
partials_small zero b at i = omega arith
partials_small (suc n) b at zero = signed_small (word 2 b at)
partials_small (suc n) b at (suc i) = partials_small n b (at + 2) i

pub partials_within : (p : ℕ) (b : List ℕ) → Within (2 ^ 15) (partials_in p b)
unfolding partials_in
partials_within p b = partials_small p b 32

pub length_partials_in : (p : ℕ) (b : List ℕ) → length (partials_in p b) ≡ p
unfolding partials_in
length_partials_in p b = length_partials p b 32

-- how many terms there are
length_columns : (w : ℤ) (a : List ℤ) (n j : ℕ) → j + n ≤ length a → tri j + length (columns w a j n) ≡ tri (j + n)
unfolding columns tri
length_columns w a zero j h = omega (arith, ap tri (add-zero j))
length_columns w a (suc n) j h =
    let col = times (w *ℤ get_or a j (pos 0)) (take (suc j) a) in
    let one : length col ≡ suc j = length-map (take (suc j) a) (λ x. (w *ℤ get_or a j (pos 0)) *ℤ x) ∙ length-take-le (suc j) a (omega arith) in
    let all : length (col ++ columns w a (suc j) n) ≡ length col + length (columns w a (suc j) n) = length-append col (columns w a (suc j) n) in
    let rest : tri j + suc j + length (columns w a (suc j) n) ≡ tri (suc j + n) = length_columns w a n (suc j) (omega arith) in
    let same : suc j + n ≡ j + suc n = omega arith in
    let end : tri (suc j + n) ≡ tri (j + suc n) = ap tri same in
    omega arith

pub length_matrix_terms : (f : Frame) (b : List ℕ) → length (matrix_terms f b) ≡ tri f.parameters
unfolding matrix_terms tri
length_matrix_terms f b =
    let a = partials_in f.parameters b in
    let long : length a ≡ f.parameters = length_partials_in f.parameters b in
    let all : tri 0 + length (matrix_terms f b) ≡ tri (0 + length a) = length_columns (pos (weight_in b)) a (length a) 0 (omega arith) in
    let same : 0 + length a ≡ f.parameters = omega arith in
    let end : tri (0 + length a) ≡ tri f.parameters = ap tri same in
    omega arith

pub length_right_terms : (f : Frame) (b : List ℕ) → length (right_terms f b) ≡ f.parameters
unfolding right_terms
length_right_terms f b = length-map (partials_in f.parameters b) _ ∙ length_partials_in f.parameters b

-- each of them, as the paper writes it
pub matrix_at : (f : Frame) (b : List ℕ) (i j : ℕ) → i ≤ j → j < f.parameters
    → get_or (matrix_terms f b) (tri j + i) (pos 0) ≡ pos (weight_in b) *ℤ (get_or (partials_in f.parameters b) i (pos 0) *ℤ get_or (partials_in f.parameters b) j (pos 0))
unfolding matrix_terms
matrix_at f b i j h l =
    let a = partials_in f.parameters b in
    let w = pos (weight_in b) in
    let x = get_or a i (pos 0) in
    let y = get_or a j (pos 0) in
    triangle_at w a i j h (omega (arith, length_partials_in f.parameters b)) ∙ *-assoc w y x ∙ ap (λ z. w *ℤ z) (*ℤ_comm y x)

pub right_at : (f : Frame) (b : List ℕ) (i : ℕ)
    → get_or (right_terms f b) i (pos 0) ≡ pos (weight_in b) *ℤ (get_or (partials_in f.parameters b) i (pos 0) *ℤ scaled b)
unfolding right_terms
right_at f b i =
    let a = partials_in f.parameters b in
    let w = pos (weight_in b) in
    let x = get_or a i (pos 0) in
    times_at (w *ℤ scaled b) a i ∙ *-assoc w (scaled b) x ∙ ap (λ z. w *ℤ z) (*ℤ_comm (scaled b) x)

pub square_at : (b : List ℕ) → pos (square_term b) ≡ pos (weight_in b) *ℤ (scaled b *ℤ scaled b)
unfolding square_term
square_at b = sym (ap (λ z. pos (weight_in b) *ℤ z) (square (scaled b)))

-- how large they are
pub record Terms (f : Frame) (b : List ℕ) : Type 0 where
  pub heavy : 1 ≤ weight_in b
  pub light : weight_in b ≤ weight_top
  pub near : nat_abs (scaled b) ≤ 655360
  pub weighted : nat_abs (pos (weight_in b) *ℤ scaled b) ≤ 2 ^ 28
  pub square : square_term b ≤ square_unit
  pub matrix : Within (2 ^ 46) (matrix_terms f b)
  pub rights : Within (2 ^ 43) (right_terms f b)

pub terms : (f : Frame) (b : List ℕ) (last count : ℕ) → f.settings.level ≤ 100 → Accepted f b last count → Terms f b
unfolding weight_in scaled square_term matrix_terms right_terms
terms f b last count k a =
    let s = (record_in b).sigma in
    let p = a.fits.sigma in
    let near = scaled_bound f.settings.level s (row_of_type (record_in b).kind).step (row_of_type (record_in b).kind).factor (residual b) k a.fits.product a.edit in
    let weighted = subst (λ (n : ℕ). n ≤ 2 ^ 28) (sym (nat_abs_* (pos (weight_of s)) (scaled b))) (weighted_bound s (nat_abs (scaled b)) p.0 p.1 near) in
    record {
      heavy = weight_low s p.0 p.1;
      light = weight_high s p.0 p.1;
      near = omega arith;
      weighted = weighted;
      square = square_bound s (nat_abs (scaled b)) p.0 p.1 near;
      matrix = triangle_within (pos (weight_of s)) (partials_in f.parameters b) (weight_high s p.0 p.1) (partials_within f.parameters b);
      rights = times_within (pos (weight_of s) *ℤ scaled b) (partials_in f.parameters b) (2 ^ 28) (2 ^ 15) weighted (partials_within f.parameters b);
    }

-- One record fitted to its heading: the tests in their order, the parts of the record, and what is kept of it.
-- Assumes nothing.
use Prim.Native.Nat.{ℕ, ◌+◌, ◌-◌, ◌≤◌, ◌<◌}
use mathlib.Core.Path.{◌≡◌, refl, sym, ap, ◌∙◌}
use mathlib.Core.List.{List, [], ◌∷◌}
use native.Mathlib.Omega.{arith}
use native.Mathlib.Numerals.{add-one}
use lib.ListN.{length, get_or, drop, drop_of_length-le}
use lib.Seq.{drop-cons}
use Rattle.num_whole.specs.Answer.{Answered, given, refused}
use Rattle.num_whole.specs.Tests.{same, pick}
use Rattle.num_limits.specs.Capacities.{last_day, day_after_last}
use Rattle.days_leap.specs.Leap.{last_ms}
use lib.IntN.{ℤ, pos}
use mathlib.Core.Bool.{Bool, true, false}
use Rattle.num_whole.proofs.Cases.{yes, no, is_same, not_same, is_less, not_less, by_cases, chosen, refused_not, between_true, up_to_true, both_first, both_second}
use Rattle.arc_limits.specs.Limits.{window_ok, settings_ok}
use Rattle.refusal.specs.Number.{number_of}
use Rattle.refusal.specs.First.{unless, number_in, first, answered, value_or}
use Rattle.refusal.specs.declared.Refusal.{Refusal}
use Rattle.refusal.proofs.Apart.{some, not_none}
use Rattle.refusal.proofs.Firsts.{when_true, when_false, unless_true, unless_false, first_none_left, first_one, first_pass, first_stop, answered_given, answered_refused, number_given, number_refused}
use Rattle.arc_heading.specs.Judge.{find_from}
use Rattle.arc_kinds.specs.Kinds.{record_size}
use Rattle.unit_types.specs.Types.{is_type, row_of_type, row_at}
use Rattle.unit_measure.specs.Measures.{reading, measured_as}
use Rattle.unit_measure.specs.declared.Reading.{Reading}
use Rattle.unit_residual.specs.Residuals.{residual_of}
use Rattle.arc_limits.specs.declared.Settings.{Settings}
use lib.Ieee.{Float}
use Rattle.unit_types.specs.declared.TypeRow.{TypeRow}
use Rattle.take_rules.specs.Rules.{sigma_ok, clock_ok, time_of}
use Rattle.arc_record.specs.Record.{record_in}
use Rattle.arc_record.specs.declared.Record.{Record}
use Rattle.take_laws.specs.Taking.{Frame, station_in, station_row, moment_of, stamp, type_column, residual_in, residual, length_tests, record_tests}
use Rattle.take_fit.specs.Fit.{fit_of, fitted, timed}
use Rattle.take_fit.specs.declared.Fit.{Fit}

-- ---- the search for a station's number
module _ (l : List ℕ) (number i : ℕ) where
  pub find_end : length l ≤ i → refused 10 ≡ find_from number i (drop i l)
  unfolding find_from
  find_end e = rw (drop_of_length-le l e)

  module _ (more : i < length l) where
    next : drop i l ≡ get_or l i 0 ∷ drop (i + 1) l
    next = rw add-one (drop-cons l i 0 more)

    pub find_here : get_or l i 0 ≡ number → given i ≡ find_from number i (drop i l)
    unfolding find_from
    find_here e = rw next (yes _ _ _ (is_same _ _ e) refl)

    pub find_on : (get_or l i 0 ≡ number → ⊥) → find_from number i (drop i l) ≡ find_from number (i + 1) (drop (i + 1) l)
    unfolding find_from
    find_on e = rw next (sym (no _ _ _ (not_same _ _ e) refl))

-- ---- an answer by a list of refusals
module _ {A : Type 0} (a : A) (l : List ℕ) where
  pub stopped : (k : ℕ) → 1 ≤ k → first l ≡ k → refused k ≡ answered (first l) a
  stopped k some e = rw e (answered_refused k a (λ z. omega arith))

-- the time that a record's bytes give it
unfoldable pub time_in : Frame → List ℕ → Answered ℕ
time_in f b = timed f.settings (record_in b).day (record_in b).ms (get_or f.corrections (station_row f b) (pos 0))

given_not : {A : Type 0} {a : A} {k : ℕ} → given a ≡ refused k → ⊥
given_not e = refused_not e refl

same_number : {A : Type 0} {j k : ℕ} → ◌≡◌ {A = Answered A} (refused j) (refused k) → j ≡ k
unfolding number_in
same_number e = ap number_in e

-- 13 and 14 in their order
clock_window : {A : Type 0} (c w : Bool) (x : A) (k : ℕ) → pick c (pick w (given x) (refused 14)) (refused 13) ≡ refused k
    → (l : List ℕ) → first (unless 13 c ∷ unless 14 w ∷ l) ≡ k
unfolding pick
clock_window true true x k e l = absurd (given_not e)
clock_window true false x k e l =
    let h = unless_false 14 false refl in
    first_pass _ _ (unless_true 13 true refl) ∙ first_stop _ _ (λ z. omega (arith, h)) ∙ h ∙ same_number e
clock_window false w x k e l =
    let h = unless_false 13 false refl in
    first_stop _ _ (λ z. omega (arith, h)) ∙ h ∙ same_number e

-- ---- 10 to 16
module _ (f : Frame) (b : List ℕ) where
  pub no_station_lem : (e : Refusal) → station_in f b ≡ refused (number_of e) → refused (number_of e) ≡ answered (first (record_tests f b)) (fit_of f b)
  unfolding record_tests
  no_station_lem e h =
      let k = number_refused _ _ h in
      stopped (fit_of f b) (record_tests f b) (number_of e) (some e) (first_stop _ _ (λ z. not_none e (sym k ∙ z)) ∙ k)

  module _ (i : ℕ) (listed : station_in f b ≡ given i) where
    pub no_type : is_type (record_in b).kind ≡ false → refused 11 ≡ answered (first (record_tests f b)) (fit_of f b)
    unfolding record_tests
    no_type e =
        let k = unless_false 11 _ e in
        stopped (fit_of f b) (record_tests f b) 11 (omega arith) (first_pass _ _ (number_given _ i listed) ∙ first_stop _ _ (λ z. omega (arith, k)) ∙ k)

    module _ (type : is_type (record_in b).kind ≡ true) where
      to_sigma : first (record_tests f b) ≡ first (drop 2 (record_tests f b))
      unfolding record_tests
      to_sigma = first_pass _ _ (number_given _ i listed) ∙ first_pass _ _ (unless_true 11 _ type)

      pub no_sigma : sigma_ok (record_in b).sigma ≡ false → refused 12 ≡ answered (first (record_tests f b)) (fit_of f b)
      unfolding record_tests
      no_sigma e =
          let k = unless_false 12 _ e in
          stopped (fit_of f b) (record_tests f b) 12 (omega arith) (to_sigma ∙ first_stop _ _ (λ z. omega (arith, k)) ∙ k)

      module _ (sigma : sigma_ok (record_in b).sigma ≡ true) where
        to_clock : first (record_tests f b) ≡ first (drop 3 (record_tests f b))
        unfolding record_tests
        to_clock = to_sigma ∙ first_pass _ _ (unless_true 12 _ sigma)

        pub no_time : (e : Refusal) → time_in f b ≡ refused (number_of e) → refused (number_of e) ≡ answered (first (record_tests f b)) (fit_of f b)
        unfolding record_tests time_in timed moment_of
        no_time e h = stopped (fit_of f b) (record_tests f b) (number_of e) (some e) (to_clock ∙ clock_window _ _ _ (number_of e) h _)

        module _ (t : ℕ) (time : time_in f b ≡ given t) where
          to_residual : first (record_tests f b) ≡ first (drop 5 (record_tests f b))
          unfolding record_tests time_in timed moment_of
          to_residual =
              let a = chosen 13 _ _ time in
              let d = chosen 14 _ _ a.1 in
              to_clock ∙ first_pass _ _ (unless_true 13 _ a.0) ∙ first_pass _ _ (unless_true 14 _ d.0)

          pub no_residual : (e : Refusal) → residual_in b ≡ refused (number_of e) → refused (number_of e) ≡ answered (first (record_tests f b)) (fit_of f b)
          unfolding record_tests
          no_residual e h =
              let k = number_refused _ _ h in
              stopped (fit_of f b) (record_tests f b) (number_of e) (some e) (to_residual ∙ first_stop _ _ (λ z. not_none e (sym k ∙ z)) ∙ k)

          pub it_fits : (r : ℤ) → residual_in b ≡ given r → given (fit_of f b) ≡ answered (first (record_tests f b)) (fit_of f b)
          unfolding record_tests
          it_fits r h = answered_given _ (fit_of f b) (to_residual ∙ first_pass _ _ (number_given _ r h) ∙ first_none_left)

-- ---- 1 and 3, then what was said of the record
module _ (f : Frame) (b : List ℕ) where
  pub too_short : length b < record_size f.parameters → refused 1 ≡ fitted f b
  unfolding fitted length_tests
  too_short e =
      let k = when_true 1 _ (is_less _ _ e) in
      let m : first (length_tests f b) ≡ 1 = first_stop _ _ (λ z. omega (arith, k)) ∙ k in
      stopped (fit_of f b) _ 1 (omega arith) (first_stop _ _ (λ z. omega (arith, m)) ∙ m)

  pub too_long : record_size f.parameters < length b → refused 3 ≡ fitted f b
  unfolding fitted length_tests
  too_long e =
      let k = when_true 3 _ (is_less _ _ e) in
      let m : first (length_tests f b) ≡ 3 = first_pass _ _ (when_false 1 _ (not_less _ _ (omega arith))) ∙ first_stop _ _ (λ z. omega (arith, k)) ∙ k in
      stopped (fit_of f b) _ 3 (omega arith) (first_stop _ _ (λ z. omega (arith, m)) ∙ m)

  pub whole_fit : length b ≡ record_size f.parameters → fitted f b ≡ answered (first (record_tests f b)) (fit_of f b)
  unfolding fitted length_tests
  whole_fit e =
      let m : first (length_tests f b) ≡ 0 =
      first_pass _ _ (when_false 1 _ (not_less _ _ (omega arith))) ∙ first_pass _ _ (when_false 3 _ (not_less _ _ (omega arith))) ∙ first_none_left in
      ap (λ k. answered k (fit_of f b)) (first_pass _ _ m ∙ first_one _)

-- ---- what a record r says is what the bytes say that it was decoded from
module _ (f : Frame) (b : List ℕ) (r : Record) (e : r ≡ record_in b) where
  pub station_is : find_from r.station 0 f.numbers ≡ station_in f b
  unfolding station_in
  station_is = ap (λ x. find_from x.station 0 f.numbers) e

  pub type_is : is_type r.kind ≡ is_type (record_in b).kind
  type_is = ap (λ x. is_type x.kind) e

  pub sigma_is : sigma_ok r.sigma ≡ sigma_ok (record_in b).sigma
  sigma_is = ap (λ x. sigma_ok x.sigma) e

  pub residual_is : residual_of (reading r.kind r.observed r.computed) ≡ residual_in b
  unfolding residual_in
  residual_is = ap (λ x. residual_of (reading x.kind x.observed x.computed)) e

  module _ (place : ℕ) (listed : station_in f b ≡ given place) where
    pub place_is : place ≡ station_row f b
    unfolding station_row value_or
    place_is = ap (value_or 16) (sym listed)

    module _ (correction : ℤ) (corrected : get_or f.corrections place (pos 0) ≡ correction) where
      pub time_is : (a : Settings) → f.settings ≡ a → timed a r.day r.ms correction ≡ time_in f b
      unfolding time_in
      time_is a s =
          ap (λ x. timed a x.day x.ms correction) e
          ∙ ap (λ x. timed x (record_in b).day (record_in b).ms correction) (sym s)
          ∙ ap (λ z. timed f.settings (record_in b).day (record_in b).ms z) (sym corrected ∙ ap (λ i. get_or f.corrections i (pos 0)) place_is)

  stamp_is : (t : ℕ) → time_in f b ≡ given t → t ≡ stamp f b
  unfolding time_in timed stamp moment_of value_or time_of
  stamp_is t h = ap (value_or t) (sym (chosen 14 _ _ (chosen 13 _ _ h).1).1)

  pub fit_is : (place : ℕ) → station_in f b ≡ given place → (row : TypeRow) → row ≡ row_of_type r.kind → (t : ℕ) → time_in f b ≡ given t → (q : ℤ) → residual_in b ≡ given q
      → record { place = place; column = r.kind - 1; time = t; sigma = r.sigma; residual = q; step = row.step; factor = row.factor } ≡ fit_of f b
  unfolding fit_of type_column residual value_or
  fit_is place listed row known t time q left =
      λ i. record {
        place = place_is place listed i;
        column = (e i).kind - 1;
        time = stamp_is t time i;
        sigma = (e i).sigma;
        residual = ap (value_or (pos 0)) (sym left) i;
        step = ((known ∙ ap (λ x. row_of_type x.kind) e) i).step;
        factor = ((known ∙ ap (λ x. row_of_type x.kind) e) i).factor;
      }

-- ---- a record of a listed station and of a type, in the code's order
module _ (a : Settings) (place : ℕ) (correction : ℤ) (row : TypeRow) (r : Record) (type : is_type r.kind ≡ true)
    (f : Frame) (b : List ℕ) (s : f.settings ≡ a) (listed : station_in f b ≡ given place) (corrected : get_or f.corrections place (pos 0) ≡ correction)
    (known : row ≡ row_of_type r.kind) (e : r ≡ record_in b) where
  abbrev here : Answered Fit → Type 0
  here x = x ≡ answered (first (record_tests f b)) (fit_of f b)

  typed : is_type (record_in b).kind ≡ true
  typed = sym (type_is f b r e) ∙ type

  pub listed_sigma : sigma_ok r.sigma ≡ false → here (refused 12)
  listed_sigma h = no_sigma f b place listed typed (sym (sigma_is f b r e) ∙ h)

  module _ (sigma : sigma_ok r.sigma ≡ true) where
    passed : sigma_ok (record_in b).sigma ≡ true
    passed = sym (sigma_is f b r e) ∙ sigma

    pub listed_time : (k : Refusal) → refused (number_of k) ≡ timed a r.day r.ms correction → here (refused (number_of k))
    listed_time k h = no_time f b place listed typed passed k (sym (h ∙ time_is f b r e place listed correction corrected a s))

    module _ (t : ℕ) (at : given t ≡ timed a r.day r.ms correction) where
      time : time_in f b ≡ given t
      time = sym (at ∙ time_is f b r e place listed correction corrected a s)

      left : (x : Answered ℤ) → x ≡ pick (is_type r.kind) (residual_of (reading r.kind r.observed r.computed)) (refused 11) → residual_in b ≡ x
      left x h = sym (h ∙ sym (yes _ _ _ type refl) ∙ residual_is f b r e)

      pub listed_residual : (k : Refusal) → refused (number_of k) ≡ pick (is_type r.kind) (residual_of (reading r.kind r.observed r.computed)) (refused 11) → here (refused (number_of k))
      listed_residual k h = no_residual f b place listed typed passed t time k (left _ h)

      pub listed_fit : (q : ℤ) → given q ≡ pick (is_type r.kind) (residual_of (reading r.kind r.observed r.computed)) (refused 11)
          → here (given (record { place = place; column = r.kind - 1; time = t; sigma = r.sigma; residual = q; step = row.step; factor = row.factor }))
      listed_fit q h =
          ap given (fit_is f b r e place listed row known t time q (left _ h)) ∙ it_fits f b place listed typed passed t time q (left _ h)

-- ---- the residual of a measurement
module _ (kind : ℕ) (o c : Float) where
  pub measured_residual : (m : Reading) → given m ≡ measured_as kind o c → residual_of m ≡ pick (is_type kind) (residual_of (reading kind o c)) (refused 11)
  unfolding measured_as value_or
  measured_residual m e =
      let a = chosen 11 _ _ (sym e) in
      yes _ _ _ a.0 (ap (λ x. residual_of (value_or m x)) (sym a.1))

  pub measured_none : (k : ℕ) → refused k ≡ measured_as kind o c → refused k ≡ pick (is_type kind) (residual_of (reading kind o c)) (refused 11)
  unfolding measured_as
  measured_none k e =
      by_cases (is_type kind)
      (λ t. absurd (given_not (yes _ _ _ t refl ∙ sym e)))
      (λ t. no _ _ _ t (ap refused (same_number (e ∙ sym (no _ _ _ t refl)))))

-- ---- what the tests leave small enough for the machine's numbers
pub clock_small : (day ms : ℕ) → clock_ok day ms ≡ true → (day ≤ last_day) × (ms ≤ last_ms day)
unfolding clock_ok
clock_small day ms e = ((between_true _ _ _ (both_first _ _ e)).1, up_to_true _ _ (both_second _ _ e))

pub settings_window : (a : Settings) → settings_ok a ≡ true → (a.first ≤ day_after_last) × (a.first + a.days ≤ day_after_last)
unfolding settings_ok window_ok
settings_window a e =
    let w = both_second _ _ (both_second _ _ e) in
    let h = up_to_true _ _ (both_second _ _ (both_second _ _ w)) in
    (omega (arith, h), h)

-- where a number is found is within the list
pub found_inside : (number i k : ℕ) (l : List ℕ) → find_from number i l ≡ given k → k < i + length l
unfolding find_from value_or
found_inside number i k [] e = absurd (refused_not refl e)
found_inside number i k (x ∷ l) e =
    by_cases (same x number)
    (λ t. let h : i ≡ k = ap (value_or i) (yes _ _ _ t refl ∙ e) in omega arith)
    (λ t. let h : k < i + 1 + length l = found_inside number (i + 1) k l (no _ _ _ t refl ∙ e) in omega arith)

-- ---- the row of a type
pub row_found : (kind : ℕ) (x : TypeRow) → given x ≡ row_at kind → (is_type kind ≡ true) × (x ≡ row_of_type kind)
unfolding row_at value_or
row_found kind x e = let a = chosen 11 _ _ (sym e) in (a.0, ap (value_or x) (sym a.1))

pub row_none : (kind : ℕ) (r : Refusal) → refused (number_of r) ≡ row_at kind → (is_type kind ≡ false) × (number_of r ≡ 11)
unfolding row_at
row_none kind r e =
    by_cases (is_type kind)
    (λ t. absurd (given_not (yes _ _ _ t refl ∙ sym e)))
    (λ t. (t, same_number (e ∙ sym (no _ _ _ t refl))))

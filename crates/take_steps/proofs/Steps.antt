-- What the judging of a record says of its answer, of what it adds, and of the state after it.
-- Assumes nothing.
use Rattle.std.specs.Prelude.{Result, Ok, Err}
use Prim.Native.Nat.{ℕ, ◌+◌, ◌*◌, ◌≤◌, ◌<◌, ◌^◌}
use mathlib.Core.Path.{◌≡◌, refl, sym, ap, ◌∙◌, subst}
use mathlib.Core.List.{List, [], ◌∷◌}
use native.Mathlib.Omega.{arith}
use native.Mathlib.Nat.{le_refl}
use lib.IntN.{ℤ, pos, nat_abs, ◌*ℤ◌}
use lib.ListN.{length, get_or}
use Rattle.num_whole.specs.Answer.{given, refused}
use Rattle.num_whole.specs.Tests.{same}
use Rattle.num_whole.specs.Sums.{plus, Within}
use Rattle.num_whole.proofs.Adding.{length_plus}
use Rattle.num_whole.proofs.Cases.{by_cases, same_true, same_false, between_true, both_first, both_second}
use Rattle.arc_limits.specs.Limits.{settings_ok}
use Rattle.arc_limits.specs.declared.Settings.{Settings}
use Rattle.refusal.specs.Number.{number_of}
use Rattle.refusal.specs.First.{number_in, first, answered}
use Rattle.refusal.specs.Told.{told}
use Rattle.refusal.specs.declared.Refusal.{Refusal}
use Rattle.refusal.proofs.Apart.{not_none}
use Rattle.refusal.proofs.Firsts.{first_none, first_one, first_pass, first_stop, answered_is, answered_not, answered_given, answered_refused, answered_by}
use Rattle.unit_types.specs.Types.{row_of_type}
use Rattle.unit_types.proofs.Rows.{by_rows}
use Rattle.num_packed.specs.Triangle.{times, triangle_terms, tri}
use Rattle.arc_record.specs.Record.{partials_in}
use Rattle.num_limits.specs.Capacities.{accepted_most}
use Rattle.take_tally.specs.Tally.{count_of, last_times, tally_with, square_unit, square_top}
use Rattle.take_state.specs.State.{State, state_of}
use Rattle.take_fit.specs.Fit.{fit_of, fitted}
use Rattle.take_judge.specs.Judged.{terms_by, judged_late}
use Rattle.take_fit.specs.declared.Fit.{Fit}
use Rattle.take_judge.specs.declared.Terms.{Terms}
use Rattle.take_laws.specs.Taking.{Frame, frame, scaled, weight_in, station_tests, judged_by, record_number, record_answer, matrix_terms, right_terms, square_term, book, record_step}
use Rattle.take_laws.proofs.Accepted as known
use Rattle.take_laws.proofs.Kept.{Shaped, step_keeps, step_books, step_leaves, shaped_step, kept_step, matrix_within, rights_within, square_fits}
use Rattle.take_steps.specs.Runs.{Prepared}

-- ---- three numbers in order, of which the first two are judged together
stop_two : (a b c k : ℕ) → first (a ∷ b ∷ []) ≡ k → (k ≡ 0 → ⊥) → first (a ∷ b ∷ c ∷ []) ≡ k
stop_two a b c k e some =
    by_cases (same a 0)
    (λ t. let z = same_true a 0 t in
    let h : b ≡ k = sym (first_one b) ∙ sym (first_pass a _ z) ∙ e in
    first_pass a _ z ∙ first_stop b _ (λ n. some (sym h ∙ n)) ∙ h)
    (λ t. let n = same_false a 0 t in first_stop a _ n ∙ sym (first_stop a _ n) ∙ e)

pass_two : (a b c : ℕ) → first (a ∷ b ∷ []) ≡ 0 → first (a ∷ b ∷ c ∷ []) ≡ c
pass_two a b c e =
    let x = first_none a _ e in
    let y = first_none b _ x.1 in
    first_pass a _ x.0 ∙ first_pass b _ y.0 ∙ first_one c

-- ---- the answer
module _ (f : Frame) (b : List ℕ) (s : State) where
  pub fit_refused : (e : Refusal) → fitted f b ≡ refused (number_of e) → record_answer f b s ≡ number_of e
  unfolding fitted record_answer record_number judged_by
  fit_refused e h = stop_two _ _ _ (number_of e) (answered_not _ _ _ h) (not_none e)

  module _ (x : Fit) (fit : fitted f b ≡ given x) where
    is_fit : fit_of f b ≡ x
    unfolding fitted
    is_fit = (answered_is _ _ _ fit).1

    -- what the record is judged by in the state
    abbrev last : ℕ
    last = get_or (last_times s.tally x.place).times x.column 0

    abbrev count : ℕ
    count = count_of s.tally x.place

    late : record_answer f b s ≡ first (station_tests f b last count)
    unfolding fitted record_answer record_number judged_by fit_of
    late =
        pass_two _ _ _ (answered_is _ _ _ fit).0
        ∙ ap (λ (y : Fit). first (station_tests f b (get_or (last_times s.tally y.place).times y.column 0) (count_of s.tally y.place))) is_fit

    pub late_refused : (e : Refusal) → judged_late f.settings.level x last count ≡ refused (number_of e) → record_answer f b s ≡ number_of e
    unfolding judged_late station_tests fit_of
    late_refused e h = late ∙ answered_not _ _ _ (subst (λ y. judged_late f.settings.level y last count ≡ refused (number_of e)) (sym is_fit) h)

    module _ (y : Terms) (h : judged_late f.settings.level x last count ≡ given y) where
      taken : (first (station_tests f b last count) ≡ 0) × (terms_by (fit_of f b).sigma (fit_of f b).residual (fit_of f b).factor ≡ y)
      unfolding judged_late station_tests fit_of
      taken = answered_is _ _ _ (subst (λ z. judged_late f.settings.level z last count ≡ given y) (sym is_fit) h)

      pub late_taken : record_answer f b s ≡ 0
      late_taken = late ∙ taken.0

      weight_is : weight_in b ≡ y.weight
      unfolding fit_of terms_by weight_in
      weight_is = ap (λ z. z.weight) taken.1

      side_is : pos (weight_in b) *ℤ scaled b ≡ y.side
      unfolding fit_of terms_by weight_in scaled
      side_is = ap (λ z. z.side) taken.1

      square_is : square_term b ≡ y.square
      unfolding fit_of terms_by weight_in scaled square_term
      square_is = ap (λ z. z.square) taken.1

      -- what is booked
      pub booked : book f b s ≡ state_of (plus s.matrix (triangle_terms (pos y.weight) (partials_in f.parameters b))) (plus s.rights (times y.side (partials_in f.parameters b))) (tally_with s.tally x.place x.column x.time y.square (partials_in f.parameters b))
      unfolding book matrix_terms right_terms tally_with fit_of
      booked =
          λ i. state_of
          (plus s.matrix (triangle_terms (pos (weight_is i)) (partials_in f.parameters b)))
          (plus s.rights (times (side_is i) (partials_in f.parameters b)))
          (tally_with s.tally (is_fit i).place (is_fit i).column (is_fit i).time (square_is i) (partials_in f.parameters b))

      pub seat_free : count < 256
      unfolding record_answer record_number fit_of
      seat_free = subst (λ (z : Fit). count_of s.tally z.place < 256) is_fit (known.accepted_in_lem f b s late_taken).seat

      -- and its size
      module _ (level : f.settings.level ≤ 100) where
        bounds : known.Terms f b
        unfolding record_answer record_number
        bounds = known.terms f b _ _ level (known.accepted_in_lem f b s late_taken)

        pub weight_small : y.weight ≤ 65536
        weight_small = subst (λ n. n ≤ 65536) weight_is bounds.light

        pub side_small : nat_abs y.side ≤ 2 ^ 31
        side_small = let h : nat_abs y.side ≤ 2 ^ 28 = subst (λ n. nat_abs n ≤ 2 ^ 28) side_is bounds.weighted in omega arith

        pub square_small : y.square ≤ square_unit
        square_small = subst (λ n. n ≤ square_unit) square_is bounds.square

-- ---- what a fit leaves to the machine's numbers
pub record Ready (numbers : ℕ) (x : Fit) : Type 0 where
  pub place : x.place < numbers
  pub column : x.column < 10
  pub some : 1 ≤ x.sigma
  pub few : x.sigma ≤ 256
  pub step : x.step ≤ 256
  pub factor : x.factor ≤ 4
  pub product : x.step * x.factor ≡ 256
  pub small : nat_abs x.residual ≤ 2 ^ 41

factor_few : (t : ℕ) → (row_of_type t).factor ≤ 4
factor_few = by_rows (λ r. r.factor ≤ 4) (omega arith) (omega arith) (omega arith) (omega arith) (omega arith) (omega arith)

pub ready : (f : Frame) (b : List ℕ) (x : Fit) → fitted f b ≡ given x → Ready (length f.numbers) x
unfolding fitted fit_of
ready f b x e =
    let a = answered_is _ _ _ e in
    let k = known.fits f b a.0 in
    subst (Ready (length f.numbers)) a.1
    (record {
      place = k.row;
      column = k.column;
      some = k.sigma.0;
      few = k.sigma.1;
      step = k.step;
      factor = factor_few _;
      product = k.product;
      small = k.small;
    })

-- ---- what stays while records are taken
module _ (a : Settings) (ns : List ℕ) (cs : List ℤ) (s : State) (h : Prepared a ns cs s) where
  pub level_few : a.level ≤ 100
  unfolding settings_ok
  level_few = (between_true _ _ _ (both_first _ _ (both_second _ _ h.settings))).1

  pub matrix_small : Within (2 ^ 62) s.matrix
  matrix_small = matrix_within (length ns) (length s.rights) s h.sound h.counts h.matrix

  pub rights_small : Within (2 ^ 62) s.rights
  rights_small = rights_within (length ns) (length s.rights) s h.sound h.counts refl

  pub square_room : s.tally.square ≤ square_top accepted_most
  square_room = square_fits (length ns) (length s.rights) s h.sound h.counts

  module _ (b : List ℕ) where
    abbrev f : Frame
    f = frame a (length s.rights) ns cs

    shape : Shaped f s
    shape = record { matrix = omega (arith, h.matrix); rights = le_refl _; counts = h.counts; rows = h.rows; marks = h.marks }

    pub same_rights : length (record_step f b s).rights ≡ length s.rights
    unfolding book
    same_rights = step_keeps f b s (λ u. length u.rights ≡ length s.rights) (λ e. length_plus s.rights _) refl

    same_matrix : length (record_step f b s).matrix ≡ length s.matrix
    unfolding book
    same_matrix = step_keeps f b s (λ u. length u.matrix ≡ length s.matrix) (λ e. length_plus s.matrix _) refl

    pub prepared_step : Prepared a ns cs (record_step f b s)
    prepared_step =
        let k = shaped_step f b s shape in
        let v = kept_step f b s (record { level = level_few; few = h.few; seats = h.seats }) shape h.sound in
        record {
          settings = h.settings;
          seats = h.seats;
          corrected = h.corrected;
          few = rw same_rights h.few;
          matrix = same_matrix ∙ h.matrix ∙ ap tri (sym same_rights);
          counts = k.counts;
          marks = k.marks;
          rows = k.rows;
          sound = rw same_rights v;
        }

-- ---- the number of an answer that has a number
pub answered_number : {A : Type 0} (k : ℕ) (a : A) → number_in (answered k a) ≡ k
unfolding number_in
answered_number k a =
    by_cases (same k 0)
    (λ t. let z = same_true k 0 t in ap number_in (sym (answered_given k a z)) ∙ sym z)
    (λ t. ap number_in (sym (answered_refused k a (same_false k 0 t))))

-- ---- a record taken, by what the code's parts told
abbrev by : Settings → List ℕ → List ℤ → State → Frame
by a ns cs s = frame a (length s.rights) ns cs

-- a refusal, which leaves the state
abbrev Refused : Frame → List ℕ → State → Refusal → Type 0
Refused f b s e = (refused (number_of e) ≡ answered (record_answer f b s) (tt {0})) × (s ≡ record_step f b s)

refuses : (f : Frame) (b : List ℕ) (s : State) (e : Refusal) → record_answer f b s ≡ number_of e → Refused f b s e
refuses f b s e n = (answered_by _ tt e n, sym (step_leaves f b s (λ z. not_none e (sym n ∙ z))))

module _ {a : Settings} {ns : List ℕ} {cs : List ℤ} {s : State} (h : Prepared a ns cs s) (b : List ℕ) {v : Result Fit Refusal} (fit : told v ≡ fitted (by a ns cs s) b) where
  pub refused_fit : {e : Refusal} → v ≡ Err e → Refused (by a ns cs s) b s e
  refused_fit {e} is = refuses (by a ns cs s) b s e (fit_refused (by a ns cs s) b s e (sym fit ∙ ap told is))

  module _ {x : Fit} (is : v ≡ Ok x) where
    fits_so : fitted (by a ns cs s) b ≡ given x
    fits_so = sym fit ∙ ap told is

    pub ready_of : Ready (length ns) x
    ready_of = ready (by a ns cs s) b x fits_so

    pub place_small : x.place < 16
    place_small = omega (arith, ready_of.place, h.seats)

    module _ {w : Result Terms Refusal} (late : told w ≡ judged_late a.level x (get_or (last_times s.tally x.place).times x.column 0) (count_of s.tally x.place)) where
      pub refused_late : {e : Refusal} → w ≡ Err e → Refused (by a ns cs s) b s e
      refused_late {e} stop = refuses (by a ns cs s) b s e (late_refused (by a ns cs s) b s x fits_so e (sym late ∙ ap told stop))

      module _ {y : Terms} (got : w ≡ Ok y) where
        late_so : judged_late a.level x (get_or (last_times s.tally x.place).times x.column 0) (count_of s.tally x.place) ≡ given y
        late_so = sym late ∙ ap told got

        pub weight_of_few : y.weight ≤ 65536
        weight_of_few = weight_small (by a ns cs s) b s x fits_so y late_so (level_few a ns cs s h)

        pub side_of_few : nat_abs y.side ≤ 2 ^ 31
        side_of_few = side_small (by a ns cs s) b s x fits_so y late_so (level_few a ns cs s h)

        pub square_of_few : s.tally.square + y.square < 2 ^ 64
        square_of_few = omega (arith, square_small (by a ns cs s) b s x fits_so y late_so (level_few a ns cs s h), square_room a ns cs s h)

        pub count_of_few : count_of s.tally x.place < 256
        count_of_few = seat_free (by a ns cs s) b s x fits_so y late_so

        pub accepts : given (tt {0}) ≡ answered (record_answer (by a ns cs s) b s) (tt {0})
        accepts = answered_given _ tt (late_taken (by a ns cs s) b s x fits_so y late_so)

        pub books : state_of (plus s.matrix (triangle_terms (pos y.weight) (partials_in (length s.rights) b))) (plus s.rights (times y.side (partials_in (length s.rights) b))) (tally_with s.tally x.place x.column x.time y.square (partials_in (length s.rights) b)) ≡ record_step (by a ns cs s) b s
        books = sym (step_books (by a ns cs s) b s (late_taken (by a ns cs s) b s x fits_so y late_so) ∙ booked (by a ns cs s) b s x fits_so y late_so)

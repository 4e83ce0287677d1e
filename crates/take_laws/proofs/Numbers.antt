-- The numbers that a record may be answered, heading and state found good: 0, 1, 3 and 10 to 19, and no other.
-- Assumes nothing.
use Prim.Native.Nat.{ℕ}
use mathlib.Core.Path.{◌≡◌, refl, sym, subst}
use mathlib.Core.Bool.{Bool, true, false}
use mathlib.Core.List.{List, [], ◌∷◌}
use lib.IntN.{ℤ}
use Rattle.num_whole.specs.Tests.{up_to, same, pick, both, either, between}
use Rattle.num_whole.specs.Answer.{given, refused}
use Rattle.num_whole.proofs.Cases.{by_cases, same_true, same_false}
use Rattle.refusal.specs.First.{when, unless, number_in, first}
use Rattle.refusal.proofs.Firsts.{when_true, when_false, unless_true, unless_false, first_pass, first_stop}
use Rattle.unit_residual.specs.Residuals.{residual_of, residual_by}
use Rattle.take_state.specs.State.{State}
use Rattle.take_laws.specs.Taking.{Frame, station_in, residual_in, length_tests, record_tests, station_tests, judged_by, record_number, record_answer}
use Rattle.num_whole.specs.Lists.{Each}
use Rattle.take_laws.specs.Never.{is_answer}
use Rattle.take_laws.proofs.Accepted.{not_found}

abbrev Good : ℕ → Type 0
Good n = is_answer n ≡ true

nothing : Good 0
unfolding is_answer either up_to
nothing = refl

ten : Good 10
unfolding is_answer either up_to same between both
ten = refl

-- one test, and the first of several
first_good : (l : List ℕ) → Each Good l → Good (first l)
unfolding first
first_good [] h = nothing
first_good (k ∷ l) h =
    by_cases (same k 0)
    (λ t. subst Good (sym (first_pass k l (same_true k 0 t))) (first_good l h.1))
    (λ t. subst Good (sym (first_stop k l (same_false k 0 t))) h.0)

when_good : (k : ℕ) (b : Bool) → Good k → Good (when k b)
when_good k b h = by_cases b (λ t. subst Good (sym (when_true k b t)) h) (λ t. subst Good (sym (when_false k b t)) nothing)

unless_good : (k : ℕ) (b : Bool) → Good k → Good (unless k b)
unless_good k b h = by_cases b (λ t. subst Good (sym (unless_true k b t)) nothing) (λ t. subst Good (sym (unless_false k b t)) h)

station_good : (f : Frame) (b : List ℕ) → Good (number_in (station_in f b))
unfolding station_in
station_good f b =
    by_cases (same (number_in (station_in f b)) 0)
    (λ t. subst Good (sym (same_true _ _ t)) nothing)
    (λ t. subst Good (sym (not_found _ _ _ (same_false _ _ t))) ten)

residual_good : (c d : Bool) (z : ℤ) → Good (number_in (pick c (pick d (given z) (refused 16)) (refused 15)))
unfolding pick number_in is_answer either up_to same between both
residual_good true true z = refl
residual_good true false z = refl
residual_good false d z = refl

pub answer_good : (f : Frame) (b : List ℕ) (s : State) → is_answer (record_answer f b s) ≡ true
unfolding record_answer record_number judged_by length_tests record_tests station_tests residual_in residual_of residual_by is_answer either up_to same between both
answer_good f b s =
    first_good _ (
      first_good _ (when_good 1 _ refl, (when_good 3 _ refl, tt)),
      (
        first_good _ (
          station_good f b,
          (
            unless_good 11 _ refl,
            (
              unless_good 12 _ refl,
              (
                unless_good 13 _ refl,
                (
                  unless_good 14 _ refl,
                  (residual_good _ _ _, tt),
                ),
              ),
            ),
          ),
        ),
        (first_good _ (unless_good 17 _ refl, (unless_good 18 _ refl, (unless_good 19 _ refl, tt))), tt),
      ),
    )

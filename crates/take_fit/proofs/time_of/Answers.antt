-- `take_fit::time_of` meets its contract.
use Rattle.std.proofs.Common.{rules, arith, ◌≡◌, ◌≤◌, ◌^◌, refl, sym, ap, ◌∙◌}
use lib.IntN.{nat_abs}
use mir.Syntax.{w32, w64}
use mir.Val.{to_z, of_z}
use Rattle.num_whole.specs.Answer.{given}
use Rattle.num_whole.proofs.Ints.{fits_within}
use mir.ValLaws.{to_z-of_z}
use Rattle.num_whole.proofs.Cases.{yes, no}
use Rattle.take_rules.specs.Rules.{time_of, in_window}
use Rattle.take_rules.proofs.Bounds.{window_above}
use Rattle.take_fit.specs.Fit.{timed}
use Rattle.take_fit.proofs.Steps.{clock_small, settings_window}
use Rattle.take_fit.proofs.time_of.Goals as goal

pub time-t-requires : goal.time-t-requires
time-t-requires c = clock_small _ _ (sym c.clock_ok.ensures ∙ c.if-not-clock_ok.false)

pub in_window-requires : goal.in_window-requires
in_window-requires c = settings_window _ c.requires

pub overflow_cast-result : goal.overflow_cast-result
overflow_cast-result c =
    let t = c.time-t in
    let z = to_z-of_z w64 t.result (record { sfits = t.type_inv }) in
    let small : nat_abs t.result ≤ 2 ^ 63 = fits_within w64 t.result (record { sfits = t.type_inv }) in
    (window_above _ _ _ (sym c.in_window.ensures ∙ c.if-not-in_window.false), rw z (record { fits = omega arith }))

pub returns-then-not-clock_ok : goal.returns-then-not-clock_ok
unfolding timed
returns-then-not-clock_ok c = no _ _ _ (sym c.clock_ok.ensures ∙ c.if-not-clock_ok.true) refl

pub returns-then-not-in_window : goal.returns-then-not-in_window
unfolding timed
returns-then-not-in_window c =
    let a = c.args in
    let t : to_z w64 (of_z w64 c.time-t.result) ≡ time_of a.day a.ms a.correction =
    to_z-of_z w64 c.time-t.result (record { sfits = c.time-t.type_inv }) ∙ c.time-t.ensures ∙ ap (time_of a.day a.ms) (to_z-of_z w32 a.correction c.ranges.correction) in
    yes _ _ _ (sym c.clock_ok.ensures ∙ c.if-not-clock_ok.false)
    (no _ _ _ (sym (rw t at c.in_window.ensures) ∙ c.if-not-in_window.true) refl)

pub returns : goal.returns
unfolding timed
returns c =
    let a = c.args in
    let t : to_z w64 (of_z w64 c.time-t.result) ≡ time_of a.day a.ms a.correction =
    to_z-of_z w64 c.time-t.result (record { sfits = c.time-t.type_inv }) ∙ c.time-t.ensures ∙ ap (time_of a.day a.ms) (to_z-of_z w32 a.correction c.ranges.correction) in
    yes _ _ _ (sym c.clock_ok.ensures ∙ c.if-not-clock_ok.false)
    (yes _ _ _ (sym (rw t at c.in_window.ensures) ∙ c.if-not-in_window.false) (ap (λ z. given (nat_abs z)) t))

-- The tests that are left for a record that fits its heading, in their order.
-- Assumes nothing.
use Prim.Native.Nat.{ℕ, ◌-◌, ◌≤◌, ◌<◌, ◌^◌}
use mathlib.Core.Path.{◌≡◌, ◌∙◌}
use native.Mathlib.Omega.{arith}
use Rattle.num_whole.specs.Answer.{given, refused}
use lib.IntN.{ℤ, pos, nat_abs, ◌*ℤ◌}
use mathlib.Core.Bool.{true, false}
use Rattle.num_whole.proofs.Cases.{is_less, not_less}
use Rattle.num_whole.proofs.Ints.{*-within}
use Rattle.refusal.proofs.Firsts.{unless_true, unless_false, first_none_left, first_pass, first_stop, answered_given}
use Rattle.take_rules.specs.Rules.{passes_edit}
use Rattle.take_laws.specs.Taking.{residual}
use Rattle.take_fit.proofs.Steps.{stopped}
use Rattle.take_judge.specs.Judged.{terms_by, judged_late}
use Rattle.take_fit.specs.declared.Fit.{Fit}
use Rattle.take_judge.specs.declared.Terms.{Terms}

-- ---- 17 to 19
module _ (level : ℕ) (x : Fit) (last count : ℕ) where
  abbrev terms : Terms
  terms = terms_by x.sigma x.residual x.factor

  pub not_later : x.time ≤ last → refused 17 ≡ judged_late level x last count
  unfolding judged_late
  not_later e =
      let k = unless_false 17 _ (not_less _ _ e) in
      stopped terms _ 17 (omega arith) (first_stop _ _ (λ z. omega (arith, k)) ∙ k)

  module _ (later : last < x.time) where
    pub no_edit : passes_edit level x.sigma x.step x.residual ≡ false → refused 18 ≡ judged_late level x last count
    unfolding judged_late
    no_edit e =
        let k = unless_false 18 _ e in
        stopped terms _ 18 (omega arith) (first_pass _ _ (unless_true 17 _ (is_less _ _ later)) ∙ first_stop _ _ (λ z. omega (arith, k)) ∙ k)

    module _ (edit : passes_edit level x.sigma x.step x.residual ≡ true) where
      pub full : 256 ≤ count → refused 19 ≡ judged_late level x last count
      unfolding judged_late
      full e =
          let k = unless_false 19 _ (not_less _ _ e) in
          stopped terms _ 19 (omega arith) (first_pass _ _ (unless_true 17 _ (is_less _ _ later)) ∙ first_pass _ _ (unless_true 18 _ edit) ∙ first_stop _ _ (λ z. omega (arith, k)) ∙ k)

      pub taken : count < 256 → given terms ≡ judged_late level x last count
      unfolding judged_late
      taken e =
          answered_given _ terms
          (first_pass _ _ (unless_true 17 _ (is_less _ _ later)) ∙ first_pass _ _ (unless_true 18 _ edit) ∙ first_pass _ _ (unless_true 19 _ (is_less _ _ e)) ∙ first_none_left)

-- ---- the machine's numbers of an accepted record
module _ (r : ℤ) (factor : ℕ) (small : nat_abs r ≤ 2 ^ 41) (few : factor ≤ 4) where
  pub scaled_fits : nat_abs (r *ℤ pos factor) ≤ 2 ^ 43
  scaled_fits = *-within r (pos factor) small few

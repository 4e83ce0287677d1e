-- `unit_measure::measured` meets its contract: in each arm the type is known, and what no arm names is no type.
use Prim.Native.Nat.{ℕ}
use mathlib.Core.Path.{◌≡◌, refl, sym, ap, ◌∙◌}
use mathlib.Core.Bool.{true}
use lib.Ieee.{Float}
use Rattle.num_whole.specs.Answer.{given}
use Rattle.num_whole.specs.Tests.{up_to, both, between}
use Rattle.num_whole.proofs.Cases.{yes, no}
use Rattle.unit_types.specs.Types.{is_type}
use Rattle.unit_measure.specs.Measures.{reading, measured_as}
use Rattle.unit_types.proofs.Rows.{past, no_type}
use Rattle.unit_measure.proofs.measured.Goals as goal

a_case : (t k : ℕ) (o c : Float) → t ≡ k → is_type k ≡ true → given (reading k o c) ≡ measured_as t o c
unfolding measured_as
a_case t k o c e h = yes (is_type k) _ _ h refl ∙ sym (ap (λ n. measured_as n o c) e)

pub returns-in-1 : goal.returns-in-1
unfolding is_type between both up_to
returns-in-1 c = a_case _ 1 _ _ c.in-1.is refl

pub returns-in-2 : goal.returns-in-2
unfolding is_type between both up_to
returns-in-2 c = a_case _ 2 _ _ c.in-2.is refl

pub returns-in-3 : goal.returns-in-3
unfolding is_type between both up_to
returns-in-3 c = a_case _ 3 _ _ c.in-3.is refl

pub returns-in-4 : goal.returns-in-4
unfolding is_type between both up_to
returns-in-4 c = a_case _ 4 _ _ c.in-4.is refl

pub returns-in-5 : goal.returns-in-5
unfolding is_type between both up_to
returns-in-5 c = a_case _ 5 _ _ c.in-5.is refl

pub returns-in-6 : goal.returns-in-6
unfolding is_type between both up_to
returns-in-6 c = a_case _ 6 _ _ c.in-6.is refl

pub returns-in-7 : goal.returns-in-7
unfolding is_type between both up_to
returns-in-7 c = a_case _ 7 _ _ c.in-7.is refl

pub returns-in-8 : goal.returns-in-8
unfolding is_type between both up_to
returns-in-8 c = a_case _ 8 _ _ c.in-8.is refl

pub returns-in-9 : goal.returns-in-9
unfolding is_type between both up_to
returns-in-9 c = a_case _ 9 _ _ c.in-9.is refl

pub returns-in-10 : goal.returns-in-10
unfolding is_type between both up_to
returns-in-10 c = a_case _ 10 _ _ c.in-10.is refl

pub returns-in_default : goal.returns-in_default
unfolding measured_as
returns-in_default c = no _ _ _ (no_type _ (past 1 c.args.kind 10 c.in_default.in_default-own.rest)) refl

-- What is within its limits fits the bytes that a file has for it.
-- Assumes nothing.
use Prim.Native.Nat.{ℕ, ◌^◌, ◌<◌}
use mathlib.Core.Path.{◌≡◌, refl, sym, ◌∙◌}
use mathlib.Core.Bool.{true}
use native.Mathlib.Omega.{arith}
use lib.IntN.{ℤ, pos, negsuc, neg_ℤ}
use lib.Signed.{le_z}
use mir.Syntax.{w32}
use mir.Val.{SFits}
use borrow.Author.Tests.{leb-true}
use Rattle.num_whole.specs.Tests.{same}
use Rattle.num_whole.proofs.Cases.{apart, yes, no, by_cases, less_true, same_true, up_to_true, between_true, both_first, both_second}
use Rattle.cells.specs.Cells.{is_parameter}
use Rattle.arc_limits.specs.Limits.{window_ok, settings_ok, index_ok, label_ok, correction_ok, station_ok}
use Rattle.arc_limits.specs.declared.Settings.{Settings}
use Rattle.arc_limits.specs.declared.Label.{Label}
use Rattle.arc_limits.specs.declared.Station.{Station}

pub record SmallSettings (a : Settings) : Type 0 where
  pub arc : a.arc < 256 ^ 4
  pub first : a.first < 256 ^ 4
  pub days : a.days < 256 ^ 2
  pub level : a.level < 256 ^ 2

pub settings_small : (a : Settings) → settings_ok a ≡ true → SmallSettings a
unfolding settings_ok window_ok
settings_small a e =
    let x = between_true _ _ _ (both_first _ _ e) in
    let y = between_true _ _ _ (both_first _ _ (both_second _ _ e)) in
    let w = both_second _ _ (both_second _ _ e) in
    let d = between_true _ _ _ (both_first _ _ w) in
    let f = up_to_true _ _ (both_second _ _ (both_second _ _ w)) in
    record { arc = omega arith; first = omega arith; days = omega arith; level = omega arith }

pub index_small : (kind index : ℕ) → index_ok kind index ≡ true → (kind < 5) × (index < 3000)
unfolding index_ok is_parameter
index_small kind index e =
    by_cases (same kind 1)
    (λ a. let k = same_true _ _ a in
    let i = less_true _ _ (both_first _ _ (yes _ _ _ a refl ∙ e)) in (omega arith, omega arith))
    λ a. let e₁ = no _ _ _ a refl ∙ e in
    by_cases (same kind 2)
    (λ b. let k = same_true _ _ b in
    let i = less_true _ _ (yes _ _ _ b refl ∙ e₁) in (omega arith, omega arith))
    λ b. let e₂ = no _ _ _ b refl ∙ e₁ in
    by_cases (same kind 3)
    (λ c. let k = same_true _ _ c in
    let i = less_true _ _ (yes _ _ _ c refl ∙ e₂) in (omega arith, omega arith))
    λ c. let e₃ = no _ _ _ c refl ∙ e₂ in
    by_cases (same kind 4)
    (λ d. let k = same_true _ _ d in
    let i = less_true _ _ (yes _ _ _ d refl ∙ e₃) in (omega arith, omega arith))
    λ d. absurd (apart (sym (no _ _ _ d refl ∙ e₃)))

pub record SmallLabel (l : Label) : Type 0 where
  pub kind : l.kind < 256 ^ 2
  pub index : l.index < 256 ^ 2
  pub weight : l.weight < 256 ^ 4

pub label_small : (l : Label) → label_ok l ≡ true → SmallLabel l
unfolding label_ok
label_small l e =
    let w = up_to_true _ _ (both_first _ _ e) in
    let i = index_small l.kind l.index (both_second _ _ e) in
    record { kind = omega arith; index = omega arith; weight = omega arith }

correction_small : (c : ℤ) → le_z (neg_ℤ (pos 60000)) c ≡ true → le_z c (pos 60000) ≡ true → SFits w32 c
correction_small (pos n) p q = record { sfits = omega (arith, leb-true n 60000 q) }
correction_small (negsuc n) p q = record { sfits = omega (arith, leb-true n 59999 p) }

pub record SmallStation (t : Station) : Type 0 where
  pub number : t.number < 256 ^ 2
  pub correction : SFits w32 t.correction

pub station_small : (t : Station) → station_ok t ≡ true → SmallStation t
unfolding station_ok correction_ok
station_small t e =
    let n = up_to_true _ _ (both_first _ _ e) in
    let c = both_second _ _ e in
    record { number = omega arith; correction = correction_small t.correction (both_first _ _ c) (both_second _ _ c) }

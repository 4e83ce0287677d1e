-- What an answer of `unit_within` says by the tests of the residual.
-- Assumes nothing.
use Prim.Native.Nat.{ℕ, ◌^◌, ◌≤◌}
use native.Mathlib.Omega.{arith}
use mathlib.Core.Path.{◌≡◌, refl, sym, ap, ap₂, ◌∙◌}
use Rattle.std.specs.Prelude.{Result, Err}
use mathlib.Core.Bool.{Bool, true, false, cond}
use lib.IntN.{ℤ, nat_abs}
use lib.Ieee.{Float, nan, inf, fin}
use lib.Ieee.Scale.{finite}
use Rattle.num_whole.specs.Answer.{Answered, given, refused}
use Rattle.num_whole.proofs.Cases.{refused_not, yes, no, holds, fails}
use Rattle.refusal.specs.Number.{number_of}
use Rattle.unit_nearest.specs.Doubles.{fits_in, nearest_unit, unit_within, told_nearest}
use Rattle.unit_nearest.specs.NoUnits.{refusal_of}
use Rattle.unit_nearest.specs.declared.NoUnit.{NoUnit}
use Rattle.unit_nearest.specs.declared.NoUnit.TheVariants.{NotFinite, OutOfLimits}
use Rattle.unit_types.specs.declared.TypeRow.{TypeRow}
use Rattle.unit_types.specs.Narrow.{Narrow}
use Rattle.unit_turn.proofs.Limits.{row_small}
use Rattle.unit_turn.specs.Turning.{apart_by}
use Rattle.unit_residual.specs.Residuals.{fits_row, residual_by}

-- which of the three a finite number gives
inner : (b : Bool) (n q : ℤ) → cond b (given n) (refused 16) ≡ given q → (b ≡ true) × (n ≡ q)
inner true n q e = (refl, cc)
inner false n q e = absurd (refused_not refl e)

outer : (b : Bool) (n : ℤ) → cond b (given n) (refused 16) ≡ refused 16 → b ≡ false
outer true n e = absurd (refused_not refl (sym e))
outer false n e = refl

neither : (b : Bool) (n : ℤ) → cond b (given n) (refused 16) ≡ refused 15 → ⊥
neither true n e = refused_not refl (sym e)
neither false n e = let z : ◌≡◌ {A = ℕ} 16 15 = cc in omega arith

-- the answer of a row, before T becomes 0
abbrev pub in_row : TypeRow → Float → Answered ℤ
in_row r x = unit_within r.k r.low r.high x

-- a number whose q is out of a row's limits, and one whose q is within them
pub record Outside (r : TypeRow) (x : Float) : Type 0 where
  pub number : finite x ≡ true
  pub out : fits_row r x ≡ false

pub record Inside (r : TypeRow) (x : Float) (q : ℤ) : Type 0 where
  pub number : finite x ≡ true
  pub fits : fits_row r x ≡ true
  pub is : nearest_unit r.k x ≡ q

-- 15, 16 and a unit, each by the tests
module _ (r : TypeRow) where
  pub not_finite : (x : Float) → in_row r x ≡ refused 15 → finite x ≡ false
  unfolding unit_within
  not_finite nan e = refl
  not_finite (inf s) e = refl
  not_finite (fin s m d) e =
      let n = nearest_unit r.k (fin s m d) in absurd (neither (fits_in r.low r.high n) n e)

  pub outside : (x : Float) → in_row r x ≡ refused 16 → Outside r x
  unfolding unit_within fits_row
  outside nan e = absurd (let z : ◌≡◌ {A = ℕ} 15 16 = cc in omega arith)
  outside (inf s) e = absurd (let z : ◌≡◌ {A = ℕ} 15 16 = cc in omega arith)
  outside (fin s m d) e = record { number = refl; out = outer _ _ e }

  pub inside : (x : Float) (q : ℤ) → in_row r x ≡ given q → Inside r x q
  unfolding unit_within fits_row
  inside nan q e = absurd (refused_not refl e)
  inside (inf s) q e = absurd (refused_not refl e)
  inside (fin s m d) q e = let h = inner _ _ q e in record { number = refl; fits = h.0; is = h.1 }

  -- a unit that a row answers is within 2 ^ 40
  pub inside_small : (x : Float) (q : ℤ) → Narrow r → in_row r x ≡ given q → nat_abs q ≤ 2 ^ 40
  unfolding fits_row
  inside_small x q n e =
      let h = inside x q e in
      row_small r n q (ap (λ z. fits_in r.low r.high z) (sym h.is) ∙ h.fits)

-- ---- what the code's answers on the two come to
pub why_told : (a : Result ℤ NoUnit) (x why : NoUnit) → a ≡ Err x → x ≡ why → told_nearest a ≡ told_nearest (Err why)
why_told a x why e f = ap told_nearest e ∙ ap (λ y. told_nearest (Err y)) f

module _ (r : TypeRow) (o c : Float) where
  pub first_missing : in_row r o ≡ refused 15 → refused 15 ≡ residual_by r o c
  unfolding residual_by
  first_missing e = no _ _ _ (sym (fails _ _ (not_finite r o e))) refl

  pub second_missing : in_row r o ≡ refused 16 → in_row r c ≡ refused 15 → refused 15 ≡ residual_by r o c
  unfolding residual_by
  second_missing e f = no _ _ _ (sym (holds _ _ (outside r o e).number (sym (not_finite r c f)))) refl

  first_out : in_row r o ≡ refused 16 → finite c ≡ true → refused 16 ≡ residual_by r o c
  unfolding residual_by
  first_out e f =
      let h = outside r o e in yes _ _ _ (sym (holds _ _ h.number (sym f))) (no _ _ _ (sym (fails _ _ h.out)) refl)

  pub both_out : in_row r o ≡ refused 16 → in_row r c ≡ refused 16 → refused 16 ≡ residual_by r o c
  both_out e f = first_out e (outside r c f).number

  pub one_out : (q : ℤ) → in_row r o ≡ refused 16 → in_row r c ≡ given q → refused 16 ≡ residual_by r o c
  one_out q e f = first_out e (inside r c q f).number

  pub second_refused : (p : ℤ) (why : NoUnit) → in_row r o ≡ given p → told_nearest (Err why) ≡ in_row r c → refused (number_of (refusal_of why)) ≡ residual_by r o c
  unfolding residual_by
  second_refused p NotFinite e f = no _ _ _ (sym (holds _ _ (inside r o p e).number (sym (not_finite r c (sym f))))) refl
  second_refused p OutOfLimits e f =
      let h = inside r o p e in
      let d = outside r c (sym f) in
      yes _ _ _ (sym (holds _ _ h.number (sym d.number))) (no _ _ _ (sym (holds _ _ h.fits (sym d.out))) refl)

  pub both_given : (p q : ℤ) → in_row r o ≡ given p → in_row r c ≡ given q → given (apart_by r p q) ≡ residual_by r o c
  unfolding residual_by
  both_given p q e f =
      let h = inside r o p e in
      let d = inside r c q f in
      yes _ _ _ (sym (holds _ _ h.number (sym d.number))) (yes _ _ _ (sym (holds _ _ h.fits (sym d.fits))) (ap given (ap₂ (apart_by r) (sym h.is) (sym d.is))))

-- A double that has no unit is refused, and stays so on the circle; and what is known of the row of a type that was looked up.
use Rattle.std.proofs.Common.{◌≡◌, ◌∙◌, refl, sym, ap, ℕ, true, false, Err}
use Rattle.num_whole.specs.Answer.{Answered, given, refused}
use Rattle.num_whole.proofs.Cases.{chosen, by_cases, yes, no, refused_not}
use Rattle.refusal.specs.Number.{number_of}
use Rattle.unit_nearest.specs.Doubles.{told_nearest}
use Rattle.unit_nearest.specs.NoUnits.{refusal_of}
use Rattle.unit_nearest.specs.declared.NoUnit.{NoUnit}
use Rattle.unit_nearest.specs.declared.NoUnit.TheVariants.{NotFinite, OutOfLimits}
use Rattle.refusal.specs.declared.Refusal.{Refusal}
use Rattle.unit_types.specs.declared.TypeRow.{TypeRow}
use Rattle.unit_types.specs.Types.{is_type, row_of_type, row_at}
use Rattle.unit_convert.specs.Units.{turned}

pub stays : (row : TypeRow) (why : NoUnit) → refused (number_of (refusal_of why)) ≡ turned row (told_nearest (Err why))
unfolding turned
stays row NotFinite = refl
stays row OutOfLimits = refl

the_given : {A : Type 0} → A → Answered A → A
the_given d (given a) = a
the_given d (refused n) = d

the_refused : {A : Type 0} → ℕ → Answered A → ℕ
the_refused d (given a) = d
the_refused d (refused n) = n

pub row_found : (kind : ℕ) (x : TypeRow) → given x ≡ row_at kind → (is_type kind ≡ true) × (x ≡ row_of_type kind)
unfolding row_at the_given
row_found kind x e = let a = chosen 11 _ _ (sym e) in (a.0, ap (the_given x) (sym a.1))

pub row_none : (kind : ℕ) (r : Refusal) → refused (number_of r) ≡ row_at kind → (is_type kind ≡ false) × (number_of r ≡ 11)
unfolding row_at the_refused
row_none kind r e =
    by_cases (is_type kind)
    (λ t. absurd (refused_not (sym e) (sym (yes _ _ _ t refl))))
    (λ t. (t, ap (the_refused 11) (e ∙ sym (no _ _ _ t refl))))

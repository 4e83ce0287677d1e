-- Laws of labels and arcs: a list of arcs searched, the kinds that a label may have, and that what is within its limits
-- fits the bytes that a file has for it.
-- Assumes nothing.
use Prim.Native.Nat.{ℕ, ◌≤◌, ◌<◌, ◌^◌}
use mathlib.Core.Path.{◌≡◌, refl, sym, ◌∙◌, subst}
use mathlib.Core.List.{List, [], ◌∷◌}
use mathlib.Core.Bool.{Bool, true, false, ◌||◌}
use native.Mathlib.Omega.{arith}
use Rattle.num_whole.specs.Tests.{same, up_to, either}
use lib.Dec.{eqb}
use Rattle.std.specs.List.{list_any}
use Rattle.num_whole.specs.Lists.{all}
use Rattle.num_whole.proofs.Cases.{apart, yes, no, at_last, by_cases, same_true, up_to_true, between_true, both_first, both_second}
use Rattle.arc_limits.proofs.Small.{index_small}
use Rattle.norm_system.specs.System.{arc_ok, has, arc_listed, normal_label_ok}
use Rattle.norm_system.specs.declared.NormalLabel.{NormalLabel}

-- ---- a list of arcs searched
or_either : (b c d : Bool) → c ≡ d → (b || c) ≡ either b d
unfolding either
or_either true c d e = refl
or_either false c d e = e

pub has_any : (a : ℕ) (l : List ℕ) → list_any (λ x. eqb x a) l ≡ has a l
unfolding has same
has_any a [] = refl
has_any a (x ∷ l) = or_either (eqb x a) _ _ (has_any a l)

-- ---- what is listed is within the limits of an arc
pub arc_small : (a : ℕ) → arc_ok a ≡ true → a < 256 ^ 4
unfolding arc_ok
arc_small a e = omega (arith, (between_true _ _ _ e).1)

listed_small : (a : ℕ) (arcs : List ℕ) → all arc_ok arcs ≡ true → has a arcs ≡ true → a < 256 ^ 4
unfolding has all
listed_small a [] ok e = absurd (apart (sym e))
listed_small a (x ∷ l) ok e =
    by_cases (same x a)
    (λ t. subst (λ n. n < 256 ^ 4) (same_true _ _ t) (arc_small x (both_first _ _ ok)))
    (λ t. listed_small a l (both_second _ _ ok) (at_last _ _ t refl ∙ e))

-- ---- a label within its limits
pub label_kind_lem : (arcs : List ℕ) (l : NormalLabel) → normal_label_ok arcs l ≡ true → l.kind ≤ 4
unfolding normal_label_ok
label_kind_lem arcs l e = omega (arith, (index_small l.kind l.index (both_first _ _ (both_second _ _ e))).0)

pub record SmallLabel (l : NormalLabel) : Type 0 where
  pub kind : l.kind < 256 ^ 2
  pub index : l.index < 256 ^ 2
  pub arc : l.arc < 256 ^ 4
  pub weight : l.weight < 256 ^ 4

pub label_small : (arcs : List ℕ) (l : NormalLabel) → all arc_ok arcs ≡ true → normal_label_ok arcs l ≡ true → SmallLabel l
unfolding normal_label_ok arc_listed
label_small arcs l ok e =
    let w = up_to_true _ _ (both_first _ _ e) in
    let i = index_small l.kind l.index (both_first _ _ (both_second _ _ e)) in
    let a = both_second _ _ (both_second _ _ e) in
    record {
      kind = omega (arith, i.0);
      index = omega (arith, i.1);
      arc = by_cases (up_to l.kind 2)
          (λ t. let z = same_true _ _ (yes _ _ _ t refl ∙ a) in omega arith)
          (λ t. listed_small l.arc arcs ok (no _ _ _ t refl ∙ a));
      weight = omega arith;
    }

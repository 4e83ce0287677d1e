-- Labels that are alike: either way round, and those of one key that are within their limits are one label.
-- Assumes nothing.
use mathlib.Core.Path.{◌≡◌, refl, sym, ap, ◌∙◌}
use mathlib.Core.Bool.{true}
use Prim.Native.Nat.{ℕ}
use native.Mathlib.Omega.{arith}
use lib.IntN.{ℤ, pos, negsuc}
use lib.Dec.{eqb}
use mir.Syntax.{w64}
use mir.Val.{SFits, to_z, of_z}
use mir.ValLaws.{to_z-of_z}
use borrow.Author.Tests.{eqb-true, eqb-false}
use Rattle.num_whole.specs.Tests.{same, both}
use Rattle.num_whole.proofs.Cases.{apart, is_same, not_same, same_true, same_false, both_first, both_second, by_cases}
use Rattle.norm_system.specs.System.{key_of}
use Rattle.norm_system.specs.declared.NormalLabel.{NormalLabel}
use Rattle.norm_system.proofs.Labels.{SmallLabel}
use Rattle.merge_join.specs.Alike.{equal, alike}

same_comm : (m n : ℕ) → same m n ≡ same n m
same_comm m n =
    by_cases (same m n)
    (λ e. e ∙ sym (is_same n m (sym (same_true m n e))))
    (λ e. e ∙ sym (not_same n m (λ d. same_false m n e (sym d))))

equal_comm : (a b : ℤ) → equal a b ≡ equal b a
unfolding equal
equal_comm (pos m) (pos n) = same_comm m n
equal_comm (pos m) (negsuc n) = refl
equal_comm (negsuc m) (pos n) = refl
equal_comm (negsuc m) (negsuc n) = same_comm m n

pub alike_comm : (l m : NormalLabel) → alike l m ≡ alike m l
unfolding alike
alike_comm l m = (λ i. both (same_comm l.weight m.weight i) (equal_comm l.estimate m.estimate i))

equal_true : (a b : ℤ) → equal a b ≡ true → a ≡ b
unfolding equal
equal_true (pos m) (pos n) e = ap pos (same_true m n e)
equal_true (pos m) (negsuc n) e = absurd (apart (sym e))
equal_true (negsuc m) (pos n) e = absurd (apart (sym e))
equal_true (negsuc m) (negsuc n) e = ap negsuc (same_true m n e)

pub one_label : (l m : NormalLabel) → SmallLabel l → SmallLabel m → key_of l ≡ key_of m → alike l m ≡ true → l ≡ m
unfolding key_of alike
one_label l m p q e a =
    let kind : l.kind ≡ m.kind = omega arith in
    let arc : l.arc ≡ m.arc = omega arith in
    let index : l.index ≡ m.index = omega arith in
    let weight : l.weight ≡ m.weight = same_true _ _ (both_first _ _ a) in
    let estimate : l.estimate ≡ m.estimate = equal_true _ _ (both_second _ _ a) in
    (λ i. record { kind = kind i; index = index i; arc = arc i; weight = weight i; estimate = estimate i })

-- ---- as the machine compares two numbers
equal_same : (a : ℤ) → equal a a ≡ true
unfolding equal
equal_same (pos n) = is_same n n refl
equal_same (negsuc n) = is_same n n refl

pub equal_bits : (x y : ℤ) → SFits w64 x → SFits w64 y → eqb (of_z w64 x) (of_z w64 y) ≡ equal x y
equal_bits x y p q =
    by_cases (eqb (of_z w64 x) (of_z w64 y))
    (λ e. let same : x ≡ y = sym (to_z-of_z w64 x p) ∙ ap (to_z w64) (eqb-true (of_z w64 x) (of_z w64 y) e) ∙ to_z-of_z w64 y q in
    e ∙ sym (ap (equal x) (sym same) ∙ equal_same x))
    (λ e. e ∙ sym (by_cases (equal x y) (λ t. absurd (eqb-false (of_z w64 x) (of_z w64 y) e (ap (of_z w64) (equal_true x y t)))) (λ t. t)))

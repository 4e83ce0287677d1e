-- Records that are whole, and what follows them, when more bytes follow.
-- Assumes nothing.
use Prim.Native.Nat.{ℕ, zero, suc, ◌+◌, ◌-◌, ◌*◌, ◌≤◌, ◌<◌}
use mathlib.Core.Path.{◌≡◌, refl, sym, ap, ap₂, ◌∙◌}
use mathlib.Core.List.{List, [], ◌∷◌, ◌++◌}
use native.Mathlib.Omega.{arith}
use native.Mathlib.Nat.{suc-mul, zero-mul, suc-sub-suc, sub-zero}
use lib.ListN.{length, take, drop, length-append, length-drop}
use lib.Seq.{take-append-le, drop-append-le}
use Rattle.num_whole.specs.Tests.{less}
use Rattle.num_whole.proofs.Cases.{by_cases, yes, no, is_less, not_less, less_true, less_false}
use Rattle.take_laws.specs.Taking.{cut}
use Rattle.part_laws.specs.Beginning.{whole, behind}

-- ---- one record
module _ (size n : ℕ) (l : List ℕ) where
  pub whole_more : size ≤ length l → whole size (suc n) l ≡ take size l ∷ whole size n (drop size l)
  unfolding whole
  whole_more h = sym (no _ _ _ (not_less _ _ h) refl)

  pub behind_more : size ≤ length l → behind size (suc n) l ≡ behind size n (drop size l)
  unfolding behind
  behind_more h = sym (no _ _ _ (not_less _ _ h) refl)

  -- or none
  pub whole_short : length l < size → whole size (suc n) l ≡ []
  unfolding whole
  whole_short h = sym (yes _ _ _ (is_less _ _ h) refl)

  pub behind_short : length l < size → behind size (suc n) l ≡ l
  unfolding behind
  behind_short h = sym (yes _ _ _ (is_less _ _ h) refl)

-- ---- more bytes: the records before stay, the others are those of what was left
pub record More (size n : ℕ) (l m : List ℕ) : Type 0 where
  pub done : whole size n (l ++ m) ≡ whole size n l ++ whole size (n - length (whole size n l)) (behind size n l ++ m)
  pub left : behind size n (l ++ m) ≡ behind size (n - length (whole size n l)) (behind size n l ++ m)

pub more : (size n : ℕ) (l m : List ℕ) → More size n l m
unfolding whole behind
more size zero l m = record { done = refl; left = refl }
more size (suc n) l m =
    by_cases (less (length l) size)
    (λ e. let h : length l < size = less_true _ _ e in
    record { done = rw (whole_short size n l h, behind_short size n l h, sub-zero); left = rw (whole_short size n l h, behind_short size n l h, sub-zero) })
    (λ e. let h : size ≤ length l = less_false _ _ e in
    let long : size ≤ length (l ++ m) = rw length-append (omega arith) in
    let ih = more size n (drop size l) m in
    record {
      done = whole_more size n (l ++ m) long
          ∙ ap₂ (λ a b. a ∷ whole size n b) (take-append-le size l m h) (drop-append-le size l m h)
          ∙ ap (λ x. take size l ∷ x) ih.done
          ∙ rw (whole_more size n l h, behind_more size n l h, suc-sub-suc);
      left = behind_more size n (l ++ m) long
          ∙ ap (behind size n) (drop-append-le size l m h)
          ∙ ih.left
          ∙ rw (whole_more size n l h, behind_more size n l h, suc-sub-suc);
    })

-- ---- how many bytes they are
pub whole_long : (size n : ℕ) (l : List ℕ) → length (behind size n l) + length (whole size n l) * size ≡ length l
unfolding whole behind
whole_long size zero l = omega (arith, zero-mul size)
whole_long size (suc n) l =
    by_cases (less (length l) size)
    (λ e. let h : length l < size = less_true _ _ e in
    rw (whole_short size n l h, behind_short size n l h) (omega (arith, zero-mul size)))
    (λ e. let h : size ≤ length l = less_false _ _ e in
    rw (whole_more size n l h, behind_more size n l h)
    (omega (arith, whole_long size n (drop size l), length-drop size l, suc-mul (length (whole size n (drop size l))) size)))

-- ---- where there are bytes for all of them, they are the records cut, and what follows is the rest
pub whole_cut : (size n : ℕ) (l : List ℕ) → n * size ≤ length l → whole size n l ≡ cut size n l
unfolding whole cut
whole_cut size zero l h = refl
whole_cut size (suc n) l h =
    whole_more size n l (omega (arith, suc-mul n size))
    ∙ ap (λ x. take size l ∷ x) (whole_cut size n (drop size l) (rw length-drop (omega (arith, suc-mul n size))))

-- An array that `from_fn` makes of what stands at places of one size.
-- Assumes nothing.
use Rattle.std.proofs.Common.{◌≡◌, ◌∙◌, ℕ, zero, suc, ◌+◌, ◌*◌, ◌≤◌, ◌<◌, List, get_or, sym, arith}
use Rattle.std.proofs.lemmas.List.{ext_get_or}
use Rattle.std.specs.Array.{IsFromFnResult, IsFromFnResultFrom}
use Rattle.std.specs.Fn.{Called}
use denote.Param.Members.{Mut}
use mathlib.Core.Path.{subst}
use Rattle.num_whole.specs.Tests.{same}
use Rattle.num_whole.proofs.Cases.{by_cases, same_true, same_false}
use Rattle.byte_words.specs.Stands.{stands}
use Rattle.byte_words.proofs.Stands.{length_stands, stands_at}

module _ {F B : Type 0} {g : Mut F (ℕ × Unit {0}) B} (h : ℕ → B) (f : F) (told : (i : ℕ) (y : B) (q : F) → Called g f (i, tt) y q → (q ≡ f) × (y ≡ h i)) where
  pub each_is : (ys : List B) (i n : ℕ) → IsFromFnResultFrom g f ys i n → (d : B) (k : ℕ) → i ≤ k → k < i + n → get_or ys k d ≡ h k
  each_is ys i zero r d k p l = absurd (omega arith)
  each_is ys i (suc n) r d k p l =
      by_cases (same k i)
      (λ e. rw (same_true k i e) (r.2.1 d ∙ (told _ _ _ r.3).1))
      (λ e. each_is ys (i + 1) n (subst (λ q. IsFromFnResultFrom g q ys (i + 1) n) (told _ _ _ r.3).0 r.4) d k
      (let no : k ≡ i → ⊥ = same_false k i e in omega (arith, no)) (omega arith))

pub all_stand : {F B : Type 0} {g : Mut F (ℕ × Unit {0}) B} (p : ℕ → B) (size n at : ℕ) (d : B) {f : F} {ys : List B}
    → ((i : ℕ) (y : B) (q : F) → Called g f (i, tt) y q → (q ≡ f) × (y ≡ p (at + size * i))) → IsFromFnResult g f ys n → ys ≡ stands p size n at
all_stand p size n at d told m =
    ext_get_or d _ _ (m.long ∙ sym (length_stands p size n at))
    (λ i l. each_is (λ k. p (at + size * k)) _ told _ 0 n m.each d i (omega arith) (omega (arith, m.long)) ∙ sym (stands_at p size n at i d (omega (arith, m.long))))

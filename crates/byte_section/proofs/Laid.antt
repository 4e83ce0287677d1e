-- Records laid over bytes one after the other: what is left to lay after each.
-- Assumes nothing.
use Prim.Native.Nat.{ℕ, ◌+◌}
use mathlib.Core.Path.{◌≡◌, sym}
use mathlib.Core.List.{List, [], ◌∷◌}
use lib.ListN.{length}
use Rattle.byte_words.specs.Words.{lay}
use Rattle.byte_words.proofs.Words.{lay_append}
use Rattle.byte_section.specs.Section.{encoded}

module _ {A : Type 0} (bytes : A → List ℕ) (k : ℕ) (long : (a : A) → length (bytes a) ≡ k) (out : List ℕ) (at : ℕ) {l : List A} where
  pub laid_none : l ≡ [] → lay out at (encoded bytes l) ≡ out
  unfolding encoded lay
  laid_none e = rw e

  pub laid_one : {a : A} {m : List A} → l ≡ a ∷ m → lay out at (encoded bytes l) ≡ lay (lay out at (bytes a)) (at + k) (encoded bytes m)
  unfolding encoded
  laid_one e = rw e (sym (lay_append _ _ _ _ _ (simp long)))

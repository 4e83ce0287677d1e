-- Lists of records that may stand in a section, from the tests of a list; and a section that was written, at its place of a list.
-- Assumes nothing.
use Prim.Native.Nat.{ℕ, ◌+◌, ◌*◌, ◌^◌, ◌≤◌, ◌<◌}
use mathlib.Core.Path.{◌≡◌, ap, ◌∙◌}
use mathlib.Core.List.{List, [], ◌∷◌, ◌++◌}
use mathlib.Core.Bool.{Bool, true}
use lib.ListN.{length}
use Rattle.num_whole.specs.Answer.{good}
use Rattle.num_whole.specs.Lists.{all, ascend, Each}
use Rattle.num_whole.proofs.Cases.{up_to_true, both_first, both_second}
use Rattle.byte_words.specs.Words.{bytes_of}
use Rattle.byte_section.specs.Section.{Kind, section_at, encoded}
use Rattle.byte_section.proofs.Trips.{Chain, section_back}

pub each_of : {A : Type 0} (f : A → Bool) (l : List A) → all f l ≡ true → Each (λ a. f a ≡ true) l
unfolding all
each_of f [] e = tt
each_of f (a ∷ l) e = (both_first _ _ e, each_of f l (both_second _ _ e))

pub each_both : {A : Type 0} (P Q : A → Type 0) (l : List A) → Each P l → Each Q l → Each (λ a. P a × Q a) l
each_both P Q [] p q = tt
each_both P Q (a ∷ l) p q = ((p.0, q.0), each_both P Q l p.1 q.1)

module _ {A : Type 0} (K : Kind A) (bytes : A → List ℕ) (Held : A → Type 0) where
  -- keys that ascend
  pub chain : ((a : A) → K.after a ≡ K.key a + 1) → (floor : ℕ) (l : List A) → Each Held l → ascend K.key floor l ≡ true → Chain K bytes Held floor l
  unfolding ascend
  chain h floor [] p e = tt
  chain h floor (a ∷ l) p e =
      (p.0, (up_to_true _ _ (both_first _ _ e), chain h (K.after a) l p.1 (ap (λ f. ascend K.key f l) (h a) ∙ both_second _ _ e)))

  -- a section at a place of a list
  module _
      (long : (a : A) → length (bytes a) ≡ K.size)
      (back : (p : List ℕ) (a : A) (r : List ℕ) → Held a
      → (K.decode (p ++ (bytes a ++ r)) (length p) ≡ a) × (K.fields_ok (p ++ (bytes a ++ r)) (length p) ≡ true))
    where
      pub section_at_lem : (l : List A) (p r s : List ℕ) (at low high : ℕ) → s ≡ p ++ (bytes_of 4 (length l) ++ (encoded bytes l ++ r)) → length p ≡ at
          → Chain K bytes Held 0 l → low ≤ length l → length l ≤ high → length l < 256 ^ 4
          → section_at K s low high at ≡ good (record { items = l; next = at + 4 + length l * K.size })
      section_at_lem l p r s at low high e m c from to small =
          rw (e, ← m) (section_back K bytes Held long back l p r low high c from to small)

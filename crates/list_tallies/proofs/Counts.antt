-- A table of counts as answers come in: turn by turn, and against the list of all answers.
-- Assumes nothing.
use Prim.Native.Nat.{ℕ, zero, suc, ◌+◌, ◌≤◌, ◌<◌}
use mathlib.Core.Path.{◌≡◌, refl, sym, ap, ◌∙◌, subst}
use mathlib.Core.Bool.{Bool, true, false}
use mathlib.Core.List.{List, [], ◌∷◌, ◌++◌, append_assoc, append-nil}
use native.Mathlib.Numerals.{add-one}
use native.Mathlib.Nat.{add-zero}
use native.Mathlib.Omega.{arith}
use lib.ListN.{length, get_or, set, drop, drop_of_length-le, length-set, get_or-eq_default}
use lib.Seq.{drop-cons, set_out, get_or-set_same, get_or-set_other, ext_get_or}
use Rattle.num_whole.specs.Tests.{same, less, pick}
use Rattle.num_whole.proofs.Cases.{by_cases, same_true, same_false, less_true, less_false, yes, no}
use Rattle.take_laws.specs.Mix.{keep}
use Rattle.list_lines.specs.Lines.{tally_of, tallies_from, tallies_of, answers_most}
use Rattle.list_tallies.specs.Tables.{counted}

-- ---- one answer counted
abbrev pub bumped : List ℕ → ℕ → List ℕ
bumped table x = set table x (get_or table x 0 + 1)

-- at its own place, which the table has
pub bumped_here : (table : List ℕ) (x : ℕ) → x < length table → get_or (bumped table x) x 0 ≡ get_or table x 0 + 1
bumped_here table x h = get_or-set_same table x _ 0 h

pub bumped_there : (table : List ℕ) (x k : ℕ) → (k ≡ x → ⊥) → get_or (bumped table x) k 0 ≡ get_or table k 0
bumped_there table x k h = get_or-set_other table x k _ 0 h

-- no place grows by more than one
pub bumped_most : (table : List ℕ) (x k : ℕ) → get_or (bumped table x) k 0 ≤ get_or table k 0 + 1
bumped_most table x k =
    by_cases (same k x)
    (λ e. subst (λ j. get_or (bumped table x) j 0 ≤ get_or table j 0 + 1) (sym (same_true k x e))
    (by_cases (less x (length table)) (λ l. omega (arith, bumped_here table x (less_true _ _ l))) (λ l. omega (arith, ap (λ t. get_or t x 0) (set_out table x (get_or table x 0 + 1) (less_false _ _ l))))))
    (λ e. omega (arith, bumped_there table x k (same_false k x e)))

-- ---- the loop over answers
module _ (table told : List ℕ) (i : ℕ) where
  pub counted_end : length told ≤ i → counted table (drop i told) ≡ table
  unfolding counted
  counted_end h = rw (drop_of_length-le told h)

  pub counted_turn : i < length told → counted (bumped table (get_or told i 0)) (drop (i + 1) told) ≡ counted table (drop i told)
  unfolding counted
  counted_turn h = sym (ap (counted table) (drop-cons told i 0 h) ∙ ap (λ j. counted (bumped table (get_or told i 0)) (drop j told)) (sym (add-one i)))

-- ---- the table of all answers
tally_one : (k : ℕ) (told : List ℕ) (x : ℕ) → tally_of k (told ++ (x ∷ [])) ≡ tally_of k told + pick (same x k) 1 0
unfolding tally_of keep pick
tally_one k [] x = last (same x k) x
  where
    last : (b : Bool) (x : ℕ) → length (pick b (x ∷ []) []) ≡ 0 + pick b 1 0
    last true x = refl
    last false x = refl
tally_one k (y ∷ told) x = more (same y k) y (keep (λ n. same n k) told) (keep (λ n. same n k) (told ++ (x ∷ []))) _ (tally_one k told x)
  where
    more : (b : Bool) (y : ℕ) (l m : List ℕ) (n : ℕ) → length m ≡ length l + n → length (pick b (y ∷ m) m) ≡ length (pick b (y ∷ l) l) + n
    more true y l m n e = omega arith
    more false y l m n e = e

tallies_length : (told : List ℕ) (n k : ℕ) → length (tallies_from told n k) ≡ n
unfolding tallies_from
tallies_length told zero k = refl
tallies_length told (suc n) k = ap suc (tallies_length told n (suc k))

tallies_at : (told : List ℕ) (n k i : ℕ) → i < n → get_or (tallies_from told n k) i 0 ≡ tally_of (k + i) told
unfolding tallies_from
tallies_at told zero k i h = absurd (omega arith)
tallies_at told (suc n) k zero h = ap (λ j. tally_of j told) (sym (add-zero k))
tallies_at told (suc n) k (suc i) h = tallies_at told n (suc k) i (omega arith) ∙ ap (λ j. tally_of j told) (omega arith)

pub tally_at : (told : List ℕ) (k : ℕ) → k < answers_most → get_or (tallies_of told) k 0 ≡ tally_of k told
tally_at told k h = tallies_at told answers_most 0 k h ∙ ap (λ j. tally_of j told) (omega arith)

-- an answer more in the list is one more in the table
tallies_one : (told : List ℕ) (x : ℕ) → bumped (tallies_of told) x ≡ tallies_of (told ++ (x ∷ []))
tallies_one told x =
    ext_get_or 0 _ _ (length-set (tallies_of told) x _ ∙ tallies_length told answers_most 0 ∙ sym (tallies_length (told ++ (x ∷ [])) answers_most 0))
    (λ k h. let inside : k < answers_most = omega (arith, length-set (tallies_of told) x (get_or (tallies_of told) x 0 + 1), tallies_length told answers_most 0) in place k inside)
  where
    place : (k : ℕ) → k < answers_most → get_or (bumped (tallies_of told) x) k 0 ≡ get_or (tallies_of (told ++ (x ∷ []))) k 0
    place k h =
        let after = tally_at (told ++ (x ∷ [])) k h ∙ tally_one k told x in
        by_cases (same x k)
        (λ e. let same_place = same_true x k e in
        subst (λ j. get_or (bumped (tallies_of told) x) j 0 ≡ get_or (tallies_of told) j 0 + 1) same_place (bumped_here (tallies_of told) x (omega (arith, tallies_length told answers_most 0)))
        ∙ ap (λ n. n + 1) (tally_at told k h) ∙ sym (after ∙ ap (λ n. tally_of k told + n) (sym (yes (same x k) 1 0 e refl))))
        (λ e. bumped_there (tallies_of told) x k (λ z. same_false x k e (sym z)) ∙ tally_at told k h
        ∙ sym (after ∙ ap (λ n. tally_of k told + n) (sym (no (same x k) 1 0 e refl)) ∙ add-zero _))

-- answers counted into the table of those before them: the table of all
pub counted_all : (told more : List ℕ) → counted (tallies_of told) more ≡ tallies_of (told ++ more)
unfolding counted
counted_all told [] = ap tallies_of (sym (append-nil told))
counted_all told (x ∷ more) =
    ap (λ t. counted t more) (tallies_one told x) ∙ counted_all (told ++ (x ∷ [])) more ∙ ap tallies_of (append_assoc told (x ∷ []) more)

-- no place of it is above the number of answers
tally_most : (k : ℕ) (told : List ℕ) → tally_of k told ≤ length told
unfolding tally_of keep pick
tally_most k [] = omega arith
tally_most k (x ∷ told) = kept (same x k) (keep (λ n. same n k) told) (tally_most k told)
  where
    kept : (b : Bool) (l : List ℕ) → length l ≤ length told → length (pick b (x ∷ l) l) ≤ suc (length told)
    kept true l h = omega arith
    kept false l h = omega arith

pub tallies_most : (told : List ℕ) (k : ℕ) → get_or (tallies_of told) k 0 ≤ length told
tallies_most told k =
    by_cases (less k answers_most) (λ e. omega (arith, tally_at told k (less_true _ _ e), tally_most k told))
    (λ e. omega (arith, get_or-eq_default (tallies_of told) 0 {n = k} (omega (arith, less_false _ _ e, tallies_length told answers_most 0))))

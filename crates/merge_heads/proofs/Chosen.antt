-- How the code's answers meet the definitions, one step for each test: a number or a label of the first list or of the second, and whether
-- two labels agree. And what is left of a loop that fills a room.
-- Assumes nothing.
use mathlib.Core.Path.{◌≡◌, refl, subst}
use mathlib.Core.List.{List}
use Prim.Native.Nat.{ℕ, ◌+◌, ◌*◌, ◌^◌, ◌≤◌, ◌<◌}
use lib.ListN.{length, get_or}
use Rattle.num_whole.specs.Tests.{less}
use Rattle.num_whole.proofs.Cases.{yes, no, is_less, not_less, less_true, less_false, by_cases}
use Rattle.norm_system.specs.declared.NormalLabel.{NormalLabel}
use Rattle.norm_kinds.specs.Kinds.{normal_label_at}
use Rattle.merge_heads.specs.Heads.{number_of_two, label_of_two, Short}

-- ---- a number of the one list or of the other
module _ (xs ys : List ℕ) (p q : ℕ) where
  pub number_first : p < length xs → get_or xs p 0 ≡ number_of_two xs ys p q
  unfolding number_of_two
  number_first h = yes _ _ _ (is_less p (length xs) h) refl

  pub number_second : length xs ≤ p → get_or ys q 0 ≡ number_of_two xs ys p q
  unfolding number_of_two
  number_second h = no _ _ _ (not_less p (length xs) h) refl

  pub number_short : Short xs → Short ys → number_of_two xs ys p q < 256 ^ 4
  number_short a b =
      by_cases (less p (length xs))
      (λ t. subst (λ n. n < 256 ^ 4) (number_first (less_true p (length xs) t)) (a p))
      (λ t. subst (λ n. n < 256 ^ 4) (number_second (less_false p (length xs) t)) (b q))

-- ---- a label of the one file or of the other
module _ (a : List ℕ) (start n : ℕ) (b : List ℕ) (begin p q : ℕ) {l : NormalLabel} where
  pub label_first : p < n → l ≡ normal_label_at a (start + 24 * p) → l ≡ label_of_two a start n b begin p q
  unfolding label_of_two
  label_first h e = yes _ _ _ (is_less p n h) e

  pub label_second : n ≤ p → l ≡ normal_label_at b (begin + 24 * q) → l ≡ label_of_two a start n b begin p q
  unfolding label_of_two
  label_second h e = no _ _ _ (not_less p n h) e

-- How the code's answers meet the definition, one step for each test: a file that is refused, 21 to 24, 20, and the file that is written.
-- Assumes nothing.
use Rattle.std.specs.Prelude.{Result, Ok, Err, MatchResult}
use mathlib.Core.Path.{◌≡◌, refl, sym, ap, ◌∙◌}
use mathlib.Core.List.{List}
use Prim.Native.Nat.{ℕ, ◌≤◌, ◌<◌}
use native.Mathlib.Omega.{arith}
use lib.ListN.{length}
use Rattle.num_whole.specs.Tests.{less, same}
use Rattle.num_whole.specs.Answer.{good, bad}
use Rattle.num_whole.proofs.Cases.{yes, no, is_same, not_same, is_less, not_less}
use Rattle.byte_words.specs.Words.{lay}
use Rattle.refusal.specs.First.{when}
use Rattle.refusal.proofs.Firsts.{when_true, when_false, first_pass, first_stop, first_one}
use Rattle.byte_section.proofs.Writing.{left_old, left_new}
use Rattle.norm_system.specs.System.{System}
use Rattle.norm_read.specs.Normal.{Normal, read_normal}
use Rattle.norm_read.specs.declared.NormalRead.{NormalRead}
use Rattle.merge_laws.specs.Merge.{merge_number}
use Rattle.merge.specs.Files.{Merging, wrote, in_file, refusing, merged_bytes, pair_number, pair_answer, pair_left, from_file, merge_answer, merge_left}
use Rattle.merge_put.specs.Parts.{normal_in, system_in_file, AsRead}

-- ---- two systems
module _ (x y : System) where
  module _ (room k : ℕ) (e : merge_number x y ≡ k) where
    stops : (k ≡ 0 → ⊥) → pair_number x y room ≡ k
    unfolding pair_number
    stops h = first_stop _ _ (λ z. h (sym e ∙ z)) ∙ e

    passes : k ≡ 0 → pair_number x y room ≡ when 20 (less room (length (merged_bytes x y)))
    unfolding pair_number
    passes h = first_pass _ _ (e ∙ h) ∙ first_one _

  -- nothing is written, and the room is as it was
  refused_by : (out : List ℕ) (k : ℕ) → pair_number x y (length out) ≡ k → (k ≡ 0 → ⊥) → (refusing k ≡ pair_answer x y (length out)) × (out ≡ pair_left x y out)
  unfolding pair_answer pair_left pair_number
  refused_by out k e h = (
    no _ _ _ (not_same _ 0 (λ z. h (sym e ∙ z))) (ap refusing (sym e)),
    left_old (merge_number x y) (merged_bytes x y) out (λ z. h (sym e ∙ z)),
  )

  pub pair_refused : (out : List ℕ) (k : ℕ) → merge_number x y ≡ k → (k ≡ 0 → ⊥) → (refusing k ≡ pair_answer x y (length out)) × (out ≡ pair_left x y out)
  pair_refused out k e h = refused_by out k (stops (length out) k e h) h

  module _ (accepted : merge_number x y ≡ 0) (out : List ℕ) where
    pub pair_short : length out < length (merged_bytes x y) → (refusing 20 ≡ pair_answer x y (length out)) × (out ≡ pair_left x y out)
    pair_short h =
        refused_by out 20 (passes (length out) 0 accepted refl ∙ when_true 20 _ (is_less (length out) (length (merged_bytes x y)) h)) (λ z. wrong z)
      where
        wrong : ◌≡◌ {A = ℕ} 20 0 → ⊥
        wrong z = omega arith

    pub pair_written : (n : ℕ) (left : List ℕ) → length (merged_bytes x y) ≤ length out → n ≡ length (merged_bytes x y) → left ≡ lay out 0 (merged_bytes x y)
        → (wrote n ≡ pair_answer x y (length out)) × (left ≡ pair_left x y out)
    unfolding pair_answer pair_left pair_number
    pair_written n left h e f =
        let z : pair_number x y (length out) ≡ 0 = passes (length out) 0 accepted refl ∙ when_false 20 _ (not_less (length out) (length (merged_bytes x y)) h) in
        (yes _ _ _ (is_same _ 0 z) (ap wrote e), f ∙ left_new (merge_number x y) (merged_bytes x y) out z)

-- ---- a result whose error was named
pub kept_ok : {T E : Type 0} (D : Type 0) (r : Result T E) (x : T) → MatchResult r (λ y. ◌≡◌ {A = Result T D} (Ok x) (Ok y)) (λ e. ⊥) → r ≡ Ok x
kept_ok D (Ok y) x h = cc
kept_ok D (Err e) x h = absurd h

pub kept_err : {T E D : Type 0} (r : Result T E) (d : D) (Q : E → Type 0) → MatchResult r (λ y. ◌≡◌ {A = Result T D} (Err d) (Ok y)) Q → (e : E) × (r ≡ Err e) × Q e
kept_err (Ok y) d Q h = cc
kept_err (Err e) d Q h = (e, refl, h)

-- ---- two files
module _ (a b : List ℕ) where
  pub first_bad : (number place : ℕ) (out : List ℕ) → read_normal a ≡ bad number place
      → (in_file 1 number place ≡ merge_answer a b (length out)) × (out ≡ merge_left a b out)
  unfolding merge_answer merge_left from_file
  first_bad number place out e = (rw e, rw e)

  pub second_bad : (x : Normal) (number place : ℕ) (out : List ℕ) → read_normal a ≡ good x → read_normal b ≡ bad number place
      → (in_file 2 number place ≡ merge_answer a b (length out)) × (out ≡ merge_left a b out)
  unfolding merge_answer merge_left from_file
  second_bad x number place out e f = (rw (e, f), rw (e, f))

  pub both_good : (out : List ℕ) → read_normal a ≡ good (normal_in a) → read_normal b ≡ good (normal_in b)
      → (pair_answer (system_in_file a) (system_in_file b) (length out) ≡ merge_answer a b (length out)) × (pair_left (system_in_file a) (system_in_file b) out ≡ merge_left a b out)
  unfolding merge_answer merge_left from_file system_in_file
  both_good out e f = (rw (e, f), rw (e, f))

  pub both_taken : (x y : NormalRead) (out left : List ℕ) (told : Merging) → AsRead a x → AsRead b y
      → (told ≡ pair_answer (system_in_file a) (system_in_file b) (length out)) × (left ≡ pair_left (system_in_file a) (system_in_file b) out)
      → (told ≡ merge_answer a b (length out)) × (left ≡ merge_left a b out)
  both_taken x y out left told t u e =
      let same = both_good out t.is u.is in
      (e.0 ∙ same.0, e.1 ∙ same.1)

-- A writer's answer and what it leaves in the buffer, whatever is judged before: the refusal's number k, 0 where nothing is wrong, then 20 for
-- too little room.
-- Assumes nothing.
use Prim.Native.Nat.{ℕ, ◌≤◌, ◌<◌}
use mathlib.Core.Path.{◌≡◌, refl, sym, ◌∙◌}
use mathlib.Core.List.{List, []}
use native.Mathlib.Omega.{arith}
use lib.ListN.{length}
use Rattle.num_whole.specs.Answer.{Answered, given, refused}
use Rattle.num_whole.proofs.Cases.{is_less, not_less}
use Rattle.byte_words.specs.Words.{lay}
use Rattle.byte_words.proofs.Words.{lay_out}
use Rattle.byte_section.specs.Told.{on_done}
use Rattle.byte_section.specs.Writing.{writing_number, written, written_in}
use Rattle.refusal.specs.Number.{number_of}
use Rattle.refusal.specs.declared.Refusal.{Refusal}
use Rattle.refusal.specs.declared.Refusal.TheVariants.{Room}
use Rattle.refusal.proofs.Apart.{not_none}
use Rattle.refusal.proofs.Firsts.{when_true, when_false, first_pass, first_by, first_one, answered_given, answered_refused, answered_by}

-- ---- what is left, by the answer
module _ {A : Type 0} (w : Answered A) (new old : List ℕ) where
  pub done_new : {a : A} → w ≡ given a → new ≡ on_done w new old
  unfolding on_done
  done_new e = rw e

  pub done_old : {k : ℕ} → w ≡ refused k → old ≡ on_done w new old
  unfolding on_done
  done_old e = rw e

-- an empty room stays so
pub none_laid : {A : Type 0} (w : Answered A) (bytes : List ℕ) → on_done w (lay [] 0 bytes) [] ≡ []
unfolding on_done
none_laid (given a) bytes = lay_out [] 0 bytes (omega arith)
none_laid (refused k) bytes = refl

-- ---- the answer
module _ (k : ℕ) (bytes out : List ℕ) where
  abbrev number : ℕ
  number = writing_number k bytes (length out)

  -- by the number
  pub left_old : (number ≡ 0 → ⊥) → out ≡ written_in k bytes out
  left_old h = done_old _ _ out (sym (answered_refused number (length bytes) h))

  pub left_new : number ≡ 0 → lay out 0 bytes ≡ written_in k bytes out
  left_new e = done_new _ _ out (sym (answered_given number (length bytes) e))

  kept : (r : Refusal) → number ≡ number_of r
      → (refused (number_of r) ≡ written k bytes (length out)) × (out ≡ written_in k bytes out)
  kept r e = (answered_by number (length bytes) r e, left_old (λ z. not_none r (sym e ∙ z)))

  pub on_refused : (r : Refusal) → k ≡ number_of r
      → (refused (number_of r) ≡ written k bytes (length out)) × (out ≡ written_in k bytes out)
  on_refused r e = kept r (sym (first_by k _ r e))

  module _ (sound : k ≡ 0) where
    pub on_short : length out < length bytes → (refused 20 ≡ written k bytes (length out)) × (out ≡ written_in k bytes out)
    on_short h = kept Room (first_pass k _ sound ∙ first_one _ ∙ when_true 20 _ (is_less _ _ h))

    pub on_written : length bytes ≤ length out
        → (given (length bytes) ≡ written k bytes (length out)) × (lay out 0 bytes ≡ written_in k bytes out)
    on_written h =
        let z : number ≡ 0 = first_pass k _ sound ∙ first_one _ ∙ when_false 20 _ (not_less _ _ h) in
        (answered_given number (length bytes) z, left_new z)
